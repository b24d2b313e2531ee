-- Payloads and links stay within their limits.
use Rattle.std.proofs.Common.{[], ap, arith, Bool, codes, cond, Err, false, find, length, List, nat_le, nat_lt, None}
use Rattle.std.proofs.Common.{Ok}
use Rattle.std.proofs.Common.{Option, refl, Result, Some, subst, sym, true, true≢false, ℕ, ℤ, ⊎_elim, ◌&&◌, ◌+◌, ◌<◌}
use Rattle.std.proofs.{Common.{◌==◌, ◌∙◌, ◌∷◌, ◌≡◌, ◌≤◌}, lemmas.{Bool.Decides.nat_tests, Option.none-some}}
use Rattle.std.proofs.lemmas.Option.{same_Some}
use Rattle.krs_types.specs.declared.{context.Context.Context, errno.Errno.{Errno, TheVariants.{EACCES, EINVAL}}}
use Rattle.krs_types.specs.declared.{errno.Errno.TheVariants.{ENOKEY}, key_id.KeyId.KeyId}
use Rattle.krs_types.specs.declared.kind.{Kind.TheVariants.Keyring, PayloadRule.{PayloadRule, TheVariants.NoBytes}}
use Rattle.krs_types.specs.declared.{kind.PayloadRule.TheVariants.SomeBytes, name.Name.Name}
use Rattle.krs_types.specs.{declared.rights.Want.TheVariants.Granted, KeyId.key_id_of}
use Rattle.krs_types.specs.{Kind.{described, paid_by, same_kind}, Refusing.{or_refuse}}
use Rattle.krs_types.specs.Rights.{has_all, WRITE}
use Rattle.krs_model.specs.{Access.{is_alive, rights_on}, Asks.Adding.{added, admitted, by_match, if_room, Made}}
use Rattle.krs_model.specs.Asks.{Adding.{new_key, over_match, Place, place_of, Updated}, Changing.{emptied}}
use Rattle.krs_model.specs.Asks.{Changing.{is_updatable, paid_with, updated}, Finding.{found_into, if_linkable}}
use Rattle.krs_model.specs.Asks.Linked.{cleared_content, linked_into}
use Rattle.krs_model.specs.{Asks.Linked.{unlinked_content}, Linking.{has_room, is_named, link_named}}
use Rattle.krs_model.specs.{Linking.{linked_content, linking, ring_links, with_link}, Lookup.look_up, Making.made_for}
use Rattle.krs_model.specs.{Possession.possessed, State.{Content, Key, Links, Payload, State}}
use Rattle.krs_model.specs.Table.{alter, at, map_values, put, Table}
use Rattle.krs_model.proofs.Asks.{Later.{bind_ok, same_ok}, LaterByAsk.{IsMoved, Moves, Stays}, Outcomes.Meets}
use Rattle.krs_model.proofs.{Asks.Outcomes.{meets_after, meets_ok}, Lookups.Laws.{in_by_match, look_up_usable}}
use Rattle.krs_model.proofs.MadeKeyring.Which.{IsMade, made_for_is, NoneMade, ProcessMade, ThreadMade}
use Rattle.krs_model.proofs.{Sound.Changes.{at_put, IsPut}, Tables.Each.{every_alter, every_map, every_put}}
use Rattle.krs_laws.specs.Limits.{IsShort}
use Rattle.krs_laws.proofs.QueueLimits.{filter_length}
use Rattle.std.proofs.lemmas.Grind.{common_steps}

pub record AllShort (keys : Table Key) : Type 0 where
  pub each : (k : ℕ) (key : Key) → at keys k ≡ Some key → IsShort key.content
  pub descs : (k : ℕ) (key : Key) → at keys k ≡ Some key → length key.desc ≤ 4095

abbrev IsShortKey : Key → Type 0
IsShortKey key = IsShort key.content

abbrev HasShortDesc : Key → Type 0
HasShortDesc key = length key.desc ≤ 4095

-- a change that leaves the description
abbrev pub LeavesDesc : (Key → Key) → Type 0
LeavesDesc f = (v : Key) → (f v).desc ≡ v.desc

left_short : (f : Key → Key) (v : Key) → LeavesDesc f → HasShortDesc v → HasShortDesc (f v)
left_short f v same short = subst (λ (desc : List ℕ). length desc ≤ 4095) (sym (same v)) short

pub short_put :
    (keys : Table Key) (n : ℕ) (v : Key) → IsShort v.content → length v.desc ≤ 4095 → AllShort keys
    → AllShort (put keys n v)
short_put keys n v short named all = record {
  each = every_put IsShortKey keys n v short all.each;
  descs = every_put HasShortDesc keys n v named all.descs;
}

pub short_alter :
    (keys : Table Key) (n : ℕ) (f : Key → Key)
    → ((v : Key) → at keys n ≡ Some v → IsShort v.content → IsShort (f v).content) → LeavesDesc f → AllShort keys
    → AllShort (alter keys n f)
short_alter keys n f stays same all = record {
  each = every_alter IsShortKey keys n f stays all.each;
  descs = every_alter HasShortDesc keys n f (λ v there. left_short f v same) all.descs;
}

pub short_map :
    (keys : Table Key) (f : Key → Key) → ((v : Key) → IsShort v.content → IsShort (f v).content) → LeavesDesc f
    → AllShort keys → AllShort (map_values f keys)
short_map keys f stays same all = record {
  each = every_map IsShortKey keys f stays all.each;
  descs = every_map HasShortDesc keys f (λ v. left_short f v same) all.descs;
}

pub unlinked_short : (serial : ℕ) (content : Content) → IsShort content → IsShort (unlinked_content serial content)
unlinked_short serial (Payload bytes) short = short
unlinked_short serial (Links links) short = grind (arith, common_steps, filter_length)

pub cleared_short : (content : Content) → IsShort content → IsShort (cleared_content content)
cleared_short (Payload bytes) short = short
cleared_short (Links links) short = omega arith

pub emptied_short : (content : Content) → IsShort content → IsShort (emptied content)
emptied_short (Payload bytes) short = omega arith
emptied_short (Links links) short = omega arith

pub both : (a b : Bool) → (a && b) ≡ true → (a ≡ true) × (b ≡ true)
both true b h = (refl, h)
both false b h = absurd (true≢false (sym h))

-- a payload that a type takes
bounded : (payload : List ℕ) (x : Unit {0}) (b : Bool)
    → (nat_le 1 (length payload) && nat_le (length payload) 32767) ≡ b
    → cond b (Ok tt) (Err EINVAL) ≡ Ok x → length payload ≤ 32767
bounded payload x true is h = grind (arith, common_steps, both, nat_le, nat_tests)
bounded payload x false is h = cc

nothing_paid : (payload : List ℕ) (x : Unit {0}) (b : Bool) → (length payload == 0) ≡ b
    → cond b (Ok tt) (Err EINVAL) ≡ Ok x → length payload ≤ 32767
nothing_paid payload x true is h = grind (arith, nat_tests)
nothing_paid payload x false is h = cc

pub paid_short :
    (rule : PayloadRule) (payload : List ℕ) (x : Unit {0}) → paid_by rule payload ≡ Ok x → length payload ≤ 32767
paid_short SomeBytes payload x h = bounded payload x _ refl h
paid_short NoBytes payload x h = nothing_paid payload x _ refl h

pub updated_short : (payload : List ℕ) (content : Content) → length payload ≤ 32767 → IsShort content
    → IsShort (paid_with payload content)
updated_short payload (Payload bytes) fits short = fits
updated_short payload (Links links) fits short = short

-- ---- one link more
room_below : (links : List ℕ) (x : Unit {0}) → has_room links None ≡ Ok x → length links < 65535
room_below links x h = grind (arith, common_steps, nat_le, nat_tests)

one_more : (p : ℕ → Bool) (links : List ℕ) (serial : ℕ) → length (with_link p links serial) ≤ length links + 1
one_more p [] serial = omega arith
one_more p (k ∷ links) serial = grind (arith, common_steps, one_more p links serial)

displacing : (p : ℕ → Bool) (links : List ℕ) (serial d : ℕ) → find p links ≡ Some d
    → length (with_link p links serial) ≤ length links
displacing p [] serial d h = absurd (none-some d h)
displacing p (k ∷ links) serial d h =
    elim (p k) as (λ b. cond b (Some k) (find p links) ≡ Some d
    → length (cond b (serial ∷ links) (k ∷ with_link p links serial)) ≤ length (k ∷ links)) [
      | true ↦ λ e. omega arith
      | false ↦ λ e. let later = displacing p links serial d e in omega arith
    ] h

linked_length :
    (p : ℕ → Bool) (links : List ℕ) (serial : ℕ) (o : Option ℕ) (x : Unit {0}) → find p links ≡ o
    → has_room links o ≡ Ok x → length links ≤ 65535 → length (with_link p links serial) ≤ 65535
linked_length p links serial None x is room short = grind (arith, common_steps, room_below, one_more)
linked_length p links serial (Some d) x is room short = grind (arith, common_steps, displacing)

links_are : (content : Content) (links : List ℕ) → ring_links content ≡ Ok links → content ≡ Links links
links_are (Payload bytes) links h = cc
links_are (Links serials) links h = cc

room_short :
    (keys : Table Key) (name : Name) (serial : ℕ) (content : Content) (links : List ℕ) (x : Unit {0})
    → content ≡ Links links → has_room links (link_named keys name links) ≡ Ok x → IsShort content
    → IsShort (linked_content (λ k. is_named name (at keys k)) serial content)
room_short keys name serial content links x is room short = grind (arith, common_steps, linked_length)

-- a link more in a keyring that is there
pub linked_short :
    (s new : State) (into found : ℕ × Key) → at s.keys into.0 ≡ Some into.1 → linked_into s into found ≡ Ok new
    → AllShort s.keys → AllShort new.keys
linked_short s new into found there linked all =
    grind (arith, common_steps, bind_ok, same_ok, short_alter, same_Some, links_are, room_short)

pub moved_short :
    (s : State) (found from into : ℕ × Key) (new : State) → at s.keys into.0 ≡ Some into.1
    → IsMoved s found from into new
    → AllShort s.keys → AllShort new.keys
moved_short s found from into _ there Stays all = all
moved_short s found from into _ there (Moves mid linked) all =
    grind (arith, common_steps, short_alter, unlinked_short, linked_short)

made_is_short :
    (s : State) (number : ℕ) (c : Context) (id : Result KeyId Errno) (made : State × Context)
    → IsMade s number c id made
    → AllShort s.keys → AllShort made.0.keys
made_is_short s number c id _ NoneMade all = all
made_is_short s number c id _ (ThreadMade is yet) all = grind (arith, common_steps, short_put, codes)
made_is_short s number c id _ (ProcessMade is yet) all = grind (arith, common_steps, short_put, codes)

pub made_short :
    (s : State) (number : ℕ) (c : Context) (id : ℤ) → AllShort s.keys → AllShort (made_for s number c id).0.keys
made_short s number c id all =
    made_is_short s number c (key_id_of id) (made_for s number c id) (made_for_is s number c id) all

pub found_short :
    (s : State) (c : Context) (dest : ℤ) (into : ℕ × Key) (answer : Result ℕ Errno)
    → look_up s c dest (Granted WRITE) ≡ Ok into → AllShort s.keys
    → Meets (λ (new : State). AllShort new.keys) (found_into s c into answer)
found_short s c dest into answer goes all =
    meets_after answer _ (λ serial _.
    meets_after (or_refuse ENOKEY (at s.keys serial)) _ (λ key _.
    meets_after (if_linkable s c serial key) _ (λ found _.
    meets_after (linked_into s into found) _ (λ new linked.
    meets_ok (linked_short s new into found (look_up_usable s c dest (Granted WRITE) into goes).there linked all)))))

-- ---- ADD
pub admitted_short :
    (type_name desc payload : List ℕ) (name : Name) → admitted type_name desc payload ≡ Ok name → length payload ≤ 32767
unfolding admitted
admitted_short type_name desc payload name h = grind (arith, common_steps, bind_ok, paid_short)

-- and its description
bad_text : (desc : List ℕ) (x : Unit {0}) → described desc ≡ Ok x → length desc ≤ 4095
bad_text desc x h = grind (arith, common_steps, nat_lt, nat_tests)

pub admitted_named :
    (type_name desc payload : List ℕ) (name : Name) → admitted type_name desc payload ≡ Ok name
    → length name.desc ≤ 4095
unfolding admitted
admitted_named type_name desc payload name h = grind (arith, common_steps, bind_ok, bad_text)

-- a further link fits into the keyring
abbrev Takes : State → Name → List ℕ → Type 0
Takes s name links =
    (serial : ℕ) → length links ≤ 65535 → length (with_link (λ k. is_named name (at s.keys k)) links serial) ≤ 65535

room_takes :
    (s : State) (name : Name) (links : List ℕ) (o : Option ℕ) (x : Unit {0}) → has_room links o ≡ Ok x
    → ((d : ℕ) → o ≡ Some d → link_named s.keys name links ≡ Some d) → Takes s name links
room_takes s name links None x room is serial short =
    let below = room_below links x room in
    let more = one_more (λ k. is_named name (at s.keys k)) links serial in
    omega arith
room_takes s name links (Some d) x room is serial short =
    let same = displacing (λ k. is_named name (at s.keys k)) links serial d (is d refl) in omega arith

if_room_takes :
    (s : State) (name : Name) (ring : ℕ × Key) (links : List ℕ) (o : Option ℕ) (place : Place)
    → if_room s ring links o ≡ Ok place → ((d : ℕ) → o ≡ Some d → link_named s.keys name links ≡ Some d)
    → Takes s name links
if_room_takes s name ring links o place h is = grind (arith, common_steps, bind_ok, room_takes)

-- a new key's place is one that takes it
abbrev TakesAt : State → Name → List ℕ → Place → Type 0
TakesAt s name links (Updated f) = Unit {0}
TakesAt s name links (Made r) = Takes s name links

takes_at : (s : State) (name : Name) (links : List ℕ) (place : Place) → Takes s name links → TakesAt s name links place
takes_at s name links (Updated f) takes = tt
takes_at s name links (Made r) takes = takes

no_link : (d : ℕ) {A : Type 0} (o : Option ℕ) → o ≡ None → o ≡ Some d → A
no_link d o none some = absurd (none-some d (sym none ∙ some))

match_takes :
    (s : State) (c : Context) (name : Name) (ring : ℕ × Key) (links : List ℕ) (found : ℕ)
    (o : Option Key) (place : Place)
    → link_named s.keys name links ≡ Some found → over_match s c ring links found o ≡ Ok place
    → TakesAt s name links place
match_takes s c name ring links found None place is h =
    takes_at s name links place (if_room_takes s name ring links None place h (λ d e. no_link d None refl e))
match_takes s c name ring links found (Some key) place is h =
    let grants = has_all (rights_on key c.caller (possessed s c found)) WRITE in
    elim (is_alive s.clock key && is_updatable key.kind) as (λ b. cond b
    (cond grants (Ok (Updated found)) (Err EACCES)) (if_room s ring links (Some found)) ≡ Ok place
    → TakesAt s name links place) [
      | true ↦ λ e. elim grants as (λ b. cond b (Ok (Updated found)) (Err EACCES) ≡ Ok place
          → TakesAt s name links place) [
            | true ↦ λ d. subst (TakesAt s name links) (same_ok (Ok (Updated found)) (Updated found) place refl d) tt
            | false ↦ λ d. cc
          ] e
      | false ↦ λ e. takes_at s name links place
          (if_room_takes s name ring links (Some found) place e (λ d same. is ∙ same))
    ] h

by_match_takes :
    (s : State) (c : Context) (name : Name) (ring : ℕ × Key) (links : List ℕ) (found : Option ℕ) (place : Place)
    → link_named s.keys name links ≡ found → by_match s c ring links found ≡ Ok place → TakesAt s name links place
by_match_takes s c name ring links None place is h =
    takes_at s name links place (if_room_takes s name ring links None place h (λ d e. no_link d None refl e))
by_match_takes s c name ring links (Some found) place is h =
    match_takes s c name ring links found (at s.keys found) place is h

first_short :
    (ring : Bool) (payload : List ℕ) → length payload ≤ 32767 → IsShort (cond ring (Links []) (Payload payload))
first_short true payload fits = omega arith
first_short false payload fits = fits

links_short :
    (p : ℕ → Bool) (serial : ℕ) (content : Content) (links : List ℕ) → content ≡ Links links
    → (length links ≤ 65535 → length (with_link p links serial) ≤ 65535) → IsShort content
    → IsShort (linked_content p serial content)
links_short p serial content links is takes short = grind (arith, common_steps)

pub added_short :
    (s : State) (c : Context) (name : Name) (payload : List ℕ) (id : ℤ) (place : Place)
    → place_of s c name id ≡ Ok place
    → at s.keys s.next_serial ≡ None → length payload ≤ 32767 → length name.desc ≤ 4095 → AllShort s.keys
    → AllShort (added s c name payload place).keys
unfolding place_of
added_short s c name payload id (Updated serial) h none fits named all =
    short_alter s.keys serial (updated payload) (λ v _ short. updated_short payload v.content fits short) (λ v. refl)
    all
added_short s c name payload id (Made r) h none fits named all =
    let n = s.next_serial in
    let key = new_key name payload c.caller.uid c.caller.gid in
    let a = bind_ok (look_up s c id (Granted WRITE)) _ (Made r) h in
    let b = bind_ok (ring_links a.0.1.content) _ (Made r) a.2 in
    let takes = by_match_takes s c name a.0 b.0 (link_named s.keys name b.0) (Made r) refl b.2 in
    let here : r ≡ a.0.0 = in_by_match s c a.0 r b.0 (link_named s.keys name b.0) b.2 in
    let there : at s.keys r ≡ Some a.0.1 =
    ap (λ (z : ℕ). at s.keys z) here ∙ (look_up_usable s c id (Granted WRITE) a.0 a.1).there in
    short_alter (put s.keys n key) r (linking s.keys name n)
    (λ v now short.
    let was : at s.keys r ≡ Some v =
    ⊎_elim (λ (p : IsPut s.keys n key r). absurd
    (none-some a.0.1 (sym (ap (λ (z : ℕ). at s.keys z) p.0 ∙ none) ∙ there)))
    (λ e. sym e ∙ now) (at_put s.keys n r key) in
    let same : a.0.1 ≡ v = same_Some a.0.1 v (sym there ∙ was) in
    links_short (λ k. is_named name (at s.keys k)) n v.content b.0
    (ap (λ (z : Key). z.content) (sym same) ∙ links_are a.0.1.content b.0 b.1) (takes n) short)
    (λ v. refl) (short_put s.keys n key (first_short (same_kind name.kind Keyring) payload fits) named all)
