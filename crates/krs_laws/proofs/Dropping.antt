-- An ask that isn't long leaves held what was held, but for one key that links nothing.
use Rattle.std.proofs.Common.{[], ⊎_elim, ◌+◌, ◌==◌, ◌∙◌, ◌∷◌, ◌≡◌, ◌⊎◌, ap, arith, Bool, bytes_eq, cond, false}
use Rattle.std.proofs.Common.{find, inl, inr, List, None, Ok, Option, option_map, option_to_list, refl, Result, Some}
use Rattle.std.proofs.Common.{subst, sym, true, true≢false, unwrap_or, ℕ, ℤ}
use Rattle.std.proofs.lemmas.{Bool.Decides.nat_tests, Option.{none-some, same_Some}}
use Rattle.krs_types.specs.{KeyId.key_id_of, Rows.{names_keyrings, row_of}}
use Rattle.krs_types.specs.Kind.{kind_name, kind_named, same_kind}
use Rattle.krs_types.specs.declared.ask.Op.{Op, TheVariants.{Add, Clear, CloseQueue, Exec, Exit, Invalidate, Join}}
use Rattle.krs_types.specs.declared.ask.Op.TheVariants.{Leave, Link, Move, Request, Revoke, Search, Unlink}
use Rattle.krs_types.specs.declared.{caller.Caller.Caller, context.{Context.Context, UidRings.UidRings}}
use Rattle.krs_types.specs.declared.errno.Errno.{Errno}
use Rattle.krs_types.specs.declared.{event.Event.Event, key_id.KeyId.KeyId, kind.Kind.{Kind, TheVariants.Keyring}}
use Rattle.krs_types.specs.declared.name.Name.{Name}
use Rattle.krs_types.proofs.KindRows.{equal_kinds}
use Rattle.krs_model.specs.Asks.Adding.{add, added, admitted, Made, new_key, Place, place_of, Updated}
use Rattle.krs_model.specs.Asks.{Changing.{changed, paid_with, updated}, Finding.made_where}
use Rattle.krs_model.specs.Asks.Hello.{with_context, with_uid}
use Rattle.krs_model.specs.{Levels.is_in, Linking.{is_named, with_link}, Lookup.context_of}
use Rattle.krs_model.specs.Making.{made_for, thread_to, with_process, with_thread}
use Rattle.krs_model.specs.{Possession.links_of_content, Queues.{Queues, with_queues}, Reach.links_of_key_at}
use Rattle.krs_model.specs.Sound.{is_links, IsFitting, IsSound}
use Rattle.krs_model.specs.State.{Content, Key, Links, Payload, raised, State}
use Rattle.krs_model.specs.{Step.{each_ask, outcome_of, Step}, Table.{alter, at, put, Rises, Table}}
use Rattle.krs_model.specs.Sweep.{AllHeld, Attached, context_roots, IsHeld, Linked, links_of_key, process_roots, roots}
use Rattle.krs_model.specs.Sweep.{uid_roots}
use Rattle.krs_model.proofs.Asks.{Later.{bind_ok, same_ok, same_state}, Outcomes.{Meets, meets_after, meets_ok}}
use Rattle.krs_model.proofs.{Asks.Outcomes.meets_within, Lookups.Serials.{own_there, refused_is}}
use Rattle.krs_model.proofs.MadeKeyring.Which.{IsMade, made_for_is, NoneMade, ProcessMade, ThreadMade}
use Rattle.krs_model.proofs.Reach.Levels.{in_one, in_right, or_true, true_or}
use Rattle.krs_model.proofs.Sound.Attached.{attached_at, attached_by, attached_entry, attachments, context_keys}
use Rattle.krs_model.proofs.Sound.Attached.{in_context, in_process, in_uid, uid_keys}
use Rattle.krs_model.proofs.Sound.Changes.{at_change, at_further, at_put, IsChanged, LinksTo, Stands}
use Rattle.krs_model.proofs.Sound.{Changes.with_linked, Links.named_same}
use Rattle.krs_model.proofs.Sound.Steps.{legal_sound, raised_sound, sound_stands}
use Rattle.krs_model.proofs.Sound.NewContexts.{made_for_stands, some_there, with_uid_stands}
use Rattle.krs_model.proofs.{Sweep.Laws.linking_is_there, Tables.{Changes.at_put_none, Entries.rises_distinct}}
use Rattle.krs_laws.specs.{Integrity.ChangesByRight, Marks.{DropsOneAtMost, IsDropped, ShortAsksDropOneAtMost}}
use Rattle.krs_laws.proofs.ByRight.{step_by_right}
use Rattle.std.proofs.lemmas.Grind.{common_steps}

-- what is attached and linked stays so
record Grows (s t : State) : Type 0 where
  pub attached : (k : ℕ) → is_in k (roots s) ≡ true → is_in k (roots t) ≡ true
  pub linked : (j k : ℕ) → LinksTo k (at s.keys j) → LinksTo k (at t.keys j)

-- so it does, but for the links of one key, which links nothing
record Spares (s t : State) : Type 0 where
  pub but : Option ℕ
  pub attached : (k : ℕ) → is_in k (roots s) ≡ true → is_in k (roots t) ≡ true
  pub linked : (j k : ℕ) → LinksTo k (at s.keys j) → (LinksTo k (at t.keys j)) ⊎ (but ≡ Some k)
  pub barren : (j k : ℕ) → but ≡ Some j → LinksTo k (at s.keys j) → ⊥

grows_same : (s : State) → Grows s s
grows_same s = record { attached = λ k i. i; linked = λ j k i. i }

grows_on : (s t u : State) → Grows s t → Grows t u → Grows s u
grows_on s t u first then = grind (arith, common_steps)

spares_on : (s t u : State) → Grows s t → Spares t u → Spares s u
spares_on s t u first then = grind (arith, common_steps)

grown_spares : (s t : State) → Grows s t → Spares s t
grown_spares s t grows = grind (arith, common_steps, none-some)

-- ---- what a step drops
still_held :
    (s t : State) (k : ℕ) (spares : Spares s t) → IsHeld s.keys (roots s) k
    → (IsHeld t.keys (roots t) k) ⊎ (spares.but ≡ Some k)
still_held s t _ spares (Attached k i) = inl (Attached k (spares.attached k i))
still_held s t _ spares (Linked j k held i) =
    ⊎_elim (λ (there : IsHeld t.keys (roots t) j).
    ⊎_elim (λ (link : LinksTo k (at t.keys j)). inl (Linked j k there link)) (λ gone. inr gone) (spares.linked j k i))
    (λ gone. absurd (spares.barren j k gone i)) (still_held s t j spares held)

one_dropped :
    (s new : State) (event : Event) → AllHeld s → ChangesByRight s event new
    → Meets (Spares s) (outcome_of s event.lane event.ask.context event.ask.op) → DropsOneAtMost s new
one_dropped s new event held right spared = λ j k a b.
    let first = right.gone j a.key a.was a.gone in
    let spares = spared.meets first.left first.answer first.meant in
    let is : (q : ℕ) → IsDropped s.keys new.keys q → spares.but ≡ Some q = λ q drop.
    let gone = right.gone q drop.key drop.was drop.gone in
    let same = same_state (outcome_of s event.lane event.ask.context event.ask.op) first.left gone.left
    first.answer gone.answer first.meant gone.meant in
    ⊎_elim (λ (still : IsHeld first.left.keys (roots first.left) q).
    absurd (gone.unheld (subst (λ (t : State). IsHeld t.keys (roots t) q) same still))) (λ but. but)
    (still_held s first.left q spares (held q (some_there s.keys q drop.key drop.was))) in
    same_Some j k (sym (is j a) ∙ is k b)

-- ---- attachments and keys that come
attached_stays :
    {X : Type 0} (g : X → List ℕ) (es fs : Table X) (q : ℕ) → Rises es
    → ((n : ℕ) (v : X) → at es n ≡ Some v → is_in q (g v) ≡ true
    → (w : X) × (at fs n ≡ Some w) × (is_in q (g w) ≡ true))
    → is_in q (attachments g es) ≡ true → is_in q (attachments g fs) ≡ true
attached_stays {X} g es fs q rises stays h =
    let e = attached_entry g es q (rises_distinct es rises) h in
    let still = stays e.number e.value e.there e.holds in
    attached_at g fs e.number still.0 q still.1 still.2

attached_put :
    {X : Type 0} (g : X → List ℕ) (es : Table X) (n : ℕ) (v : X) (q : ℕ) → Rises es → at es n ≡ None
    → is_in q (attachments g es) ≡ true → is_in q (attachments g (put es n v)) ≡ true
attached_put {X} g es n v q rises none = grind (arith, common_steps, attached_stays, ⊎_elim, none-some, at_put)

attached_alter :
    {X : Type 0} (g : X → List ℕ) (es : Table X) (n : ℕ) (f : X → X) (q : ℕ) → Rises es
    → ((v : X) → at es n ≡ Some v → is_in q (g v) ≡ true → is_in q (g (f v)) ≡ true)
    → is_in q (attachments g es) ≡ true → is_in q (attachments g (alter es n f)) ≡ true
attached_alter {X} g es n f q rises keeps =
    attached_stays g es (alter es n f) q rises (λ m v there i.
    ⊎_elim (λ (r : IsChanged es n f m).
    (f v, r.1 ∙ ap (option_map f) there, keeps v (subst (λ (z : ℕ). at es z ≡ Some v) r.0 there) i))
    (λ e. (v, e ∙ there, i)) (at_change es n m f))

-- the attachments of each kind stay
roots_stay :
    (s t : State)
    → ((k : ℕ) → is_in k (context_roots s.contexts) ≡ true → is_in k (context_roots t.contexts) ≡ true)
    → ((k : ℕ) → is_in k (process_roots s.processes) ≡ true → is_in k (process_roots t.processes) ≡ true)
    → ((k : ℕ) → is_in k (uid_roots s.uids) ≡ true → is_in k (uid_roots t.uids) ≡ true)
    → (k : ℕ) → is_in k (roots s) ≡ true → is_in k (roots t) ≡ true
roots_stay s t contexts processes uids k = grind (arith, common_steps, attached_by, in_context, in_process, in_uid)

links_put :
    (es : Table Key) (n : ℕ) (v : Key) (j k : ℕ) → at es n ≡ None → LinksTo k (at es j) → LinksTo k (at (put es n v) j)
links_put es n v j k none i = subst (LinksTo k) (sym (at_further es n j v none (linking_is_there k (at es j) i))) i

-- ---- contexts, and keyrings that are made
thread_grows : (s : State) (c : Context) → Stands s
    → Grows s (record s { contexts = put s.contexts s.next_context c; next_context = s.next_context + 1 })
thread_grows s c stands =
    let t : State = record s { contexts = put s.contexts s.next_context c; next_context = s.next_context + 1 } in
    record {
      attached = roots_stay s t
          (λ k h. attached_put context_keys s.contexts s.next_context c k stands.housed.contexts_rise
          (stands.housed.unused s.next_context (omega arith)) h)
          (λ k h. h) (λ k h. h);
      linked = λ j k i. i;
    }

entered_grows : (s : State) (client : ℕ) (c : Caller) (session : Option ℕ) → Stands s
    → Grows s (with_context s client c session)
entered_grows s client c session stands = record {
  attached = roots_stay s (with_context s client c session)
      (λ k h. attached_put context_keys s.contexts s.next_context _ k stands.housed.contexts_rise
      (stands.housed.unused s.next_context (omega arith)) h)
      (λ k h. attached_put option_to_list s.processes s.next_context None k stands.housed.processes_rise
      (stands.housed.no_process s.next_context (omega arith)) h)
      (λ k h. h);
  linked = λ j k i. i;
}

uid_grows : (s : State) (c : Caller) (rings : Option UidRings) → at s.uids c.uid ≡ rings → Stands s
    → Grows s (with_uid s c rings)
uid_grows s c (Some rings) is stands = grows_same s
uid_grows s c None is stands =
    let n = s.next_serial in
    let none = stands.unused n (omega arith) in
    record {
      attached = roots_stay s (with_uid s c None) (λ k h. h) (λ k h. h)
          (λ k h. attached_put uid_keys s.uids c.uid _ k stands.housed.uids_rise is h);
      linked = λ j k i.
          links_put (put s.keys n _) (n + 1) _ j k
          (at_put_none s.keys n (n + 1) _ (omega arith) (stands.unused (n + 1) (omega arith)))
          (links_put s.keys n _ j k none i);
    }

hello_grows : (s : State) (client : ℕ) (c : Caller) (session : Option ℕ) → Stands s
    → Grows s (with_context (with_uid s c (at s.uids c.uid)) client c session)
hello_grows s client c session stands =
    let t = with_uid s c (at s.uids c.uid) in
    grows_on s t _ (uid_grows s c (at s.uids c.uid) refl stands)
    (entered_grows t client c session (with_uid_stands s c (at s.uids c.uid) stands))

unattached : {A : Type 0} (q : ℕ) (o : Option ℕ) → o ≡ None → is_in q (option_to_list o) ≡ true → A
unattached q o none i = absurd (true≢false (sym i ∙ ap (λ (z : Option ℕ). is_in q (option_to_list z)) none))

threaded_keeps : (n q : ℕ) (v : Context) → v.thread ≡ None → is_in q (context_keys v) ≡ true
    → is_in q (context_keys (thread_to n v)) ≡ true
threaded_keeps n q v none i = grind (arith, common_steps, ⊎_elim, unattached, in_right, option_to_list, in_one)

is_made_grows :
    (s : State) (number : ℕ) (c : Context) (id : Result KeyId Errno) (made : State × Context)
    → IsMade s number c id made → at s.contexts number ≡ Some c → Stands s → Grows s made.0
is_made_grows s number c id _ NoneMade own stands = grows_same s
is_made_grows s number c id _ (ThreadMade is none) own stands = record {
  attached = roots_stay s (with_thread s number c)
      (λ k h. attached_alter context_keys s.contexts number (thread_to s.next_serial) k stands.housed.contexts_rise
      (λ v there i. threaded_keeps s.next_serial k v
      (ap (λ (z : Context). z.thread) (same_Some v c (sym there ∙ own)) ∙ none) i) h)
      (λ k h. h) (λ k h. h);
  linked = λ j k i. links_put s.keys s.next_serial _ j k (stands.unused s.next_serial (omega arith)) i;
}
is_made_grows s number c id _ (ProcessMade is none) own stands = record {
  attached = roots_stay s (with_process s c) (λ k h. h)
      (λ k h. attached_alter option_to_list s.processes c.process (λ ring. Some s.next_serial) k
      stands.housed.processes_rise
      (λ v there i. unattached k v (sym (ap (λ (o : Option (Option ℕ)). unwrap_or o None) there) ∙ none) i) h)
      (λ k h. h);
  linked = λ j k i. links_put s.keys s.next_serial _ j k (stands.unused s.next_serial (omega arith)) i;
}

made_grows : (s : State) (client number : ℕ) (c : Context) (id : ℤ) → context_of s client number ≡ Ok c → Stands s
    → Grows s (made_for s number c id).0
made_grows s client number c id own stands =
    is_made_grows s number c (key_id_of id) (made_for s number c id) (made_for_is s number c id)
    (own_there s client number c own) stands

where_grows : (create : Bool) (s : State) (client number : ℕ) (c : Context) (id : ℤ) → context_of s client number ≡ Ok c
    → Stands s → Grows s (made_where create s number c id).0
where_grows true s client number c id own stands = made_grows s client number c id own stands
where_grows false s client number c id own stands = grows_same s

-- ---- keys that are changed
queues_grows : (s : State) (q : Queues) → Grows s (with_queues s q)
queues_grows s q = record { attached = λ k i. i; linked = λ j k i. i }

mapped_links : (f : Key → Key) (o : Option Key) (k : ℕ)
    → ((v : Key) → is_in k (links_of_content v.content) ≡ true → is_in k (links_of_content (f v).content) ≡ true)
    → LinksTo k o → LinksTo k (option_map f o)
mapped_links f None k keeps i = i
mapped_links f (Some v) k keeps i = keeps v i

changed_grows :
    (s : State) (n : ℕ) (f : Key → Key)
    → ((k : ℕ) (v : Key) → is_in k (links_of_content v.content) ≡ true
    → is_in k (links_of_content (f v).content) ≡ true) → Grows s (changed s n f)
changed_grows s n f keeps = grind (arith, common_steps, ⊎_elim, mapped_links, at_change)

paid_links : (payload : List ℕ) (content : Content) (k : ℕ) → is_in k (links_of_content content) ≡ true
    → is_in k (links_of_content (paid_with payload content)) ≡ true
paid_links payload (Payload bytes) k i = i
paid_links payload (Links links) k i = i

updated_grows : (s : State) (n : ℕ) (payload : List ℕ) → Grows s (changed s n (updated payload))
updated_grows s n payload = changed_grows s n (updated payload) (λ k v i. paid_links payload v.content k i)

-- ---- ADD
found_passes : {X : Type 0} (p : X → Bool) (xs : List X) (x : X) → find p xs ≡ Some x → p x ≡ true
found_passes p [] x h = absurd (none-some x h)
found_passes p (y ∷ ys) x h =
    elim (p y) as (λ b. p y ≡ b → cond b (Some y) (find p ys) ≡ Some x → p x ≡ true) [
      | true ↦ λ t e. ap p (sym (same_Some y x e)) ∙ t
      | false ↦ λ t e. found_passes p ys x e
    ] refl h

-- a link stays, or is the one that is displaced
in_or_displaced :
    (p : ℕ → Bool) (links : List ℕ) (n k : ℕ) → is_in k links ≡ true
    → (is_in k (with_link p links n) ≡ true) ⊎ (find p links ≡ Some k)
in_or_displaced p [] n k h = absurd (true≢false (sym h))
in_or_displaced p (x ∷ links) n k h =
    elim (p x) as (λ b. (is_in k (cond b (n ∷ links) (x ∷ with_link p links n)) ≡ true)
    ⊎ (cond b (Some x) (find p links) ≡ Some k)) [
      | true ↦ ⊎_elim (λ (e : (x == k) ≡ true). let same : x ≡ k = grind (arith, nat_tests) in inr (ap Some same))
          (λ (later : is_in k links ≡ true). inl (or_true (n == k) (is_in k links) later))
          (true_or (x == k) (is_in k links) h)
      | false ↦ ⊎_elim (λ (e : (x == k) ≡ true). inl (rw e refl))
          (λ (later : is_in k links ≡ true).
          ⊎_elim (λ still. inl (or_true (x == k) (is_in k (with_link p links n)) still)) (λ gone. inr gone)
          (in_or_displaced p links n k later))
          (true_or (x == k) (is_in k links) h)
    ]

linked_or_displaced :
    (p : ℕ → Bool) (n : ℕ) (o : Option Key) (k : ℕ) → LinksTo k o
    → (LinksTo k (option_map (with_linked p n) o)) ⊎ (find p (links_of_key o) ≡ Some k)
linked_or_displaced p n None k i = inl i
linked_or_displaced p n (Some ring) k i = grind (arith, common_steps, in_or_displaced)

payload_links : (content : Content) (k : ℕ) → is_links content ≡ false → is_in k (links_of_content content) ≡ true → ⊥
payload_links (Payload bytes) k plain i = true≢false (sym i)
payload_links (Links links) k plain i = true≢false plain

-- a key of a name that is of no keyring links nothing
plain_links :
    (name : Name) (o : Option Key) (k : ℕ) → same_kind name.kind Keyring ≡ false
    → ((key : Key) → o ≡ Some key → IsFitting key) → is_named name o ≡ true → LinksTo k o → ⊥
plain_links name None k plain fits is i = true≢false (sym is)
plain_links name (Some key) k plain fits is i = grind (arith, common_steps, payload_links, named_same)

added_spares :
    (s : State) (c : Context) (name : Name) (payload : List ℕ) (place : Place) → same_kind name.kind Keyring ≡ false
    → Stands s → Spares s (added s c name payload place)
added_spares s c name payload (Updated serial) plain stands =
    grown_spares s _ (updated_grows s serial payload)
added_spares s c name payload (Made ring) plain stands =
    let n = s.next_serial in
    let none = stands.unused n (omega arith) in
    let key = new_key name payload c.caller.uid c.caller.gid in
    let one = put s.keys n key in
    let p : ℕ → Bool = λ k. is_named name (at s.keys k) in
    record {
      but = find p (links_of_key_at s.keys ring);
      attached = λ k i. i;
      linked = λ j k i.
          let was : at one j ≡ at s.keys j = at_further s.keys n j key none (linking_is_there k (at s.keys j) i) in
          ⊎_elim (λ (r : IsChanged one ring (with_linked p n) j).
          ⊎_elim (λ link. inl (subst (LinksTo k) (sym (r.1 ∙ ap (option_map (with_linked p n)) was)) link))
          (λ gone. inr (subst (λ (z : ℕ). find p (links_of_key_at s.keys z) ≡ Some k) r.0 gone))
          (linked_or_displaced p n (at s.keys j) k i))
          (λ e. inl (subst (LinksTo k) (sym (e ∙ was)) i)) (at_change one ring j (with_linked p n));
      barren = λ j k is i.
          plain_links name (at s.keys j) k plain (λ v there. stands.fitting j v there)
          (found_passes p (links_of_key_at s.keys ring) j is) i;
    }

named_as : (type_name : List ℕ) (kind : Kind) → kind_named type_name ≡ Ok kind
    → bytes_eq type_name (kind_name kind) ≡ true
named_as type_name kind h = grind (arith, common_steps, bytes_eq, found_passes, refused_is)

-- what isn't named as keyrings are is of another type
admitted_plain :
    (type_name desc payload : List ℕ) (name : Name) → names_keyrings type_name ≡ false
    → admitted type_name desc payload ≡ Ok name → same_kind name.kind Keyring ≡ false
unfolding admitted
admitted_plain type_name desc payload name other h =
    grind (arith, common_steps, bind_ok, same_ok, true≢false, bytes_eq, equal_kinds, named_as)

add_spared :
    (s : State) (client context : ℕ) (type_name desc payload : List ℕ) (ring : ℤ) → Stands s
    → names_keyrings type_name ≡ false
    → Meets (Spares s) (outcome_of s client context (Add type_name desc payload ring))
unfolding add
add_spared s client context type_name desc payload ring stands other =
    meets_after (context_of s client context) _ (λ c own.
    meets_after (admitted type_name desc payload) _ (λ name is.
    let made = made_for s context c ring in
    meets_after (place_of made.0 made.1 name ring) _ (λ place _.
    meets_ok (spares_on s made.0 _ (made_grows s client context c ring own stands)
    (added_spares made.0 made.1 name payload place (admitted_plain type_name desc payload name other is)
    (made_for_stands s context c ring stands))))))

-- ---- the asks
ruleset spared = (
  meets_after,
  meets_within,
  meets_ok,
  grown_spares,
  grows_same,
  thread_grows,
  entered_grows,
  hello_grows,
  where_grows,
  queues_grows,
  updated_grows,
  changed_grows,
)

all_spared :
    (s : State) (client context : ℕ) (op : Op) → Stands s → (row_of op).long ≡ false
    → Meets (Spares s) (outcome_of s client context op)
unfolding each_ask
all_spared s client context (Add type_name desc payload ring) stands short =
    add_spared s client context type_name desc payload ring stands short
all_spared s client context Exec stands short = absurd (true≢false short)
all_spared s client context (Join name) stands short = absurd (true≢false short)
all_spared s client context (Search head type_name desc dest) stands short = absurd (true≢false short)
all_spared s client context (Request type_name desc dest) stands short = absurd (true≢false short)
all_spared s client context (Revoke id) stands short = absurd (true≢false short)
all_spared s client context (Invalidate id) stands short = absurd (true≢false short)
all_spared s client context (Link key ring) stands short = absurd (true≢false short)
all_spared s client context (Unlink key ring) stands short = absurd (true≢false short)
all_spared s client context (Move key from to flags) stands short = absurd (true≢false short)
all_spared s client context (Clear id) stands short = absurd (true≢false short)
all_spared s client context (CloseQueue queue) stands short = absurd (true≢false short)
all_spared s client context Exit stands short = absurd (true≢false short)
all_spared s client context Leave stands short = absurd (true≢false short)
all_spared s client context op stands short = search spared depth 12

step_drops :
    (old new : State) (event : Event) → IsSound old → Step old event new → (row_of event.ask.op).long ≡ false
    → DropsOneAtMost old new
step_drops old new event sound step short =
    let up = raised old event.moment in
    let still = raised_sound old event.moment sound in
    one_dropped up new event still.swept.keys (step_by_right old new event sound step)
    (all_spared up event.lane event.ask.context event.ask.op (sound_stands up still) short)

pub short_drop_one : (start : State) → IsSound start → ShortAsksDropOneAtMost start
short_drop_one start sound before old legal event new step short =
    step_drops old new event (legal_sound start before old sound legal) step short
