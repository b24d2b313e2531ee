-- Each accepted ask changes keys by right, and so does each step.
use Rattle.std.proofs.Common.{[], ⊎_elim, ◌&&◌, ◌+◌, ◌==◌, ◌||◌, ◌∙◌, ◌∷◌, ◌≡◌, ◌⊎◌, ap, arith, Bool, codes, cond}
use Rattle.std.proofs.Common.{Err, false, filter, inl, inr, IsSome, length, List, min, nat_lt, None, Ok, Option}
use Rattle.std.proofs.Common.{option_map, refl, Result, Some, subst, sym, true, true≢false, ℕ, ℤ}
use Rattle.std.proofs.lemmas.Option.{none-some, same_Some}
use Rattle.krs_types.specs.{Caller.is_of_group, declared.ask.{Answer.Answer, Op.{Op, TheVariants.{Add, Chown}}}}
use Rattle.krs_types.specs.declared.ask.Op.TheVariants.{Clear, GetId, Hello, Invalidate, Join, Link, Move, Request}
use Rattle.krs_types.specs.declared.ask.Op.TheVariants.{RestrictKeyring, Revoke, Search, SetPerm, SetTimeout}
use Rattle.krs_types.specs.declared.{caller.Caller.Caller, context.{Context.Context, UidRings.UidRings}}
use Rattle.krs_types.specs.declared.{errno.Errno.{Errno, TheVariants.{EACCES, EINVAL}}, event.Event.Event}
use Rattle.krs_types.specs.{declared.rights.Want.TheVariants.{Either, Granted}, Growth.has_destination, Perm.perm_of}
use Rattle.krs_types.specs.Rights.{LINK, SEARCH, SETATTR, WRITE}
use Rattle.krs_model.specs.Asks.{Adding.{add, admitted, place_of}, Changing.{chown, emptied, if_may_own, if_owner}}
use Rattle.krs_model.specs.Asks.Changing.{expiry_after, may_own, or_left, revoked, set_perm, with_expiry, with_owner}
use Rattle.krs_model.specs.Asks.Changing.{with_perm}
use Rattle.krs_model.specs.Asks.{Finding.{made_where, request, search_from, sought_name}, Hello.{uid_ring, with_uid}}
use Rattle.krs_model.specs.{Asks.Invalidating.invalidate, Revocation.Names}
use Rattle.krs_model.specs.Asks.{Joining.{session_joined, session_ring}, Linked.{clear, cleared_content, link}}
use Rattle.krs_model.specs.Asks.{Linked.{closed_for_good, linked_into, unless, without_link}, Moving.{move_link, moved}}
use Rattle.krs_model.specs.{Levels.is_in, Linking.ring_links, Lookup.{context_of, look_up}, Making.{made_for, own_ring}}
use Rattle.krs_model.specs.{Possession.links_of_content, Search.{found, requested}, Sound.IsSound, State.Content}
use Rattle.krs_model.specs.{State.{Key, Links, Payload, raised, State}, Step.{each_ask, Ends, outcome_of, Serves, Step}}
use Rattle.krs_model.specs.{Sweep.{Attached, IsHeld, Linked, PicksHeld, roots}, Table.{at, map_values, put, Table}}
use Rattle.krs_model.proofs.Asks.{Fares.meets_by, LaterByAsk.moved_is, Laws.law_of, Outcomes.{Meets, meets_after}}
use Rattle.krs_model.proofs.{Asks.Outcomes.{meets_ok, meets_within}, Isolation.{Births.made_own, Keys.kept_links}}
use Rattle.krs_model.proofs.{Lookups.{Laws.look_up_usable, Serials.{own_there}}}
use Rattle.krs_model.proofs.{MadeKeyring.State.HasMadeFor}
use Rattle.krs_model.proofs.{MadeKeyring.State.{made_for_has, MadeNone, MadeOne}, Reach.Levels.{equal_is, only_in}}
use Rattle.krs_model.proofs.{Reach.Levels.true_or, Sound.Changes.{LinksTo, not_there, Stands}}
use Rattle.krs_model.proofs.Sound.{KeyChanges.unlinked_lessens, NewContexts.{own_process_there, session_ring_empty}}
use Rattle.krs_model.proofs.{Sound.Steps.{legal_sound, raised_sound, sound_stands}, Tables.Changes.{at_kept, at_map}}
use Rattle.krs_model.proofs.Tables.{Counts.part_in, Each.{kept_is, mapped_is}}
use Rattle.krs_laws.specs.Integrity.{AllChangesAreByRight, AsksAs, ChangesByRight, Emptied, HasRight, IsByRight}
use Rattle.krs_laws.specs.Integrity.{IsAsked, IsMadeBy, IsOverIn, Kept, Unlinked}
use Rattle.krs_laws.proofs.{KeyLimits.both, Rightly.{linkable_made, names_found, right_found, Rightly}}
use Rattle.krs_laws.proofs.Rightly.{rightly_changed, rightly_put, rightly_same, rightly_written, written_found}
use Rattle.krs_laws.proofs.Rightly.{written_made}
use Rattle.krs_laws.proofs.RightlyAsked.{added_rightly, found_alive, found_rightly, linked_rightly, links_nothing}
use Rattle.krs_laws.proofs.RightlyAsked.{made_rightly, moved_rightly, requested_alive, ring_made, unlinked_rightly}
use Rattle.krs_laws.proofs.RightlyAsked.{updated_then}
use Rattle.std.proofs.lemmas.Grind.{common_steps}

-- by right, where the store stands
abbrev ByRight : State → ℕ → ℕ → Op → State → Type 0
ByRight s client context op new = Rightly s client context op new.keys

next_none : (s : State) → Stands s → at s.keys s.next_serial ≡ None
next_none s stands = stands.unused s.next_serial (omega arith)

second_none : (s : State) → Stands s → at s.keys (s.next_serial + 1) ≡ None
second_none s stands = stands.unused (s.next_serial + 1) (omega arith)

has_made :
    (s : State) (client context : ℕ) (c : Context) (id : ℤ) → Stands s → context_of s client context ≡ Ok c
    → HasMadeFor s c id (made_for s context c id)
has_made s client context c id stands own =
    made_for_has s context c id (own_process_there s context c (own_there s client context c own) stands.placed)

-- the caller stays where a keyring is made, and no key has the next serial
made_next :
    (s : State) (c : Context) (id : ℤ) (made : State × Context) → Stands s → HasMadeFor s c id made
    → (at s.keys made.0.next_serial ≡ None) × (made.1.caller ≡ c.caller)
made_next s c id _ stands MadeNone = (next_none s stands, refl)
made_next s c id _ stands (MadeOne t d desc before after has is) = (
  subst (λ (z : ℕ). at s.keys z ≡ None) (sym has.next) (second_none s stands),
  has.caller,
)

-- ---- one ask a line
session_made :
    (s : State) (client context : ℕ) (op : Op) (name : List ℕ) (c : Caller) → AsksAs s client context op c
    → IsMadeBy s client context op (session_ring name c)
session_made s client context op name c asks =
    elim (length name == 0) as (λ b. IsMadeBy s client context op (cond b (own_ring (codes "_ses") 1057161216 true c)
    (own_ring name 1058209792 true c))) [
      | true ↦ ring_made s client context op (codes "_ses") 1057161216 true c asks refl refl
      | false ↦ ring_made s client context op name 1058209792 true c asks refl refl
    ]

joined_rightly :
    (s : State) (client context : ℕ) (op : Op) (c : Context) (name : List ℕ) (answer : Option (ℕ × Key)) → Stands s
    → AsksAs s client context op c.caller
    → Meets (ByRight s client context op) (session_joined s context c name answer)
joined_rightly s client context op c name (Some there) stands asks = meets_ok (rightly_same s client context op)
joined_rightly s client context op c name None stands asks =
    meets_ok (rightly_put s client context op s.keys s.next_serial (session_ring name c.caller) (next_none s stands)
    (session_made s client context op name c.caller asks)
    (λ k i. links_nothing k _ (session_ring_empty name c.caller) i) (rightly_same s client context op))

uid_made :
    (s : State) (client context : ℕ) (caller : Caller) (prefix links : List ℕ)
    → IsMadeBy s client context (Hello caller) (uid_ring prefix links caller)
uid_made s client context caller prefix links = record {
  caller = caller;
  asks = refl;
  own = made_own caller.uid (uid_ring prefix links caller) refl refl refl;
  gid = refl;
}

uid_rightly :
    (s : State) (client context : ℕ) (caller : Caller) (rings : Option UidRings) → Stands s
    → Rightly s client context (Hello caller) (with_uid s caller rings).keys
uid_rightly s client context caller (Some rings) stands = rightly_same s client context (Hello caller)
uid_rightly s client context caller None stands =
    let n = s.next_serial in
    let op = Hello caller in
    let first = uid_ring (codes "_uid.") [] caller in
    let second = uid_ring (codes "_uid_ses.") (n ∷ []) caller in
    rightly_put s client context op (put s.keys n first) (n + 1) second (second_none s stands)
    (uid_made s client context caller (codes "_uid_ses.") (n ∷ []))
    (λ k i. inl (subst (λ (z : ℕ). at s.keys z ≡ None) (sym (only_in k n i)) (next_none s stands)))
    (rightly_put s client context op s.keys n first (next_none s stands)
    (uid_made s client context caller (codes "_uid.") []) (λ k i. links_nothing k [] refl i)
    (rightly_same s client context op))

emptied_links : (content : Content) (j : ℕ) → is_in j (links_of_content (emptied content)) ≡ true
    → is_in j (links_of_content content) ≡ true
emptied_links (Payload bytes) j i = i
emptied_links (Links links) j i = links_nothing j [] refl i

cleared_links : (content : Content) (j : ℕ) → is_in j (links_of_content (cleared_content content)) ≡ true
    → is_in j (links_of_content content) ≡ true
cleared_links (Payload bytes) j i = i
cleared_links (Links links) j i = links_nothing j [] refl i

owner_is :
    (caller : Caller) (key x : Key) → if_owner caller key ≡ Ok x
    → (caller.uid ≡ 0) ⊎ (caller.uid ≡ key.uid)
owner_is caller key x h =
    elim (caller.uid == 0) as (λ b. (caller.uid == 0) ≡ b
    → cond (b || (caller.uid == key.uid)) (Ok key) (Err EACCES) ≡ Ok x
    → (caller.uid ≡ 0) ⊎ (caller.uid ≡ key.uid)) [
      | true ↦ λ t e. inl (equal_is caller.uid 0 t)
      | false ↦ λ t e. elim (caller.uid == key.uid) as (λ d. (caller.uid == key.uid) ≡ d
          → cond d (Ok key) (Err EACCES) ≡ Ok x → (caller.uid ≡ 0) ⊎ (caller.uid ≡ key.uid)) [
            | true ↦ λ u f. inr (equal_is caller.uid key.uid u)
            | false ↦ λ u f. cc
          ] refl e
    ] refl h

-- uid 0, or a context that leaves the uid, and the gid or gives one of its own
abbrev KeepsOwner : Caller → ℕ → ℕ → Key → Type 0
KeepsOwner caller uid gid key =
    (or_left uid key.uid ≡ key.uid)
    × ((or_left gid key.gid ≡ key.gid) ⊎ (is_of_group caller (or_left gid key.gid) ≡ true))

abbrev OwnsSo : Caller → ℕ → ℕ → Key → Type 0
OwnsSo caller uid gid key = (caller.uid ≡ 0) ⊎ KeepsOwner caller uid gid key

left_or_own :
    (caller : Caller) (gid there : ℕ) → ((or_left gid there == there) || is_of_group caller gid) ≡ true
    → (or_left gid there ≡ there) ⊎ (is_of_group caller (or_left gid there) ≡ true)
left_or_own caller gid there h =
    ⊎_elim (λ (e : (or_left gid there == there) ≡ true). inl (equal_is (or_left gid there) there e))
    (λ (member : is_of_group caller gid ≡ true).
    elim (gid == 4294967295) as (λ b. (cond b there gid ≡ there) ⊎ (is_of_group caller (cond b there gid) ≡ true)) [
      | true ↦ inl refl
      | false ↦ inr member
    ])
    (true_or (or_left gid there == there) (is_of_group caller gid) h)

may_own_so :
    (caller : Caller) (uid gid : ℕ) (key : Key) → may_own caller uid gid key ≡ true → OwnsSo caller uid gid key
may_own_so caller uid gid key h =
    ⊎_elim (λ (e : (caller.uid == 0) ≡ true). inl (equal_is caller.uid 0 e))
    (λ (rest : ((or_left uid key.uid == key.uid)
    && ((or_left gid key.gid == key.gid) || is_of_group caller gid)) ≡ true).
    let r = both (or_left uid key.uid == key.uid) ((or_left gid key.gid == key.gid) || is_of_group caller gid) rest in
    inr (equal_is (or_left uid key.uid) key.uid r.0, left_or_own caller gid key.gid r.1))
    (true_or (caller.uid == 0) _ h)

may_own_is :
    (caller : Caller) (uid gid : ℕ) (key x : Key) → if_may_own caller uid gid key ≡ Ok x → OwnsSo caller uid gid key
may_own_is caller uid gid key x h =
    elim (may_own caller uid gid key) as
    (λ b. may_own caller uid gid key ≡ b → cond b (Ok key) (Err EACCES) ≡ Ok x → OwnsSo caller uid gid key) [
      | true ↦ λ t e. may_own_so caller uid gid key t
      | false ↦ λ t e. cc
    ] refl h

left_or_asked : (asked there : ℕ) → (or_left asked there ≡ there) ⊎ (or_left asked there ≡ asked)
left_or_asked asked there =
    elim (asked == 4294967295) as (λ b. (cond b there asked ≡ there) ⊎ (cond b there asked ≡ asked)) [
      | true ↦ inl refl
      | false ↦ inr refl
    ]

abbrev GivenTo : State → ℕ → ℕ → Op → ℕ → ℕ → ℕ → ℕ → Type 0
GivenTo s client context op n before after gid =
    (after ≡ before)
    ⊎ ((right : HasRight s client context (Granted SETATTR) n) × (right.whose.caller.uid ≡ 0)
    × ((given : ℕ) × IsAsked s client context op (λ id. Chown id after given) n))

abbrev GivenGroup : State → ℕ → ℕ → Op → ℕ → ℕ → ℕ → ℕ → Type 0
GivenGroup s client context op n before uid after =
    (after ≡ before)
    ⊎ ((right : HasRight s client context (Granted SETATTR) n)
    × ((right.whose.caller.uid ≡ 0) ⊎ (is_of_group right.whose.caller after ≡ true))
    × ((given : ℕ) × IsAsked s client context op (λ id. Chown id given after) n))

given_by_right :
    (s : State) (client context : ℕ) (id : ℤ) (n uid gid : ℕ) (v : Key)
    (right : HasRight s client context (Granted SETATTR) n) → Names s client context id n
    → OwnsSo right.whose.caller uid gid v → IsByRight s client context (Chown id uid gid) n v (with_owner uid gid v)
given_by_right s client context id n uid gid v right names owns =
    let op = Chown id uid gid in
    let owner : GivenTo s client context op n v.uid (or_left uid v.uid) gid =
    ⊎_elim (λ (left : or_left uid v.uid ≡ v.uid). inl left)
    (λ (is : or_left uid v.uid ≡ uid). ⊎_elim (λ (root : right.whose.caller.uid ≡ 0).
    inr (right, root, (gid, (id, ap (λ (u : ℕ). Chown id u gid) (sym is), names))))
    (λ (kept : KeepsOwner right.whose.caller uid gid v). inl kept.0) owns) (left_or_asked uid v.uid) in
    let group : GivenGroup s client context op n v.gid uid (or_left gid v.gid) =
    ⊎_elim (λ (left : or_left gid v.gid ≡ v.gid). inl left)
    (λ (is : or_left gid v.gid ≡ gid).
    let asked : IsAsked s client context op (λ i. Chown i uid (or_left gid v.gid)) n =
    (id, ap (λ (g : ℕ). Chown id uid g) (sym is), names) in
    ⊎_elim (λ (root : right.whose.caller.uid ≡ 0). inr (right, inl root, (uid, asked)))
    (λ (kept : KeepsOwner right.whose.caller uid gid v). ⊎_elim (λ (left : or_left gid v.gid ≡ v.gid). inl left)
    (λ (member : is_of_group right.whose.caller (or_left gid v.gid) ≡ true). inr (right, inr member, (uid, asked)))
    kept.1) owns) (left_or_asked gid v.gid) in
    search (Kept, inl)

masked_by_right :
    (s : State) (client context : ℕ) (id : ℤ) (n mask : ℕ) (v : Key)
    (right : HasRight s client context (Granted SETATTR) n) → Names s client context id n
    → (right.whose.caller.uid ≡ 0) ⊎ (right.whose.caller.uid ≡ v.uid)
    → IsByRight s client context (SetPerm id mask) n v (with_perm mask v)
masked_by_right s client context id n mask v right names own =
    let asked : IsAsked s client context (SetPerm id mask) (λ i. SetPerm i mask) n = (id, refl, names) in
    search (Kept, inl, inr)

over_in : (clock seconds : ℕ) → IsOverIn clock seconds (expiry_after clock seconds)
over_in clock seconds =
    elim (seconds == 0) as (λ b. (seconds == 0) ≡ b
    → IsOverIn clock seconds (cond b None (Some (min (clock + seconds) 18446744073709551615)))) [
      | true ↦ λ t. inl (equal_is seconds 0 t, refl)
      | false ↦ λ t. inr (λ e. true≢false (sym (ap (λ (n : ℕ). n == 0) e) ∙ t), refl)
    ] refl

timed_by_right :
    (s : State) (client context : ℕ) (id : ℤ) (n seconds : ℕ) (v : Key)
    → HasRight s client context (Granted SETATTR) n → Names s client context id n
    → IsByRight s client context (SetTimeout id seconds) n v (with_expiry (expiry_after s.clock seconds) v)
timed_by_right s client context id n seconds v right names =
    let asked : IsAsked s client context (SetTimeout id seconds) (λ i. SetTimeout i seconds) n = (id, refl, names) in
    let over = over_in s.clock seconds in
    search (Kept, inl, inr)

revoked_by_right :
    (s : State) (client context : ℕ) (id : ℤ) (n : ℕ) (v : Key) → HasRight s client context (Either WRITE SETATTR) n
    → Names s client context id n → IsByRight s client context (Revoke id) n v (revoked v)
revoked_by_right s client context id n v right names =
    let asked : IsAsked s client context (Revoke id) Revoke n = (id, refl, names) in
    search (Emptied, inl, inr)

closed_by_right :
    (s : State) (client context : ℕ) (id : ℤ) (type_name : List ℕ) (n : ℕ) (v : Key)
    → HasRight s client context (Granted SETATTR) n → Names s client context id n
    → IsByRight s client context (RestrictKeyring id type_name) n v (closed_for_good v)
closed_by_right s client context id type_name n v right names =
    let op = RestrictKeyring id type_name in
    let asked : (t : List ℕ) × IsAsked s client context op (λ i. RestrictKeyring i t) n =
    (type_name, (id, refl, names)) in
    search (Kept, inl, inr)

unlinked_by_right :
    (s : State) (client context : ℕ) (id : ℤ) (n gone : ℕ) (v : Key) → Names s client context id gone
    → HasRight s client context (Granted SEARCH) gone
    → IsByRight s client context (Invalidate id) n v (without_link gone v)
unlinked_by_right s client context id n gone v names right = search (Unlinked, inl)

mapped_none : (f : Key → Key) (o : Option Key) (key : Key) → o ≡ None → option_map f o ≡ Some key → ⊥
mapped_none f None key none h = none-some key h
mapped_none f (Some v) key none h = none-some v (sym none)

mapped_links : (gone : ℕ) (o : Option Key) (j : ℕ) → LinksTo j (option_map (without_link gone) o) → LinksTo j o
mapped_links gone None j i = i
mapped_links gone (Some v) j i = part_in _ _ j ((unlinked_lessens gone).links v) i

-- a key goes out of all links
detached_rightly :
    (s : State) (client context : ℕ) (id : ℤ) (gone : ℕ) → Names s client context id gone
    → HasRight s client context (Granted SEARCH) gone
    → Rightly s client context (Invalidate id) (map_values (without_link gone) s.keys)
detached_rightly s client context id gone names right = record {
  changed = λ k before after there is.
      let w = mapped_is (without_link gone) (at s.keys k) after (sym (at_map (without_link gone) s.keys k) ∙ is) in
      let one : w.0 ≡ before = same_Some w.0 before (sym w.1 ∙ there) in
      subst (IsByRight s client context (Invalidate id) k before) (ap (without_link gone) (sym one) ∙ w.2)
      (unlinked_by_right s client context id k gone before names right);
  made = λ k key none is.
      absurd (mapped_none (without_link gone) (at s.keys k) key none (sym (at_map (without_link gone) s.keys k) ∙ is));
  linked = λ j k i. inl (mapped_links gone (at s.keys j) k (subst (LinksTo k) (at_map (without_link gone) s.keys j) i));
}

-- the whole of it, ask by ask: a further ask has a line here
abbrev Comes : State → ℕ → ℕ → Op → Type 0
Comes s client context op = Meets (ByRight s client context op) (outcome_of s client context op)

chown_rightly : (s : State) (client context : ℕ) (id : ℤ) (uid gid : ℕ) → Comes s client context (Chown id uid gid)
unfolding chown
chown_rightly s client context id uid gid =
    meets_after (context_of s client context) _ (λ c own.
    meets_after (look_up s c id (Granted SETATTR)) _ (λ there is.
    meets_after (if_may_own c.caller uid gid there.1) _ (λ x allowed.
    meets_ok (rightly_changed s client context _ there.0 (with_owner uid gid)
    (λ v here. given_by_right s client context id there.0 uid gid v
    (right_found s client context c id (Granted SETATTR) there own is)
    (names_found s client context c id (Granted SETATTR) there own is)
    (subst (OwnsSo c.caller uid gid)
    (same_Some there.1 v (sym (look_up_usable s c id (Granted SETATTR) there is).there ∙ here))
    (may_own_is c.caller uid gid there.1 x allowed)))
    (λ j v i. i)))))

mask_is : (mask perm : ℕ) → perm_of mask ≡ Ok perm → mask ≡ perm
mask_is mask perm h = grind (arith, common_steps)

set_perm_rightly : (s : State) (client context : ℕ) (id : ℤ) (mask : ℕ) → Comes s client context (SetPerm id mask)
unfolding set_perm
set_perm_rightly s client context id mask =
    meets_after (context_of s client context) _ (λ c own.
    meets_after (look_up s c id (Granted SETATTR)) _ (λ there is.
    meets_after (perm_of mask) _ (λ perm fit.
    meets_after (if_owner c.caller there.1) _ (λ x allowed.
    meets_ok (rightly_changed s client context _ there.0 (with_perm perm)
    (λ v here. subst (λ (m : ℕ). IsByRight s client context (SetPerm id mask) there.0 v (with_perm m v))
    (mask_is mask perm fit)
    (masked_by_right s client context id there.0 mask v
    (right_found s client context c id (Granted SETATTR) there own is)
    (names_found s client context c id (Granted SETATTR) there own is)
    (subst (λ (z : Key). (c.caller.uid ≡ 0) ⊎ (c.caller.uid ≡ z.uid))
    (same_Some there.1 v (sym (look_up_usable s c id (Granted SETATTR) there is).there ∙ here))
    (owner_is c.caller there.1 x allowed))))
    (λ j v i. i))))))

clear_rightly : (s : State) (client context : ℕ) (id : ℤ) → Comes s client context (Clear id)
unfolding clear
clear_rightly s client context id =
    meets_after (context_of s client context) _ (λ c own.
    meets_after (look_up s c id (Granted WRITE)) _ (λ there is.
    meets_after (ring_links there.1.content) _ (λ links _.
    meets_ok (rightly_written s client context _ s.keys there.0 cleared_content
    (λ old _. written_found s client context _ c id there own refl is)
    (λ k v i. inl (cleared_links v.content k i)) (rightly_same s client context _)))))

invalidate_rightly : (s : State) (client context : ℕ) (id : ℤ) → Comes s client context (Invalidate id)
unfolding invalidate
invalidate_rightly s client context id =
    meets_after (context_of s client context) _ (λ c own.
    meets_after (look_up s c id (Granted SEARCH)) _ (λ there is.
    let names = names_found s client context c id (Granted SEARCH) there own is in
    meets_ok (detached_rightly s client context id there.0 names
    (right_found s client context c id (Granted SEARCH) there own is))))

link_rightly : (s : State) (client context : ℕ) (key ring : ℤ) → Stands s → Comes s client context (Link key ring)
unfolding link
link_rightly s client context key ring stands =
    meets_after (context_of s client context) _ (λ c own.
    let made = made_for s context c ring in
    let has = has_made s client context c ring stands own in
    let none = next_none s stands in
    meets_within s _ (
    meets_after (look_up made.0 made.1 ring (Granted WRITE)) _ (λ into goes.
    meets_after (look_up made.0 made.1 key (Granted LINK)) _ (λ there is.
    meets_after (linked_into made.0 into there) _ (λ new linked.
    meets_ok (linked_rightly s made.0 new client context _ into there
    (λ old before. written_made s client context _ c ring made into old own has none refl goes before)
    (linkable_made s client context c ring made there own has none
    (look_up_usable made.0 made.1 key (Granted LINK) there is)) linked
    (made_rightly s client context _ c ring none (c, own, refl))))))))

move_rightly :
    (s : State) (client context : ℕ) (key from to : ℤ) (flags : ℕ) → Stands s
    → Comes s client context (Move key from to flags)
unfolding move_link
move_rightly s client context key from to flags stands =
    meets_after (context_of s client context) _ (λ c own.
    meets_after (unless (nat_lt 1 flags) EINVAL) _ (λ known _.
    meets_after (look_up s c key (Granted LINK)) _ (λ there is.
    meets_after (look_up s c from (Granted WRITE)) _ (λ first out.
    let made = made_for s context c to in
    let has = has_made s client context c to stands own in
    let none = next_none s stands in
    meets_within s _ (
    meets_after (look_up made.0 made.1 to (Granted WRITE)) _ (λ into goes.
    meets_after (moved made.0 (flags == 1) there first into) _ (λ new moves.
    meets_ok (moved_rightly s made.0 client context _ there first into new
    (λ old before. written_made s client context _ c to made into old own has none (inr refl) goes before)
    (λ old before. written_found s client context _ c from first own (inl refl) out)
    (inr (right_found s client context c key (Granted LINK) there own is))
    (moved_is made.0 (flags == 1) there first into new moves)
    (made_rightly s client context _ c to none (c, own, refl))))))))))

add_rightly :
    (s : State) (client context : ℕ) (type_name desc payload : List ℕ) (ring : ℤ) → Stands s
    → Comes s client context (Add type_name desc payload ring)
unfolding add
add_rightly s client context type_name desc payload ring stands =
    meets_after (context_of s client context) _ (λ c own.
    meets_after (admitted type_name desc payload) _ (λ name fit.
    let made = made_for s context c ring in
    let has = has_made s client context c ring stands own in
    let none = next_none s stands in
    let next = made_next s c ring made stands has in
    meets_after (place_of made.0 made.1 name ring) _ (λ place is.
    meets_ok (added_rightly s client context c type_name desc payload ring made name place own
    (c, own, sym next.1) none next.0 has fit is
    (made_rightly s client context _ c ring none (c, own, refl))))))

where_rightly :
    (create : Bool) (s : State) (client context : ℕ) (op : Op) (c : Context) (id : ℤ) → at s.keys s.next_serial ≡ None
    → AsksAs s client context op c.caller → Rightly s client context op (made_where create s context c id).0.keys
where_rightly true s client context op c id none asks = made_rightly s client context op c id none asks
where_rightly false s client context op c id none asks = rightly_same s client context op

search_rightly :
    (s : State) (client context : ℕ) (head : ℤ) (type_name desc : List ℕ) (dest : ℤ) → Stands s
    → Comes s client context (Search head type_name desc dest)
unfolding search_from
search_rightly s client context head type_name desc dest stands =
    meets_after (context_of s client context) _ (λ c own.
    meets_after (sought_name type_name desc) _ (λ name _.
    meets_after (look_up s c head (Granted SEARCH)) _ (λ from _.
    let made = made_for s context c dest in
    let has = has_made s client context c dest stands own in
    let none = next_none s stands in
    meets_within s _ (meets_by (has_destination dest) _ _ (λ gives.
    meets_after (look_up made.0 made.1 dest (Granted WRITE)) _ (λ into goes.
    meets_after (ring_links from.1.content) _ (λ links _.
    meets_after (ring_links into.1.content) _ (λ room _.
    found_rightly s client context _ c dest made into (found made.0 made.1 from.0 name) own none has refl
    (found_alive made.0 made.1 from.0 name) goes
    (made_rightly s client context _ c dest none (c, own, refl))))))
    (meets_after (ring_links from.1.content) _ (λ links _.
    meets_after (found s c from.0 name) _ (λ serial _. meets_ok (rightly_same s client context _))))))))

request_rightly :
    (s : State) (client context : ℕ) (type_name desc : List ℕ) (dest : ℤ) → Stands s
    → Comes s client context (Request type_name desc dest)
unfolding request
request_rightly s client context type_name desc dest stands =
    meets_after (context_of s client context) _ (λ c own.
    meets_after (sought_name type_name desc) _ (λ name _.
    let made = made_for s context c dest in
    let has = has_made s client context c dest stands own in
    let none = next_none s stands in
    meets_within s _ (meets_by (has_destination dest) _ _ (λ gives.
    meets_after (look_up made.0 made.1 dest (Granted WRITE)) _ (λ into goes.
    meets_after (ring_links into.1.content) _ (λ room _.
    found_rightly s client context _ c dest made into (requested made.0 made.1 name) own none has refl
    (requested_alive made.0 made.1 name) goes
    (made_rightly s client context _ c dest none (c, own, refl)))))
    (meets_after (requested s c name) _ (λ serial _. meets_ok (rightly_same s client context _))))))

ruleset rights = (
  meets_after,
  meets_within,
  meets_ok,
  rightly_same,
  uid_rightly,
  updated_then,
  unlinked_rightly,
  rightly_changed,
  right_found,
  names_found,
  written_found,
  revoked_by_right,
  timed_by_right,
  closed_by_right,
  emptied_links,
)

all_rightly : (s : State) (client context : ℕ) (op : Op) → Stands s → Comes s client context op
unfolding each_ask
all_rightly s client context (GetId id create) stands = search (where_rightly, next_none, rights) depth 12
all_rightly s client context (Join name) stands = search (joined_rightly, rights) depth 12
all_rightly s client context (Search head type_name desc dest) stands =
    search_rightly s client context head type_name desc dest stands
all_rightly s client context (Request type_name desc dest) stands =
    request_rightly s client context type_name desc dest stands
all_rightly s client context (Add type_name desc payload ring) stands =
    add_rightly s client context type_name desc payload ring stands
all_rightly s client context (Chown id uid gid) stands = chown_rightly s client context id uid gid
all_rightly s client context (SetPerm id mask) stands = set_perm_rightly s client context id mask
all_rightly s client context (Link key ring) stands = link_rightly s client context key ring stands
all_rightly s client context (Move key from to flags) stands = move_rightly s client context key from to flags stands
all_rightly s client context (Clear id) stands = clear_rightly s client context id
all_rightly s client context (Invalidate id) stands = invalidate_rightly s client context id
all_rightly s client context op stands = search rights depth 12

-- ---- a step
none_kept : (b : Bool) (o : Option Key) (key : Key) → o ≡ Some key → cond b o None ≡ None → b ≡ false
none_kept true o key is h = absurd (none-some key (sym h ∙ is))
none_kept false o key is h = refl

held_there : (s : State) (k : ℕ) → Stands s → IsHeld s.keys (roots s) k → IsSome (at s.keys k)
held_there s _ stands (Attached k i) = stands.attached k i
held_there s _ stands (Linked j k held i) = stands.linked j k i

gone_unheld :
    (mid : State) (kept : ℕ → Bool) (k : ℕ) (o : Option Key) → at mid.keys k ≡ o → PicksHeld mid.keys (roots mid) kept
    → Stands mid → cond (kept k) o None ≡ None → IsHeld mid.keys (roots mid) k → ⊥
gone_unheld mid kept k None is picks stands gone held =
    not_there (at mid.keys k) (held_there mid k stands held) is
gone_unheld mid kept k (Some key) is picks stands gone held =
    true≢false (sym (picks.each k held (held_there mid k stands held)) ∙ none_kept (kept k) (Some key) key refl gone)

served_by_right :
    (s new : State) (event : Event) (answer : Answer) → Stands s
    → Serves s event.lane event.ask.context event.ask.op answer new → ChangesByRight s event new
served_by_right s new event answer stands serves =
    let client = event.lane in
    let context = event.ask.context in
    let op = event.ask.op in
    let mid = serves.mid in
    let law = (law_of s client context op).fares.meets mid answer serves.meant in
    let right = (all_rightly s client context op stands).meets mid answer serves.meant in
    let kept = serves.sweep.kept in
    let keys : new.keys ≡ filter (λ e. kept e.0) mid.keys =
    ap (λ (t : State). t.keys) serves.posted ∙ serves.sweep.keys in
    let is : (k : ℕ) → at new.keys k ≡ cond (kept k) (at mid.keys k) None = λ k.
    ap (λ (es : Table Key). at es k) keys ∙ at_kept kept mid.keys k in
    record {
      changed = λ k before after there here.
          right.changed k before after there (kept_is (kept k) (at mid.keys k) after (sym (is k) ∙ here));
      made = λ k key none here. right.made k key none (kept_is (kept k) (at mid.keys k) key (sym (is k) ∙ here));
      linked = λ j k i. right.linked j k (kept_links (kept j) (at mid.keys j) k (subst (LinksTo k) (is j) i));
      gone = λ k before there none.
          record {
            left = mid;
            answer = answer;
            meant = serves.meant;
            unheld = gone_unheld mid kept k (at mid.keys k) refl serves.sweep.picks
                (law.stands stands) (sym (is k) ∙ none);
          };
    }

ended_by_right :
    (s new : State) (event : Event) (reply : Result Answer Errno) → Stands s
    → Ends s event.lane event.ask.context event.ask.op reply new → ChangesByRight s event new
ended_by_right s new event (Ok answer) stands serves = served_by_right s new event answer stands serves
ended_by_right s new event (Err e) stands ends =
    let same = rightly_same s event.lane event.ask.context event.ask.op in
    subst (ChangesByRight s event) (sym ends.1) (record {
      changed = same.changed;
      made = same.made;
      linked = same.linked;
      gone = λ k before there none. absurd (none-some before (sym none ∙ there));
    })

pub step_by_right :
    (old new : State) (event : Event) → IsSound old → Step old event new
    → ChangesByRight (raised old event.moment) event new
unfolding Step
step_by_right old new event sound step =
    let up = raised old event.moment in
    let stands = sound_stands up (raised_sound old event.moment sound) in
    ended_by_right up new event event.reply stands step

pub all_by_right : (start : State) → IsSound start → AllChangesAreByRight start
all_by_right start sound before old legal event new step =
    step_by_right old new event (legal_sound start before old sound legal) step
