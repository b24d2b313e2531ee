-- What is proved of HELLO.
use Rattle.std.proofs.Common.{[], ◌+◌, ◌<◌, ◌||◌, ◌∷◌, ◌≡◌, arith, Bool, codes, false, inl, ltb-false, None, Ok}
use Rattle.std.proofs.{Common.{Option, refl, Some, true, true≢false, ℕ}, lemmas.Bool.Decides.nat_tests}
use Rattle.krs_types.specs.{Caller.caller_check, declared.{ask.Op.TheVariants.Hello, caller.Caller.Caller}}
use Rattle.krs_types.specs.declared.context.UidRings.{UidRings}
use Rattle.krs_model.specs.Asks.Hello.{first_session, has_context_left, has_numbers, hello, uid_ring, with_context}
use Rattle.krs_model.specs.{Asks.{Hello.with_uid, Leaving.left}, Confidentiality.{AreEnclosed, AreUnattached}}
use Rattle.krs_model.specs.{Confidentiality.HasToItself, Hiding.{blind, Hiding}, Making.with_new, State.{Key, State}}
use Rattle.krs_model.specs.Table.{at, put, Table}
use Rattle.krs_model.proofs.Asks.{Houses.{Begins, Enters, HousesIn, Named}, Later.{Comes, comes_trans, same_comes}}
use Rattle.krs_model.proofs.Asks.{Later.with_new_comes, Lawful.IsLawful, NewSerials.{IsWithin, same_counts}}
use Rattle.krs_model.proofs.{Asks.{Outcomes.{meets_after, meets_ok}, Plain.plain}, Hiding.Accepted.blind_done}
use Rattle.krs_model.proofs.{Hiding.{Keys.put_blind, Seen.{is_seen, steps}}, Isolation.Attachments.entered_unattached}
use Rattle.krs_model.proofs.Isolation.{Attachments.{first_session_apart, with_uid_unattached}, Guarded.next_apart}
use Rattle.krs_model.proofs.Isolation.{Guarded.{uid_placed, uid_processes}, Keys.put_enclosed, Untouched.AreSame}
use Rattle.krs_model.proofs.{Isolation.Untouched.{put_same, same_trans}, Reach.Levels.only_in, Sound.Changes.Stands}
use Rattle.krs_model.proofs.Sound.NewContexts.{entered_stands, session_there, uid_there, with_uid_stands}

-- the keyrings of a uid come one by one
with_uid_comes : (s : State) (c : Caller) (rings : Option UidRings) → Comes s (with_uid s c rings)
with_uid_comes s c None =
    let n = s.next_serial in
    let one = with_new s (uid_ring (codes "_uid.") [] c) in
    let two = with_new one (uid_ring (codes "_uid_ses.") (n ∷ []) c) in
    let next : n + 2 ≡ (n + 1) + 1 = omega arith in
    let both = comes_trans one two _ (with_new_comes one _) (same_comes two (with_uid s c None) refl next refl refl) in
    comes_trans s one _ (with_new_comes s _) both
with_uid_comes s c (Some rings) = same_comes s s refl refl refl refl

entered_comes :
    (s : State) (client : ℕ) (c : Caller) (rings : Option UidRings) (session : Option ℕ)
    → Comes s (with_context (with_uid s c rings) client c session)
entered_comes s client c rings session = grind (arith, nat_tests, comes_trans, with_uid_comes, same_comes)

or_false : (a b : Bool) → (a || b) ≡ false → b ≡ false
or_false true b h = cc
or_false false b h = h

uid_within :
    (s : State) (c : Caller) (rings : Option UidRings) (x : Unit {0}) → has_numbers s rings ≡ Ok x
    → IsWithin s (with_uid s c rings)
uid_within s c (Some rings) x h = same_counts s s refl
uid_within s c None x h = grind (arith, nat_tests, ltb-false, or_false)

hello_ends :
    (s : State) (client context : ℕ) (c : Caller) (rings : Option UidRings) (room : Unit {0}) → at s.uids c.uid ≡ rings
    → has_context_left s client ≡ Ok room → HousesIn s client context (Hello c)
    (with_context (with_uid s c rings) client c (first_session s.next_serial rings))
hello_ends s client context c (Some rings) room is left = Enters c rings.session room (Named c rings refl is) left
hello_ends s client context c None room is left = Begins c _ _ room refl is left (refl, refl)

-- HELLO
with_uid_blind : (hide : Hiding) (s : State) (c : Caller) (rings : Option UidRings)
    → with_uid (blind hide s) c rings ≡ blind hide (with_uid s c rings)
with_uid_blind hide s c (Some rings) = refl
with_uid_blind hide s c None =
    let n = s.next_serial in
    let first = uid_ring (codes "_uid.") [] c in
    let second = uid_ring (codes "_uid_ses.") (n ∷ []) c in
    let t = with_uid s c None in
    let to : Table Key → State = λ es. record t { keys = es } in
    rw (put_blind hide s.keys n first, put_blind hide (put s.keys n first) (n + 1) second)

second_apart : (uid : ℕ) (private : ℕ → Bool) (s : State) → HasToItself uid private s
    → private (s.next_serial + 1) ≡ true → ⊥
second_apart uid private s alone m =
    let less : s.next_serial + 1 < s.next_serial = alone.made (s.next_serial + 1) m in omega arith

uid_enclosed :
    (uid : ℕ) (private : ℕ → Bool) (s : State) (c : Caller) (rings : Option UidRings) → HasToItself uid private s
    → AreEnclosed uid private (with_uid s c rings).keys
uid_enclosed uid private s c (Some rings) alone = alone.enclosed
uid_enclosed uid private s c None alone =
    grind (arith, nat_tests, next_apart, second_apart, put_enclosed, only_in, true≢false)

uid_made :
    (uid : ℕ) (private : ℕ → Bool) (s : State) (c : Caller) (rings : Option UidRings) → HasToItself uid private s
    → (k : ℕ) → private k ≡ true → k < (with_uid s c rings).next_serial
uid_made uid private s c (Some rings) alone k m = alone.made k m
uid_made uid private s c None alone k m = let less : k < s.next_serial = alone.made k m in omega arith

uid_contexts :
    (uid : ℕ) (private : ℕ → Bool) (s : State) (client : ℕ) (c : Caller) → Stands s → HasToItself uid private s
    → AreUnattached uid private
    (with_context (with_uid s c (at s.uids c.uid)) client c (first_session s.next_serial (at s.uids c.uid)))
uid_contexts uid private s client c stands alone =
    let rings = at s.uids c.uid in
    let one = with_uid s c rings in
    let first = with_uid_unattached uid private s c rings (next_apart uid private s alone)
    (second_apart uid private s alone)
    alone.unattached in
    grind (arith, nat_tests, entered_unattached, first_session_apart, second_apart, uid_processes, uid_placed)

uid_same :
    (uid : ℕ) (private : ℕ → Bool) (s : State) (c : Caller) (rings : Option UidRings) → HasToItself uid private s
    → AreSame private s.keys (with_uid s c rings).keys
uid_same uid private s c (Some rings) alone = λ k m. refl
uid_same uid private s c None alone =
    let n = s.next_serial in
    let user = uid_ring (codes "_uid.") [] c in
    let session = uid_ring (codes "_uid_ses.") (n ∷ []) c in
    same_trans private s.keys (put s.keys n user) (put (put s.keys n user) (n + 1) session)
    (put_same private s.keys n user (next_apart uid private s alone))
    (put_same private (put s.keys n user) (n + 1) session (second_apart uid private s alone))

pub hello_law : (s : State) (client context : ℕ) (caller : Caller) → IsLawful s client context (Hello caller)
unfolding hello
hello_law s client context caller = record {
  small = λ mid answer few h. tt;
  plain = search plain;
  blind = λ hide hides. is_seen (blind_done hide) (simp with_uid_blind (search steps depth 12));
  fares =
      let rings = at s.uids caller.uid in
      let with_rings = with_uid s caller rings in
      meets_after (caller_check caller) _ (λ known _.
      meets_after (has_context_left s client) _ (λ room has_room.
      meets_after (has_numbers s rings) _ (λ left is.
      meets_ok (record {
        comes = λ other. entered_comes s client caller rings (first_session s.next_serial rings);
        counts = λ placed. uid_within s caller rings left is;
        houses = hello_ends s client context caller rings room refl has_room;
        stands = λ stands. entered_stands with_rings client caller (first_session s.next_serial rings)
            (λ k i. session_there s caller rings k refl stands i) (uid_there s caller rings refl)
            (with_uid_stands s caller rings stands);
        guards = λ uid private stands alone. record {
          made = uid_made uid private s caller rings alone;
          enclosed = λ p. uid_enclosed uid private s caller rings alone;
          unattached = uid_contexts uid private s client caller stands alone;
        };
        keeps = λ uid private stands alone other. inl (uid_same uid private s caller rings alone);
      }))));
}
