-- What is proved of JOIN.
use Rattle.std.proofs.Common.{[], ◌==◌, ◌∙◌, ◌∷◌, ◌≡◌, ◌≢◌, ap, arith, Bool, cond, false, find, inl, length, List}
use Rattle.std.proofs.Common.{None, Ok, Option, option_map, refl, Some, sym, true, true≢false, ℕ}
use Rattle.std.proofs.lemmas.{Bool.Decides.nat_tests, Option.none-some}
use Rattle.krs_types.specs.declared.{ask.{Answer.TheVariants.Number, Op.TheVariants.Join}, caller.Caller.Caller}
use Rattle.krs_types.specs.{declared.context.Context.Context, Rights.{has_all, SEARCH}}
use Rattle.krs_model.specs.Asks.Joining.{is_joinable, join, joinable, joined_to, session_joined, session_named}
use Rattle.krs_model.specs.{Asks.Joining.{session_ring, session_to}, Confidentiality.{AreUnattached, HasToItself}}
use Rattle.krs_model.specs.{Hiding.{blind, blind_key, blind_keys, Hiding}, Lookup.context_of, Making.with_new}
use Rattle.krs_model.specs.{Outcome.Outcome, Search.found, State.{Key, State}, Table.{at, put, Rises, Table}}
use Rattle.krs_model.proofs.Asks.{Fares.{Fares, fares_within, housed_fares}, Houses.{Alters, JoinsFound, JoinsNew}}
use Rattle.krs_model.proofs.Asks.Joins.{found_least}
use Rattle.krs_model.proofs.Asks.{Joins.passed_may, Later.{comes_trans, same_comes, with_new_comes}, Lawful.IsLawful}
use Rattle.krs_model.proofs.Asks.{NewSerials.IsWithin, Outcomes.{Meets, meets_after, meets_ok}, Plain.IsPlain}
use Rattle.krs_model.proofs.{Asks.Plain.{plain, plain_ok, plains}, Hiding.{Accepted.blind_done, Keys.put_blind}}
use Rattle.krs_model.proofs.Hiding.{Lookups.blind_found, Seen.{is_seen, IsSeen, steps}}
use Rattle.krs_model.proofs.Isolation.Attachments.{joined_unattached, own_joined_unattached, same_unattached}
use Rattle.krs_model.proofs.Isolation.{Guarded.next_apart, Keys.no_class, Links.{later_made, new_enclosed}}
use Rattle.krs_model.proofs.{Isolation.Untouched.put_same, Lookups.Serials.own_there}
use Rattle.krs_model.proofs.Sound.NewContexts.{joinable_there, joined_stands, new_joined_stands, session_ring_empty}

plain_session_named : (name : List ℕ) → IsPlain (session_named name)
plain_session_named name = search plain

plain_joined :
    (s : State) (number : ℕ) (c : Context) (name : List ℕ) (found : Option (ℕ × Key))
    → IsPlain (session_joined s number c name found)
plain_joined s number c name None = plain_ok
plain_joined s number c name (Some found) = plain_ok

find_blind : (hide : Hiding) (es : Table Key) (p : Key → Bool) → ((n : ℕ) (v : Key) → p (blind_key (hide n) v) ≡ p v)
    → find (λ e. p e.1) (blind_keys hide es) ≡ option_map (blind_found hide) (find (λ e. p e.1) es)
find_blind hide [] p same = refl
find_blind hide (e ∷ es) p same = grind (arith, nat_tests, find_blind hide es p same)

joinable_blind : (hide : Hiding) (s : State) (c : Caller) (name : List ℕ)
    → joinable (blind hide s) c name ≡ option_map (blind_found hide) (joinable s c name)
joinable_blind hide s c name =
    elim (length name == 0) as (λ (b : Bool).
    cond b None (find (λ e. is_joinable s.clock c name e.1) (blind_keys hide s.keys))
    ≡ option_map (blind_found hide) (cond b None (find (λ e. is_joinable s.clock c name e.1) s.keys))) [
      | true ↦ refl
      | false ↦ find_blind hide s.keys (is_joinable s.clock c name) (λ n v. refl)
    ]

ring_stays : (h : List ℕ → List ℕ) (name : List ℕ) (c : Caller)
    → blind_key h (session_ring name c) ≡ session_ring name c
ring_stays h name c = grind (arith, nat_tests)

joined_blind : (hide : Hiding) (s : State) (number : ℕ) (c : Context) (name : List ℕ) (o : Option (ℕ × Key))
    → IsSeen (blind_done hide) (session_joined (blind hide s) number c name (option_map (blind_found hide) o))
    (session_joined s number c name o)
joined_blind hide s number c name (Some found) = record { is = refl }
joined_blind hide s number c name None =
    let n = s.next_serial in
    let ring = session_ring name c.caller in
    let t = joined_to (with_new s ring) number n in
    let to : Table Key → Outcome = λ es. Ok (record t { keys = es }, Number n) in
    record {
      is = ap (λ (key : Key). to (put (blind_keys hide s.keys) n key)) (sym (ring_stays (hide n) name c.caller))
          ∙ ap to (put_blind hide s.keys n ring);
    }

joinable_first :
    (s : State) (c : Context) (name : List ℕ) (found : ℕ × Key) → joinable s c.caller name ≡ Some found
    → find (λ e. is_joinable s.clock c.caller name e.1) s.keys ≡ Some found
joinable_first s c name found h = grind (arith, nat_tests, none-some)

-- a context of another uid joins none of these keys
other_joins :
    (uid : ℕ) (private : ℕ → Bool) (s : State) (c : Context) (name : List ℕ) (found : ℕ × Key) → Rises s.keys
    → HasToItself uid private s → c.caller.uid ≢ uid → joinable s c.caller name ≡ Some found
    → private found.0 ≡ true → ⊥
other_joins uid private s c name found rises alone other is m =
    let least = found_least (is_joinable s.clock c.caller name) s.keys found rises (joinable_first s c name found is) in
    let may = passed_may s c name found.0 found.1 least.there least.passes in
    let rights = no_class uid may.key c.caller (alone.enclosed.own found.0 may.key m may.there) other in
    true≢false (sym may.granted ∙ ap (λ (n : ℕ). has_all n SEARCH) rights)

found_joined :
    (uid : ℕ) (private : ℕ → Bool) (s : State) (number : ℕ) (c : Context) (name : List ℕ) (found : ℕ × Key)
    → Rises s.keys → HasToItself uid private s → at s.contexts number ≡ Some c → joinable s c.caller name ≡ Some found
    → AreUnattached uid private (joined_to s number found.0)
found_joined uid private s number c name found rises alone there is =
    grind (arith, nat_tests, own_joined_unattached, joined_unattached, other_joins)

joined_fares :
    (s : State) (client context : ℕ) (c : Context) (name : List ℕ) (answer : Option (ℕ × Key))
    → context_of s client context ≡ Ok c → joinable s c.caller name ≡ answer
    → Meets (λ (new : State). IsWithin s new → Fares s client context (Join name) new)
    (session_joined s context c name answer)
joined_fares s client context c name (Some found) own is = meets_ok (λ within.
    housed_fares s client context _ _ _ _ _
    (Alters c (session_to found.0) own (record { client = λ v. refl; process = λ v. refl; caller = λ v. refl })
    (JoinsFound name found refl is))
    (λ stands. joined_stands s context found.0 (joinable_there s c.caller name found is) stands)
    (λ uid private stands alone. found_joined uid private s context c name found stands.rising alone
    (own_there s client context c own) is))
joined_fares s client context c name None own is =
    let ring = session_ring name c.caller in
    let one = with_new s ring in
    meets_ok (λ within. record {
      comes = λ other. comes_trans s one (joined_to one context s.next_serial) (with_new_comes s ring)
          (same_comes one (joined_to one context s.next_serial) refl refl refl refl);
      counts = λ placed. within;
      houses = Alters c (session_to s.next_serial) own
          (record { client = λ v. refl; process = λ v. refl; caller = λ v. refl }) (JoinsNew name refl);
      stands = λ stands. new_joined_stands s context name c.caller stands;
      guards = λ uid private stands alone. record {
        made = later_made uid private s alone;
        enclosed = λ p. new_enclosed uid private s ring (session_ring_empty name c.caller) alone;
        unattached = joined_unattached uid private one context s.next_serial (next_apart uid private s alone)
            (same_unattached uid private s one refl refl refl alone.unattached);
      };
      keeps = λ uid private stands alone other.
          inl (put_same private s.keys s.next_serial ring (next_apart uid private s alone));
    })

pub join_law : (s : State) (client context : ℕ) (name : List ℕ) → IsLawful s client context (Join name)
unfolding join
join_law s client context name = record {
  small = λ mid answer few h. tt;
  plain = search (plains, plain_session_named, plain_joined) depth 12;
  blind = λ hide hides. is_seen (blind_done hide) (simp joinable_blind (search (joined_blind, steps) depth 12));
  fares = search (meets_after, fares_within, joined_fares) depth 8;
}
