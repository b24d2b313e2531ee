-- What an accepted ask comes to, and a change of one key, with the payloads hidden.
use Rattle.std.proofs.Common.{◌≡◌, ap, arith, List, Ok, refl, ℕ, ℤ}
use Rattle.krs_types.specs.declared.{ask.Answer.Answer, context.Context.Context, rights.Want.Want}
use Rattle.krs_types.specs.Refusing.{◌>>=◌}
use Rattle.krs_model.specs.{Asks.Changing.{changed, paid_with}, Hiding.{blind, blind_content, blind_key, Hiding}}
use Rattle.krs_model.specs.{Hiding.over, Lookup.{context_of, look_up}, Notes.Telling.named}
use Rattle.krs_model.specs.{Outcome.Outcome, State.{Content, Key, Links, Payload, State}, Table.Table}
use Rattle.krs_model.proofs.Hiding.{Keys.alter_blind, Lookups.{blind_found, look_up_blind}, Over.{after, bound}}
use Rattle.krs_model.proofs.Lookups.Serials.{found_serial}
use Rattle.std.proofs.lemmas.Grind.{common_steps}

-- what an accepted ask comes to with the payloads of the store hidden
abbrev pub blind_done : Hiding → State × Answer → State × Answer
blind_done hide done = (blind hide done.0, done.1)

-- after a look-up in a context
pub found_in :
    (hide : Hiding) (s : State) (client context : ℕ) (id : ℤ) (want : Want) (view : State × Answer → State × Answer)
    (f g : Context → ℕ × Key → Outcome)
    → ((c : Context) (found : ℕ × Key) → context_of s client context ≡ Ok c → look_up s c id want ≡ Ok found
    → g c (blind_found hide found) ≡ over view (f c found))
    → (context_of (blind hide s) client context >>= (λ c. look_up (blind hide s) c id want >>= (λ found. g c found)))
    ≡ over view (context_of s client context >>= (λ c. look_up s c id want >>= (λ found. f c found)))
unfolding context_of
found_in hide s client context id want view f g each = search (after, look_up_blind, bound) depth 8

-- an accepted ask
abbrev pub accepted : State → Answer → Outcome
accepted s answer = Ok (s, answer)

-- a change of one key that leaves what is hidden hidden
pub changed_blind :
    (hide : Hiding) (s : State) (n : ℕ) (f g : Key → Key)
    → ((v : Key) → g (blind_key (hide n) v) ≡ blind_key (hide n) (f v))
    → changed (blind hide s) n g ≡ blind hide (changed s n f)
changed_blind hide s n f g same = ap (λ (es : Table Key). record s { keys = es }) (alter_blind hide s.keys n f g same)

pub done_changed :
    (hide : Hiding) (s : State) (n : ℕ) (f g : Key → Key) (answer : Answer)
    → ((v : Key) → g (blind_key (hide n) v) ≡ blind_key (hide n) (f v))
    → accepted (changed (blind hide s) n g) answer ≡ over (blind_done hide) (accepted (changed s n f) answer)
done_changed hide s n f g answer same =
    ap (λ (t : State). accepted t answer) (changed_blind hide s n f g same)

pub paid_blind : (h : List ℕ → List ℕ) (payload other : List ℕ) (content : Content) → other ≡ h payload
    → paid_with other (blind_content h content) ≡ blind_content h (paid_with payload content)
paid_blind h payload other (Payload bytes) is = ap Payload is
paid_blind h payload other (Links serials) is = refl

-- the id names the serial that is found
pub named_is :
    (s : State) (client context : ℕ) (id : ℤ) (want : Want) (c : Context) (found : ℕ × Key)
    → context_of s client context ≡ Ok c → look_up s c id want ≡ Ok found → named s client context id ≡ Ok found.0
named_is s client context id want c found own there = grind (arith, common_steps, found_serial)
