-- What a uid has to itself once an ask was accepted: where one key changes, and what others find.
use Rattle.std.proofs.Common.{◌<◌, ◌≡◌, ◌≢◌, arith, Bool, false, None, Ok, Option, Some, true, ℕ, ℤ}
use Rattle.std.proofs.lemmas.Bool.Decides.{nat_tests}
use Rattle.krs_types.specs.declared.{ask.Op.Op, caller.Caller.Caller, context.{Context.Context, UidRings.UidRings}}
use Rattle.krs_types.specs.{declared.rights.Want.Want, Rights.allows}
use Rattle.krs_model.specs.{Asks.{Changing.changed, Hello.with_uid}, Confidentiality.{AreEnclosed, AreUnattached}}
use Rattle.krs_model.specs.{Confidentiality.{HasToItself, is_own, may_give}, Lookup.{context_of, look_up}}
use Rattle.krs_model.specs.{Sound.AllPlaced, State.{Key, State}, Table.at}
use Rattle.krs_model.proofs.Isolation.{Attachments.{attaches_none, same_unattached}, Keys.changed_enclosed}
use Rattle.krs_model.proofs.{Isolation.Keys.{KeepsOwn, not_found}, Lookups.Serials.own_there, Sound.Changes.Lessens}
use Rattle.krs_model.proofs.Tables.Counts.{part_in}

-- the uid has them to itself, but for the links and masks, which are so where this holds
pub record Guarded (uid : ℕ) (private : ℕ → Bool) (P : Type 0) (s : State) : Type 0 where
  pub made : (k : ℕ) → private k ≡ true → k < s.next_serial
  pub enclosed : P → AreEnclosed uid private s.keys
  pub unattached : AreUnattached uid private s

pub alone_guarded : (uid : ℕ) (private : ℕ → Bool) (P : Type 0) (s : State) → HasToItself uid private s
    → Guarded uid private P s
alone_guarded uid private P s alone = search depth 8

-- a serial that is not given yet is of none of these keys
pub next_apart : (uid : ℕ) (private : ℕ → Bool) (s : State) → HasToItself uid private s
    → private s.next_serial ≡ true → ⊥
next_apart uid private s alone m = let less : s.next_serial < s.next_serial = alone.made s.next_serial m in omega arith

-- no context of this uid asks
abbrev pub NotBy : ℕ → State → ℕ → ℕ → Type 0
NotBy uid s client context = (c : Context) → context_of s client context ≡ Ok c → c.caller.uid ≢ uid

-- no context of the uid asks, or the ask can't give a key away
abbrev pub Holds : ℕ → State → ℕ → ℕ → Op → Type 0
Holds uid s client context op = (may_give op ≡ true) → NotBy uid s client context

-- one key changed
pub changed_guarded :
    (uid : ℕ) (private : ℕ → Bool) (P : Type 0) (s : State) (n : ℕ) (f : Key → Key) → (P → KeepsOwn uid private n f)
    → HasToItself uid private s → Guarded uid private P (changed s n f)
changed_guarded uid private P s n f keeps alone = search (changed_enclosed, same_unattached) depth 8

-- fewer links, or as many, and the same rights
pub lessens_keeps :
    (uid : ℕ) (private : ℕ → Bool) (n : ℕ) (f : Key → Key) → Lessens f
    → ((v : Key) → private n ≡ true → is_own uid v ≡ true → is_own uid (f v) ≡ true) → KeepsOwn uid private n f
lessens_keeps uid private n f less own = grind (arith, nat_tests, part_in)

-- a context of another uid finds none of these keys
pub none_found :
    (uid : ℕ) (private : ℕ → Bool) (s : State) (client context : ℕ) (c : Context) (id : ℤ)
    (want : Want) (found : ℕ × Key)
    → HasToItself uid private s → context_of s client context ≡ Ok c → NotBy uid s client context
    → allows want 0 false ≡ false → look_up s c id want ≡ Ok found → private found.0 ≡ true → ⊥
none_found uid private s client context c id want found alone own other wants is m =
    search (attaches_none, own_there, not_found) depth 8

pub uid_processes :
    (s : State) (c : Caller) (rings : Option UidRings)
    → (at s.processes s.next_context ≡ None)
    → at (with_uid s c rings).processes (with_uid s c rings).next_context ≡ None
uid_processes s c (Some rings) none = none
uid_processes s c None none = none

pub uid_placed : (s : State) (c : Caller) (rings : Option UidRings) → AllPlaced s → AllPlaced (with_uid s c rings)
uid_placed s c (Some rings) placed = placed
uid_placed s c None placed = placed
