-- An ask in no context of a uid leaves each key that the uid has to itself as it is, but that an invalidated key goes
-- out of its links.
use Rattle.std.proofs.Common.{◌∙◌, ◌≡◌, ◌⊎◌, arith, Bool, codes, Ok, refl, Result, subst, true, ℕ, ℤ}
use Rattle.std.proofs.lemmas.Bool.Decides.{nat_tests}
use Rattle.krs_types.specs.declared.{ask.Op.{Op, TheVariants.Invalidate}, context.Context.Context, errno.Errno.Errno}
use Rattle.krs_types.specs.{declared.{key_id.KeyId.KeyId, rights.Want.TheVariants.Granted}, KeyId.key_id_of}
use Rattle.krs_types.specs.Rights.{SEARCH, WRITE}
use Rattle.krs_model.specs.{Asks.Linked.{linked_into, name_of, without_link}, Confidentiality.HasToItself}
use Rattle.krs_model.specs.{Linking.is_named, Lookup.{context_of, look_up}, Making.{made_for, special_ring}}
use Rattle.krs_model.specs.{Search.found, State.{Key, State}, Table.{alter, at, map_values, put, Table}}
use Rattle.krs_model.proofs.{Asks.LaterByAsk.linked_into_is, Isolation.{Guarded.{next_apart, NotBy}, Keys.not_found}}
use Rattle.krs_model.proofs.{Isolation.Links.{made_alone, other_made}, MadeKeyring.Which.{IsMade, made_for_is}}
use Rattle.krs_model.proofs.{MadeKeyring.Which.{NoneMade, ProcessMade, ThreadMade}, Sound.Changes.{at_change, at_put}}
use Rattle.krs_model.proofs.Sound.Changes.{Stands, with_linked}

abbrev pub AreSame : (ℕ → Bool) → Table Key → Table Key → Type 0
AreSame private old new = (k : ℕ) → private k ≡ true → at new k ≡ at old k

pub same_trans : (private : ℕ → Bool) (a b c : Table Key) → AreSame private a b → AreSame private b c
    → AreSame private a c
same_trans private a b c f g = λ k m. g k m ∙ f k m

-- a change of a key that is none of these
pub other_same :
    (private : ℕ → Bool) (es : Table Key) (n : ℕ) (f : Key → Key) → (private n ≡ true → ⊥)
    → AreSame private es (alter es n f)
other_same private es n f apart = grind (arith, nat_tests, at_change)

pub put_same :
    (private : ℕ → Bool) (es : Table Key) (n : ℕ) (v : Key) → (private n ≡ true → ⊥) → AreSame private es (put es n v)
put_same private es n v apart = grind (arith, nat_tests, at_put)

is_made_same :
    (private : ℕ → Bool) (s : State) (number : ℕ) (c : Context) (id : Result KeyId Errno) (made : State × Context)
    → IsMade s number c id made → (private s.next_serial ≡ true → ⊥) → AreSame private s.keys made.0.keys
is_made_same private s number c id _ NoneMade fresh = λ k m. refl
is_made_same private s number c id _ (ThreadMade is none) fresh =
    put_same private s.keys s.next_serial (special_ring (codes "_tid") c.caller) fresh
is_made_same private s number c id _ (ProcessMade is none) fresh =
    put_same private s.keys s.next_serial (special_ring (codes "_pid") c.caller) fresh

pub made_same :
    (uid : ℕ) (private : ℕ → Bool) (s : State) (number : ℕ) (c : Context) (id : ℤ) → HasToItself uid private s
    → AreSame private s.keys (made_for s number c id).0.keys
made_same uid private s number c id alone =
    is_made_same private s number c (key_id_of id) (made_for s number c id) (made_for_is s number c id)
    (next_apart uid private s alone)

-- a context of another uid finds no keyring of these to write in the state with the made keyring
pub not_into :
    (uid : ℕ) (private : ℕ → Bool) (s : State) (client context : ℕ) (c : Context) (id : ℤ) (into : ℕ × Key) → Stands s
    → HasToItself uid private s → context_of s client context ≡ Ok c → NotBy uid s client context
    → look_up (made_for s context c id).0 (made_for s context c id).1 id (Granted WRITE) ≡ Ok into
    → private into.0 ≡ true → ⊥
not_into uid private s client context c id into stands alone own other is m =
    let made = made_for s context c id in
    let apart = other_made uid private s client context c id stands alone own other in
    let still = made_alone uid private s context c id alone in
    not_found uid private made.0 made.1 id (Granted WRITE) into still.enclosed apart.none apart.apart refl is m

pub linked_same :
    (private : ℕ → Bool) (s : State) (into found : ℕ × Key) (new : State) → (private into.0 ≡ true → ⊥)
    → linked_into s into found ≡ Ok new → AreSame private s.keys new.keys
linked_same private s into found new apart is =
    let displaced : ℕ → Bool = λ k. is_named (name_of found.1) (at s.keys k) in
    subst (λ (z : State). AreSame private s.keys z.keys) (linked_into_is s into found new is).is
    (other_same private s.keys into.0 (with_linked displaced found.0) apart)

-- a key went out of every keyring
pub record IsDetached (s : State) (client context : ℕ) (op : Op) (keys : Table Key) : Type 0 where
  pub id : ℤ
  pub whose : Context
  pub gone : ℕ × Key
  pub asked : op ≡ Invalidate id
  pub own : context_of s client context ≡ Ok whose
  pub found : look_up s whose id (Granted SEARCH) ≡ Ok gone
  pub left : keys ≡ map_values (without_link gone.0) s.keys

-- these keys are as they were, but where a key is invalidated
abbrev pub KeysAfter : (ℕ → Bool) → State → ℕ → ℕ → Op → State → Type 0
KeysAfter private s client context op new =
    (AreSame private s.keys new.keys) ⊎ (IsDetached s client context op new.keys)
