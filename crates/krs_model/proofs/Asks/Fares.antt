-- What becomes of a store by an accepted ask.
use Rattle.std.proofs.Common.{◌∙◌, ◌≡◌, arith, Bool, cond, false, inl, Ok, Option, refl, Result, Some, sym}
use Rattle.std.proofs.{Common.{true, true≢false, ℕ, ℤ}, lemmas.Bool.Decides.nat_tests}
use Rattle.krs_types.specs.declared.{ask.Op.Op, context.{Context.Context, UidRings.UidRings}, errno.Errno.Errno}
use Rattle.krs_types.specs.declared.{errno.Errno.TheVariants.ENOKEY, rights.Want.{Want, TheVariants.Granted}}
use Rattle.krs_types.specs.{Refusing.or_refuse, Rights.{allows, WRITE}}
use Rattle.krs_model.specs.Asks.{Changing.changed, Finding.{found_into, if_linkable}, Linked.linked_into}
use Rattle.krs_model.specs.{Confidentiality.{AreUnattached, HasToItself, is_own, may_give}, Lookup.context_of}
use Rattle.krs_model.specs.{Lookup.look_up, Making.{made_for, within_serials}, Outcome.Outcome, Queues.Queues}
use Rattle.krs_model.specs.{Queues.with_queues, Sound.AllPlaced, State.{Key, State}, Table.{at, Table}}
use Rattle.krs_model.proofs.Asks.{Done.is_of_queues, Houses.{Houses, HousesIn, linked_houses, made_houses, Same}}
use Rattle.krs_model.proofs.Asks.Later.{changed_comes, Comes, comes_trans, same_comes, within_ok}
use Rattle.krs_model.proofs.Asks.{LaterByAsk.{linked_into_comes, made_for_comes}, NewSerials.counts_within}
use Rattle.krs_model.proofs.Asks.{NewSerials.{IsWithin, same_counts}, Outcomes.{Meets, meets_after, meets_ok}}
use Rattle.krs_model.proofs.Isolation.{Attachments.same_unattached, Guarded.{alone_guarded, changed_guarded, Guarded}}
use Rattle.krs_model.proofs.Isolation.{Guarded.{Holds, lessens_keeps, none_found, NotBy}, Links.linked_guarded}
use Rattle.krs_model.proofs.Isolation.{Links.{made_alone, other_linkable, other_made}, Untouched.KeysAfter}
use Rattle.krs_model.proofs.Isolation.Untouched.{linked_same, made_same, not_into, other_same, same_trans}
use Rattle.krs_model.proofs.{Lookups.Serials.refused_is, Sound.Changes.{changed_stands, Lessens, same_stands, Stands}}
use Rattle.krs_model.proofs.Sound.{KeyChanges.{leaves, unlinked_lessens, updated_lessens}, Links.linkable_is}
use Rattle.krs_model.proofs.Sound.{Links.linked_into_stands, NewContexts.made_for_stands}
use Rattle.std.proofs.lemmas.Grind.{common_steps}

-- what an accepted ask leaves before the sweep
pub record Fares (s : State) (client context : ℕ) (op : Op) (new : State) : Type 0 where
  -- an ask of keys leaves queues, and keys stay, or come under new serials
  pub comes : is_of_queues op ≡ false → Comes s new
  -- no serial was given, or none above the last
  pub counts : AllPlaced s → IsWithin s new
  -- what it has done to contexts, processes and uids
  pub houses : HousesIn s client context op new
  -- keys, links and attachments stand as they should
  pub stands : Stands s → Stands new
  -- a uid has its keys to itself, but where a context of it gives one away
  pub guards : (uid : ℕ) (private : ℕ → Bool) → Stands s → HasToItself uid private s
      → Guarded uid private (Holds uid s client context op) new
  -- in no context of a uid it leaves the keys that the uid has to itself as they are
  pub keeps : (uid : ℕ) (private : ℕ → Bool) → Stands s → HasToItself uid private s → NotBy uid s client context
      → KeysAfter private s client context op new

-- a key changed, which the ask finds by a right that a stranger to the key has not
pub changed_fares :
    (s : State) (client context : ℕ) (op : Op) (c : Context) (id : ℤ) (want : Want) (found : ℕ × Key) (f : Key → Key)
    → context_of s client context ≡ Ok c → look_up s c id want ≡ Ok found → allows want 0 false ≡ false → Lessens f
    → ((v : Key) → v.revoked ≡ true → (f v).revoked ≡ true)
    → ((uid : ℕ) (private : ℕ → Bool) → HasToItself uid private s → Holds uid s client context op → (v : Key)
    → private found.0 ≡ true → is_own uid v ≡ true → is_own uid (f v) ≡ true)
    → Fares s client context op (changed s found.0 f)
changed_fares s client context op c id want found f own is wants less gone stays = record {
  comes = λ other. changed_comes s found.0 f gone;
  counts = λ placed. same_counts s (changed s found.0 f) refl;
  houses = Same;
  stands = λ stands. changed_stands s found.0 f less stands;
  guards = search (changed_guarded, lessens_keeps) depth 8;
  keeps = λ uid private stands alone other. inl (other_same private s.keys found.0 f
      (λ m. none_found uid private s client context c id want found alone own other wants is m));
}

-- nothing changed
pub same_fares : (s : State) (client context : ℕ) (op : Op) → Fares s client context op s
same_fares s client context op = record {
  comes = λ other. same_comes s s refl refl refl refl;
  counts = λ placed. same_counts s s refl;
  houses = Same;
  stands = λ stands. stands;
  guards = λ uid private stands alone. alone_guarded uid private (Holds uid s client context op) s alone;
  keeps = λ uid private stands alone other. inl (λ k m. refl);
}

-- queues and watches changed
pub queues_fares :
    (s : State) (client context : ℕ) (op : Op) (queues : Queues) → is_of_queues op ≡ true
    → Fares s client context op (with_queues s queues)
queues_fares s client context op queues of_queues = record {
  comes = λ other. absurd (true≢false (sym of_queues ∙ other));
  counts = λ placed. same_counts s (with_queues s queues) refl;
  houses = Same;
  stands = λ stands. same_stands s _ refl refl stands.attached stands.placed stands.housed stands;
  guards = grind (arith, nat_tests, same_unattached);
  keeps = λ uid private stands alone other. inl (λ k m. refl);
}

-- the store with other contexts, processes and uids
abbrev pub housing : State → Table Context → Table (Option ℕ) → Table UidRings → ℕ → State
housing s contexts processes uids next =
    record s { contexts = contexts; processes = processes; uids = uids; next_context = next }

-- contexts, processes and uids changed
pub housed_fares :
    (s : State) (client context : ℕ) (op : Op) (contexts : Table Context) (processes : Table (Option ℕ))
    (uids : Table UidRings) (next : ℕ) → Houses s client context op contexts processes uids
    → (Stands s → Stands (housing s contexts processes uids next))
    → ((uid : ℕ) (private : ℕ → Bool) → Stands s → HasToItself uid private s
    → AreUnattached uid private (housing s contexts processes uids next))
    → Fares s client context op (housing s contexts processes uids next)
housed_fares s client context op contexts processes uids next houses stands unattached =
    grind (arith, nat_tests, same_comes, same_counts)

-- where no serial above the last is given
pub fares_within :
    {P : State → Type 0} (s : State) (r : Outcome) → Meets (λ (new : State). IsWithin s new → P new) r
    → Meets P (within_serials s r)
fares_within s r h = grind (arith, nat_tests, within_ok, counts_within)

-- one ask or the other, by a test
pub meets_by :
    {P : State → Type 0} (b : Bool) (x y : Outcome) → (b ≡ true → Meets P x) → Meets P y → Meets P (cond b x y)
meets_by true x y h k = h refl
meets_by false x y h k = k

-- a key linked into the keyring that an id names, or that is made for it
pub linked_fares :
    (s : State) (client context : ℕ) (op : Op) (c : Context) (id : ℤ) (into found : ℕ × Key) (new : State)
    → context_of s client context ≡ Ok c
    → look_up (made_for s context c id).0 (made_for s context c id).1 id (Granted WRITE) ≡ Ok into
    → at (made_for s context c id).0.keys found.0 ≡ Some found.1
    → linked_into (made_for s context c id).0 into found ≡ Ok new
    → ((uid : ℕ) (private : ℕ → Bool) → Stands s → HasToItself uid private s → Holds uid s client context op
    → private found.0 ≡ true → ⊥) → IsWithin s new → Fares s client context op new
linked_fares s client context op c id into found new own goes there linked apart within =
    let made = made_for s context c id in
    record {
      comes = search (comes_trans, made_for_comes, linked_into_comes) depth 8;
      counts = λ placed. within;
      houses = linked_houses s made.0 client context op into found new linked
          (made_houses s client context op c id own);
      stands = λ stands. linked_into_stands made.0 into found new there linked (made_for_stands s context c id stands);
      guards = λ uid private stands alone. linked_guarded uid private (Holds uid s client context op) made.0 into found
          new (apart uid private stands alone) linked (made_alone uid private s context c id alone);
      keeps = λ uid private stands alone other.
          inl (same_trans private s.keys made.0.keys new.keys (made_same uid private s context c id alone)
          (linked_same private made.0 into found new
          (not_into uid private s client context c id into stands alone own other goes) linked));
    }

-- a key that was found, linked into the destination
pub found_fares :
    (s : State) (client context : ℕ) (op : Op) (c : Context) (id : ℤ) (into : ℕ × Key) (answer : Result ℕ Errno)
    → context_of s client context ≡ Ok c
    → look_up (made_for s context c id).0 (made_for s context c id).1 id (Granted WRITE) ≡ Ok into
    → may_give op ≡ true
    → Meets (λ (new : State). IsWithin s new → Fares s client context op new)
    (found_into (made_for s context c id).0 (made_for s context c id).1 into answer)
found_fares s client context op c id into answer own goes gives =
    let made = made_for s context c id in
    meets_after answer _ (λ serial _.
    meets_after (or_refuse ENOKEY (at made.0.keys serial)) _ (λ key is.
    meets_after (if_linkable made.0 made.1 serial key) _ (λ found same.
    meets_after (linked_into made.0 into found) _ (λ new linked.
    let key_there = refused_is (at made.0.keys serial) ENOKEY key is in
    let there : at made.0.keys found.0 ≡ Some found.1 = grind (arith, common_steps, linkable_is) in
    meets_ok (linked_fares s client context op c id into found new own goes there linked
    (λ uid private stands alone holds m.
    other_linkable uid private made.0 made.1 serial key found (made_alone uid private s context c id alone)
    (other_made uid private s client context c id stands alone own (holds gives)) key_there same m))))))

-- of these a search is made: what an ask leaves, step by step
pub ruleset fares = (
  fares_within,
  found_fares,
  meets_by,
  meets_after,
  meets_ok,
  changed_fares,
  same_fares,
  queues_fares,
  leaves,
  unlinked_lessens,
  updated_lessens,
)
