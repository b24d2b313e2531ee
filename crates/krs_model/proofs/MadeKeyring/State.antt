-- A thread or process keyring that is made: what its store is, told by the state before.
use Rattle.std.proofs.Common.{[], ⊎_elim, ◌++◌, ◌+◌, ◌∙◌, ◌∷◌, ◌≡◌, ◌≢◌, ◌⊎◌, arith, codes, inl, inr, IsSome, List}
use Rattle.std.proofs.Common.{None, Ok, Option, option_map, option_to_list, refl, Result, Some, sym, true≢false}
use Rattle.std.proofs.{Common.{unwrap_or, ℕ, ℤ}, lemmas.Bool.Decides.nat_tests}
use Rattle.krs_types.specs.declared.{context.Context.Context, errno.Errno.Errno, key_id.KeyId.KeyId}
use Rattle.krs_types.specs.declared.key_id.KeyId.TheVariants.{Process, Serial, Session, Thread, User, UserSession}
use Rattle.krs_types.specs.KeyId.{key_id_of}
use Rattle.krs_model.specs.{Lookup.{attachment, serial_of}, Making.{made_for, special_ring, thread_to, with_process}}
use Rattle.krs_model.specs.{Making.with_thread, Possession.{attached, process_ring}, State.{Key, State}, Table.at}
use Rattle.krs_model.specs.Table.{put, Table}
use Rattle.krs_model.proofs.MadeKeyring.Which.{IsMade, made_for_is, NoneMade, ProcessMade, ThreadMade}
use Rattle.krs_model.proofs.{Sound.Changes.{at_put, IsPut}, Tables.Changes.at_alter_same}

-- t and d are s and c with an empty keyring of that description made under the next serial, which is attached behind
-- some keyrings and before others, and which a special id stands for
pub record HasMade (s : State) (c : Context) (t : State) (d : Context) (desc before after : List ℕ) : Type 0 where
  pub keys : t.keys ≡ put s.keys s.next_serial (special_ring desc c.caller)
  pub next : t.next_serial ≡ s.next_serial + 1
  pub clock : t.clock ≡ s.clock
  pub caller : d.caller ≡ c.caller
  pub was : attached s c ≡ before ++ after
  pub is : attached t d ≡ before ++ (s.next_serial ∷ after)
  pub stands_for : (id : KeyId) → (attachment t d id ≡ Some s.next_serial) ⊎ (attachment t d id ≡ attachment s c id)

-- an id stands for the new keyring, or for what it stood for
abbrev pub StandsFor : State → Context → State → Context → KeyId → Type 0
StandsFor s c t d id = (attachment t d id ≡ Some s.next_serial) ⊎ (attachment t d id ≡ attachment s c id)

thread_for :
    (s : State) (number : ℕ) (c : Context) (id : KeyId)
    → StandsFor s c (with_thread s number c) (thread_to s.next_serial c) id
thread_for s number c (Serial k) = inr refl
thread_for s number c Thread = inl refl
thread_for s number c Process = inr refl
thread_for s number c Session = inr refl
thread_for s number c User = inr refl
thread_for s number c UserSession = inr refl

-- a new thread keyring is the first that is attached
pub thread_has :
    (s : State) (number : ℕ) (c : Context) → c.thread ≡ None
    → HasMade s c (with_thread s number c) (thread_to s.next_serial c) (codes "_tid") [] (attached s c)
thread_has s number c none = grind (arith, nat_tests, thread_for)

renewed : (n : ℕ) (o : Option (Option ℕ)) → IsSome o → unwrap_or (option_map (λ ring. Some n) o) None ≡ Some n
renewed n None there = absurd (true≢false (sym there))
renewed n (Some ring) there = refl

-- the new keyring of a process that is there
process_is_new :
    (s : State) (c : Context) → IsSome (at s.processes c.process)
    → process_ring (with_process s c) c.process ≡ Some s.next_serial
process_is_new s c there = search (at_alter_same, renewed) depth 8

process_for :
    (s : State) (c : Context) (id : KeyId) → IsSome (at s.processes c.process) → StandsFor s c (with_process s c) c id
process_for s c (Serial k) there = inr refl
process_for s c Thread there = inr refl
process_for s c Process there = inl (process_is_new s c there)
process_for s c Session there = inr refl
process_for s c User there = inr refl
process_for s c UserSession there = inr refl

-- a new process keyring is attached behind the thread keyring
pub process_has :
    (s : State) (c : Context) → process_ring s c.process ≡ None → IsSome (at s.processes c.process)
    → HasMade s c (with_process s c) c (codes "_pid") (option_to_list c.thread) (option_to_list c.session)
process_has s c none there = grind (arith, nat_tests, process_is_new, process_for)

-- nothing was made, or a keyring that the id stands for
pub data HasMadeFor (s : State) (c : Context) (id : ℤ) : State × Context → Type 0 where
  MadeNone : HasMadeFor s c id (s, c)
  MadeOne :
      (t : State) (d : Context) (desc before after : List ℕ) → HasMade s c t d desc before after
      → serial_of t d id ≡ Ok s.next_serial → HasMadeFor s c id (t, d)

named_new :
    (t : State) (d : Context) (id : ℤ) (named : KeyId) (n : ℕ) → key_id_of id ≡ Ok named
    → attachment t d named ≡ Some n → serial_of t d id ≡ Ok n
unfolding serial_of
named_new t d id named n is stands = search depth 8

is_made_has :
    (s : State) (number : ℕ) (c : Context) (id : ℤ) (named : Result KeyId Errno) (made : State × Context)
    → key_id_of id ≡ named → IsSome (at s.processes c.process) → IsMade s number c named made → HasMadeFor s c id made
is_made_has s number c id named _ e there NoneMade = MadeNone
is_made_has s number c id named _ e there (ThreadMade is none) =
    MadeOne (with_thread s number c) (thread_to s.next_serial c) (codes "_tid") [] (attached s c)
    (thread_has s number c none)
    (named_new (with_thread s number c) (thread_to s.next_serial c) id Thread s.next_serial (e ∙ is) refl)
is_made_has s number c id named _ e there (ProcessMade is none) =
    MadeOne (with_process s c) c (codes "_pid") (option_to_list c.thread) (option_to_list c.session)
    (process_has s c none there)
    (named_new (with_process s c) c id Process s.next_serial (e ∙ is) (process_is_new s c there))

-- what is made for an id, in a context whose process is there
pub made_for_has :
    (s : State) (number : ℕ) (c : Context) (id : ℤ) → IsSome (at s.processes c.process)
    → HasMadeFor s c id (made_for s number c id)
made_for_has s number c id there =
    is_made_has s number c id (key_id_of id) (made_for s number c id) refl there (made_for_is s number c id)

-- what is at a number is the new key at its number, or was there
pub either_at :
    (P : Option Key → Option Key → Type 0) (es : Table Key) (n k : ℕ) (v : Key) → at es n ≡ None
    → (k ≡ n → P (Some v) None) → ((o : Option Key) → P o o) → P (at (put es n v) k) (at es k)
either_at P es n k v none new old = grind (arith, nat_tests, at_put)

-- what is at another number
pub at_other : (es : Table Key) (n k : ℕ) (v : Key) → k ≢ n → at (put es n v) k ≡ at es k
at_other es n k v other = ⊎_elim (λ (r : IsPut es n v k). absurd (other r.0)) (λ e. e) (at_put es n k v)
