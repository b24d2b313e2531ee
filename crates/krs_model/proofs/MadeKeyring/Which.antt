-- What is made for an id: nothing, a thread keyring or a process keyring.
use Rattle.std.proofs.Common.{◌∙◌, ◌≡◌, ap, arith, Err, None, Ok, Option, refl, Result, Some, sym, ℕ, ℤ}
use Rattle.std.proofs.lemmas.{Bool.Decides.nat_tests, Option.none-some}
use Rattle.krs_types.specs.declared.{context.Context.Context, errno.Errno.{Errno, TheVariants.ENOKEY}}
use Rattle.krs_types.specs.declared.key_id.KeyId.{KeyId, TheVariants.{Process, Serial, Session, Thread, User}}
use Rattle.krs_types.specs.{declared.key_id.KeyId.TheVariants.UserSession, KeyId.key_id_of, Refusing.◌>>=◌}
use Rattle.krs_types.specs.Refusing.{or_refuse}
use Rattle.krs_model.specs.{Lookup.{attachment, serial_of}, Making.{made_at, made_for, process_made, thread_made}}
use Rattle.krs_model.specs.{Making.{thread_to, with_process, with_thread}, Possession.process_ring, State.State}

-- nothing is made, or a thread keyring where the context has none, or a process keyring where its process has none
pub data IsMade (s : State) (number : ℕ) (c : Context) (id : Result KeyId Errno) : State × Context → Type 0 where
  NoneMade : IsMade s number c id (s, c)
  ThreadMade :
      id ≡ Ok Thread → c.thread ≡ None → IsMade s number c id (with_thread s number c, thread_to s.next_serial c)
  ProcessMade : id ≡ Ok Process → process_ring s c.process ≡ None → IsMade s number c id (with_process s c, c)

thread_is :
    (s : State) (number : ℕ) (c : Context) (ring : Option ℕ) → c.thread ≡ ring
    → IsMade s number c (Ok Thread) (thread_made s number c ring)
thread_is s number c (Some ring) is = NoneMade
thread_is s number c None is = ThreadMade refl is

process_is :
    (s : State) (number : ℕ) (c : Context) (ring : Option ℕ) → process_ring s c.process ≡ ring
    → IsMade s number c (Ok Process) (process_made s c ring)
process_is s number c (Some ring) is = NoneMade
process_is s number c None is = ProcessMade refl is

made_at_is :
    (s : State) (number : ℕ) (c : Context) (id : Result KeyId Errno) → IsMade s number c id (made_at s number c id)
made_at_is s number c (Err e) = NoneMade
made_at_is s number c (Ok (Serial n)) = NoneMade
made_at_is s number c (Ok Thread) = thread_is s number c c.thread refl
made_at_is s number c (Ok Process) = process_is s number c (process_ring s c.process) refl
made_at_is s number c (Ok Session) = NoneMade
made_at_is s number c (Ok User) = NoneMade
made_at_is s number c (Ok UserSession) = NoneMade

pub made_for_is :
    (s : State) (number : ℕ) (c : Context) (id : ℤ) → IsMade s number c (key_id_of id) (made_for s number c id)
unfolding made_for
made_for_is s number c id = made_at_is s number c (key_id_of id)

-- a thread keyring is made where the context has none
pub made_thread :
    (s : State) (number : ℕ) (c : Context) (id : ℤ) → key_id_of id ≡ Ok Thread → c.thread ≡ None
    → made_for s number c id ≡ (with_thread s number c, thread_to s.next_serial c)
unfolding made_for
made_thread s number c id is none = ap (made_at s number c) is ∙ ap (thread_made s number c) none

-- a process keyring is made where the process has none
pub made_process :
    (s : State) (number : ℕ) (c : Context) (id : ℤ) → key_id_of id ≡ Ok Process → process_ring s c.process ≡ None
    → made_for s number c id ≡ (with_process s c, c)
unfolding made_for
made_process s number c id is none = ap (made_at s number c) is ∙ ap (process_made s c) none

-- what an id stands for it stands for when another keyring is made
with_thread_stands :
    (s : State) (number : ℕ) (c : Context) (id : KeyId) (k : ℕ) → c.thread ≡ None → attachment s c id ≡ Some k
    → attachment (with_thread s number c) (thread_to s.next_serial c) id ≡ Some k
with_thread_stands s number c (Serial n) k none h = h
with_thread_stands s number c Thread k none h = absurd (none-some k (sym none ∙ h))
with_thread_stands s number c Process k none h = h
with_thread_stands s number c Session k none h = h
with_thread_stands s number c User k none h = h
with_thread_stands s number c UserSession k none h = h

with_process_stands :
    (s : State) (c : Context) (id : KeyId) (k : ℕ) → process_ring s c.process ≡ None → attachment s c id ≡ Some k
    → attachment (with_process s c) c id ≡ Some k
with_process_stands s c (Serial n) k none h = h
with_process_stands s c Thread k none h = h
with_process_stands s c Process k none h = absurd (none-some k (sym none ∙ h))
with_process_stands s c Session k none h = h
with_process_stands s c User k none h = h
with_process_stands s c UserSession k none h = h

there : (o : Option ℕ) (k : ℕ) → or_refuse ENOKEY o ≡ Ok k → o ≡ Some k
there None k h = cc
there (Some n) k h = cc

named_still :
    (s t : State) (c d : Context) (named : Result KeyId Errno) (k : ℕ)
    → ((id : KeyId) → attachment s c id ≡ Some k → attachment t d id ≡ Some k)
    → (named >>= (λ x. or_refuse ENOKEY (attachment s c x))) ≡ Ok k
    → (named >>= (λ x. or_refuse ENOKEY (attachment t d x))) ≡ Ok k
named_still s t c d (Err e) k stays h = h
named_still s t c d (Ok id) k stays h = ap (or_refuse ENOKEY) (stays id (there (attachment s c id) k h))

is_made_stands :
    (s : State) (number : ℕ) (c : Context) (id : ℤ) (ring : Result KeyId Errno) (made : State × Context) (k : ℕ)
    → IsMade s number c ring made → serial_of s c id ≡ Ok k → serial_of made.0 made.1 id ≡ Ok k
unfolding serial_of
is_made_stands s number c id ring _ k NoneMade h = h
is_made_stands s number c id ring _ k (ThreadMade is none) h =
    grind (arith, nat_tests, named_still, with_thread_stands)
is_made_stands s number c id ring _ k (ProcessMade is none) h =
    named_still s (with_process s c) c c (key_id_of id) k (λ named. with_process_stands s c named k none) h

pub made_still :
    (s : State) (number : ℕ) (c : Context) (ring id : ℤ) (k : ℕ) → serial_of s c id ≡ Ok k
    → serial_of (made_for s number c ring).0 (made_for s number c ring).1 id ≡ Ok k
made_still s number c ring id k h =
    is_made_stands s number c id (key_id_of ring) (made_for s number c ring) k (made_for_is s number c ring) h
