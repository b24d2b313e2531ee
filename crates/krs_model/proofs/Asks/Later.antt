-- What comes from a state by accepted asks of keys: serials rise, what is gone stays gone, and queues and watches
-- stay.
use Rattle.std.proofs.Common.{◌<◌, ◌≡◌, ◌≤◌, ap, arith, Bool, cond, Err, false, filter, IsSome, nat_cmp, None, Ok}
use Rattle.std.proofs.{Common.{Option, option_map, refl, Result, Some, true, ℕ}, lemmas.Bool.Decides.nat_tests}
use Rattle.std.specs.{BTreeMap.is_at, Cmp.unsigned_tied}
use Rattle.krs_types.specs.{declared.{ask.Answer.Answer, errno.Errno.Errno}, Refusing.◌>>=◌}
use Rattle.krs_model.specs.{Asks.Changing.changed, Making.{with_new, within_serials}, Outcome.Outcome}
use Rattle.krs_model.specs.{Queues.queues_of, State.{Key, State}, Sweep.IsSweep, Table.{alter, at, IsBelow}}
use Rattle.krs_model.proofs.{Sound.Changes.{there_alter, there_put}, Tables.Changes.{at_alter_none, at_alter_other}}
use Rattle.krs_model.proofs.Tables.Changes.{at_alter_same, at_filter_none, at_kept, at_or_apart, at_put_other}
use Rattle.krs_model.proofs.Tables.Changes.{below_filter, below_put}

-- no key is there, or a revoked one
abbrev pub is_gone : Option Key → Bool
is_gone None = true
is_gone (Some key) = key.revoked

-- what comes from a state: the next serial does not fall, the serials not given yet stay in no use, what is not there
-- under a given serial stays away, and what is gone there stays gone
pub record Follows (old new : State) : Type 0 where
  pub next : old.next_serial ≤ new.next_serial
  pub unused : IsBelow old.keys old.next_serial → IsBelow new.keys new.next_serial
  pub absent : (k : ℕ) → k < old.next_serial → at old.keys k ≡ None → at new.keys k ≡ None
  pub gone : (k : ℕ) → k < old.next_serial → is_gone (at old.keys k) ≡ true → is_gone (at new.keys k) ≡ true

-- the same keys, and the same next serial
pub same_follows : (old new : State) → new.keys ≡ old.keys → new.next_serial ≡ old.next_serial → Follows old new
same_follows old new keys next = grind (arith, nat_tests)

pub follows_trans : (a b c : State) → Follows a b → Follows b c → Follows a c
follows_trans a b c f g = grind (arith, nat_tests)

apart : (k n : ℕ) → k < n → is_at (nat_cmp k) n ≡ false
apart k n lt = grind (arith, nat_tests, unsigned_tied k n)

-- a new key under the next serial
pub with_new_follows : (s : State) (key : Key) → Follows s (with_new s key)
with_new_follows s key = grind (arith, nat_tests, below_put, at_put_other, apart)

stays_gone :
    (f : Key → Key) (o : Option Key) → ((v : Key) → v.revoked ≡ true → (f v).revoked ≡ true) → is_gone o ≡ true
    → is_gone (option_map f o) ≡ true
stays_gone f None stays h = refl
stays_gone f (Some v) stays h = stays v h

here_gone :
    (s : State) (serial k : ℕ) (f : Key → Key) → ((v : Key) → v.revoked ≡ true → (f v).revoked ≡ true) → k ≡ serial
    → is_gone (at s.keys k) ≡ true → is_gone (at (alter s.keys serial f) k) ≡ true
here_gone s serial k f stays e h = grind (arith, nat_tests, at_alter_same, stays_gone)

-- a change of one key that leaves it revoked where it was
pub changed_follows :
    (s : State) (serial : ℕ) (f : Key → Key) → ((v : Key) → v.revoked ≡ true → (f v).revoked ≡ true)
    → Follows s (changed s serial f)
changed_follows s serial f stays = grind (arith, nat_tests, at_alter_none, here_gone, at_alter_other, at_or_apart)

gone_or_none : (b : Bool) (o : Option Key) → is_gone o ≡ true → is_gone (cond b o None) ≡ true
gone_or_none true o h = h
gone_or_none false o h = refl

-- what is taken out by its serial is gone
pub filtered_follows : (s : State) (kept : ℕ → Bool) → Follows s (record s { keys = filter (λ e. kept e.0) s.keys })
filtered_follows s kept = grind (arith, nat_tests, below_filter, at_filter_none, at_kept, gone_or_none)

pub sweep_follows : (old new : State) → IsSweep old new → Follows old new
sweep_follows old new s =
    let less : State = record old { keys = filter (λ e. s.kept e.0) old.keys } in
    let next : new.next_serial ≡ old.next_serial = ap (λ (t : State). t.next_serial) s.rest in
    follows_trans old less new (filtered_follows old s.kept) (same_follows less new s.keys next)

-- what comes from a state by an ask of keys: its queues, watches and clock stay, and each of its keys is there
pub record Comes (old new : State) : Type 0 where
  pub follows : Follows old new
  pub queues : queues_of new ≡ queues_of old
  pub clock : new.clock ≡ old.clock
  pub there : (k : ℕ) → IsSome (at old.keys k) → IsSome (at new.keys k)

pub same_comes :
    (old new : State) → new.keys ≡ old.keys → new.next_serial ≡ old.next_serial → queues_of new ≡ queues_of old
    → new.clock ≡ old.clock → Comes old new
same_comes old new keys next queues clock = grind (arith, nat_tests, same_follows)

pub comes_trans : (a b c : State) → Comes a b → Comes b c → Comes a c
comes_trans a b c f g = grind (arith, nat_tests, follows_trans)

pub with_new_comes : (s : State) (key : Key) → Comes s (with_new s key)
with_new_comes s key = search (with_new_follows, there_put) depth 8

pub changed_comes :
    (s : State) (serial : ℕ) (f : Key → Key) → ((v : Key) → v.revoked ≡ true → (f v).revoked ≡ true)
    → Comes s (changed s serial f)
changed_comes s serial f stays = search (changed_follows, there_alter) depth 8

-- a result is one value
pub same_ok : {A : Type 0} (r : Result A Errno) (x y : A) → r ≡ Ok x → r ≡ Ok y → x ≡ y
same_ok r x y g h = cc

pub same_state : (r : Outcome) (s t : State) (a b : Answer) → r ≡ Ok (s, a) → r ≡ Ok (t, b) → s ≡ t
same_state r s t a b g h = ap (λ (x : State × Answer). x.0) (same_ok r (s, a) (t, b) g h)

-- what came before an accepted end was accepted
pub bind_ok :
    {A B : Type 0} (r : Result A Errno) (f : A → Result B Errno) (y : B) → (r >>= f) ≡ Ok y
    → (x : A) × (r ≡ Ok x) × (f x ≡ Ok y)
bind_ok (Ok x) f y h = (x, refl, h)
bind_ok (Err e) f y h = cc

-- an accepted ask whose serials are left comes to what it comes to
pub within_ok : (old : State) (r : Outcome) (x : State × Answer) → within_serials old r ≡ Ok x → r ≡ Ok x
within_ok old (Err e) x h = cc
within_ok old (Ok y) x h = grind (arith, nat_tests)
