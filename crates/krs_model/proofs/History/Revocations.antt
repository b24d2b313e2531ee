-- A revoked key is not read again, as no key gets its serial.
use Rattle.std.proofs.Common.{⊎_elim, ◌<◌, ◌∙◌, ◌≡◌, ap, arith, Err, false, IsOk, Ok, option_map, refl, Result, Some}
use Rattle.std.proofs.{Common.{subst, sym, true, true≢false, ℕ, ℤ}, lemmas.Bool.{cases_lt, Decides.nat_tests}}
use Rattle.std.proofs.lemmas.Option.{none-some}
use Rattle.krs_types.specs.declared.ask.{Answer.{Answer, TheVariants.{Bytes, Nothing}}, Op.{Op, TheVariants.Read}}
use Rattle.krs_types.specs.declared.{ask.Op.TheVariants.Revoke, errno.Errno.Errno, event.Event.Event}
use Rattle.krs_types.specs.{declared.rights.Want.{Want, TheVariants.{Either, ToRead}}, Refusing.◌>>=◌, Rights.SETATTR}
use Rattle.krs_types.specs.Rights.{WRITE}
use Rattle.krs_model.specs.{Asks.{Changing.{changed, revoke, revoked}, Reading.{read, readable}}, Lookup.context_of}
use Rattle.krs_model.specs.{Lookup.look_up, Outcome.Outcome, Revocation.{IsOfKey, Names, StaysUnread}, State.Key}
use Rattle.krs_model.specs.{State.{raised, State}, Step.{Ends, Serves, Step}, Table.{at, IsBelow}}
use Rattle.krs_model.proofs.Asks.{Later.{bind_ok, Follows, is_gone, same_ok, same_state}, LaterByStep.legal_follows}
use Rattle.krs_model.proofs.{Asks.LaterByStep.{raised_follows, swept_follows}, Lookups.Laws.look_up_usable}
use Rattle.krs_model.proofs.{Lookups.Serials.found_serial, Tables.Changes.at_alter_same}
use Rattle.std.proofs.lemmas.Grind.{common_steps}

-- what an accepted ask has found that begins with a look-up: a key that was not revoked, at the serial that the id
-- names
pub record Finds {X : Type 0} (s : State) (client context : ℕ) (id : ℤ) (f : (ℕ × Key) → Result X Errno) (x : X)
    : Type 0 where
  pub serial : ℕ
  pub key : Key
  pub names : Names s client context id serial
  pub there : at s.keys serial ≡ Some key
  pub live : key.revoked ≡ false
  pub then : f (serial, key) ≡ Ok x

pub accepted_finds :
    {X : Type 0} (s : State) (client context : ℕ) (id : ℤ) (want : Want) (f : (ℕ × Key) → Result X Errno) (x : X)
    → (context_of s client context >>= (λ c. look_up s c id want >>= f)) ≡ Ok x → Finds s client context id f x
accepted_finds s client context id want f x h =
    let own = bind_ok (context_of s client context) (λ c. look_up s c id want >>= f) x h in
    let found = bind_ok (look_up s own.0 id want) f x own.2 in
    let usable = look_up_usable s own.0 id want found.0 found.1 in
    search found_serial depth 8

-- an id names one serial
pub one_named :
    (s : State) (client context : ℕ) (id : ℤ) (a b : ℕ) → Names s client context id a → Names s client context id b
    → a ≡ b
one_named s client context id a b n m = search same_ok depth 8

-- the key at a serial that was given is gone
pub record IsSpent (s : State) (serial : ℕ) : Type 0 where
  pub given : serial < s.next_serial
  pub gone : is_gone (at s.keys serial) ≡ true

pub spent_follows : (old new : State) (serial : ℕ) → Follows old new → IsSpent old serial → IsSpent new serial
spent_follows old new serial follows spent = grind (arith, nat_tests)

-- a key has a serial that was given
pub given_serial :
    (s : State) (serial : ℕ) (key : Key) → IsBelow s.keys s.next_serial → at s.keys serial ≡ Some key
    → serial < s.next_serial
given_serial s serial key below there = grind (arith, common_steps, ⊎_elim, none-some, cases_lt)

abbrev if_revoked : State → (ℕ × Key) → Outcome
if_revoked s found = Ok (changed s found.0 revoked, Nothing)

abbrev if_read : State → (ℕ × Key) → Outcome
if_read s found = readable found.1.kind found.1.content >>= (λ bytes. Ok (s, Bytes bytes))

-- what an accepted REVOKE has found
revoke_finds :
    (s new : State) (client context : ℕ) (id : ℤ) (answer : Answer) → revoke s client context id ≡ Ok (new, answer)
    → Finds s client context id (if_revoked s) (new, answer)
unfolding revoke
revoke_finds s new client context id answer h =
    accepted_finds s client context id (Either WRITE SETATTR) (if_revoked s) (new, answer) h

-- what an accepted READ has found
read_finds :
    (s new : State) (client context : ℕ) (id : ℤ) (answer : Answer) → read s client context id ≡ Ok (new, answer)
    → Finds s client context id (if_read s) (new, answer)
unfolding read
read_finds s new client context id answer h =
    accepted_finds s client context id ToRead (if_read s) (new, answer) h

-- the key is spent that an accepted REVOKE names
pub revoke_spends :
    (s new : State) (client context : ℕ) (id : ℤ) (answer : Answer) (serial : ℕ) → IsBelow s.keys s.next_serial
    → Names s client context id serial → revoke s client context id ≡ Ok (new, answer) → IsSpent new serial
revoke_spends s new client context id answer serial below names h =
    let found = revoke_finds s new client context id answer h in
    let k = found.serial in
    let after = changed s k revoked in
    let same : after ≡ new = same_state (Ok (after, Nothing)) after new Nothing answer refl found.then in
    let spent : IsSpent after k = record {
      given = given_serial s k found.key below found.there;
      gone = ap is_gone (at_alter_same s.keys k revoked ∙ ap (option_map revoked) found.there);
    } in
    let here : k ≡ serial = one_named s client context id k serial found.names names in
    subst (IsSpent new) here (subst (λ (t : State). IsSpent t k) same spent)

-- no key is spent that an accepted READ names
pub read_is_not_spent :
    (s new : State) (client context : ℕ) (id : ℤ) (answer : Answer) (serial : ℕ)
    → Names s client context id serial → read s client context id ≡ Ok (new, answer) → IsSpent s serial → ⊥
read_is_not_spent s new client context id answer serial names h spent =
    let found = read_finds s new client context id answer h in
    let here : serial ≡ found.serial = one_named s client context id serial found.serial names found.names in
    let gone = subst (IsSpent s) here spent in
    true≢false (sym gone.gone ∙ (ap is_gone found.there ∙ found.live))

accepted_end :
    (s new : State) (client context : ℕ) (op : Op) (reply : Result Answer Errno) → Ends s client context op reply new
    → IsOk reply → (answer : Answer) × Serves s client context op answer new
accepted_end s new client context op (Ok answer) ends h = (answer, ends)
accepted_end s new client context op (Err e) ends h = absurd (true≢false (sym h))

-- what an accepted ask came to
pub record Came (s new : State) (event : Event) (op : Op) : Type 0 where
  pub answer : Answer
  pub serves : Serves s event.lane event.ask.context op answer new

pub accepted_came :
    (old new : State) (event : Event) (op : Op) → Step old event new → event.ask.op ≡ op → IsOk event.reply
    → Came (raised old event.moment) new event op
unfolding Step
accepted_came old new event op step asked accepted = grind (arith, nat_tests, accepted_end)

-- a revoked key stays unread, where the serials not given yet are in no use
pub revoked_unread : (start : State) → IsBelow start.keys start.next_serial → StaysUnread start
revoked_unread start below before old legal revoking mid k step revokes later late legal_later reading end last reads =
    let unused = (legal_follows start before old legal).unused below in
    let up = raised old revoking.moment in
    let came = accepted_came old mid revoking (Revoke revokes.id) step revokes.asked revokes.accepted in
    let spends = revoke_spends up came.serves.mid revoking.lane revoking.ask.context revokes.id came.answer k in
    let spent = spends unused revokes.names came.serves.meant in
    let swept = spent_follows came.serves.mid mid k (swept_follows came.serves) spent in
    let top = raised late reading.moment in
    let spent_late = spent_follows mid late k (legal_follows mid later late legal_later) swept in
    let spent_top = spent_follows late top k (raised_follows late reading.moment) spent_late in
    let got = accepted_came late end reading (Read reads.id) last reads.asked reads.accepted in
    search read_is_not_spent depth 8

-- each accepted REVOKE is of a key
pub revoke_of_key : IsOfKey Revoke
revoke_of_key old new event id step asked accepted =
    let came = accepted_came old new event (Revoke id) step asked accepted in
    let up = raised old event.moment in
    let found = revoke_finds up came.serves.mid event.lane event.ask.context id came.answer came.serves.meant in
    (found.serial, record { id = id; asked = asked; accepted = accepted; names = found.names })

-- each accepted READ is of a key
pub read_of_key : IsOfKey Read
read_of_key old new event id step asked accepted =
    let came = accepted_came old new event (Read id) step asked accepted in
    let up = raised old event.moment in
    let found = read_finds up came.serves.mid event.lane event.ask.context id came.answer came.serves.meant in
    (found.serial, record { id = id; asked = asked; accepted = accepted; names = found.names })
