-- What an ask comes to meets a predicate of states, where it is accepted: test by test.
use Rattle.std.proofs.{Common.{◌≡◌, arith, Err, Ok, refl, Result}, lemmas.Bool.Decides.nat_tests}
use Rattle.krs_types.specs.{declared.{ask.Answer.Answer, errno.Errno.Errno}, Refusing.◌>>=◌}
use Rattle.krs_model.specs.{Making.within_serials, Outcome.Outcome, State.State}
use Rattle.krs_model.proofs.Asks.Later.{same_state, within_ok}

-- the state that it comes to meets this, where it is accepted
pub record Meets (P : State → Type 0) (meant : Outcome) : Type 0 where
  pub meets : (new : State) (answer : Answer) → meant ≡ Ok (new, answer) → P new

pub meets_ok : {P : State → Type 0} {new : State} {answer : Answer} → P new → Meets P (Ok (new, answer))
meets_ok {P} {new} {answer} h = grind (arith, nat_tests, same_state)

-- after a test that may refuse
pub meets_after :
    {P : State → Type 0} {A : Type 0} (r : Result A Errno) (f : A → Outcome)
    → ((x : A) → r ≡ Ok x → Meets P (f x)) → Meets P (r >>= f)
meets_after (Ok x) f h = h x refl
meets_after (Err e) f h = record { meets = λ t a no. cc }

-- of a step of several, test by test
pub meets_nested :
    {P : State → Type 0} {A B : Type 0} (r : Result A Errno) (f : A → Result B Errno) (k : B → Outcome)
    → Meets P (r >>= (λ x. f x >>= k)) → Meets P ((r >>= f) >>= k)
meets_nested (Ok x) f k h = h
meets_nested (Err e) f k h = h

pub meets_within :
    {P : State → Type 0} (old : State) (r : Outcome) → Meets P r → Meets P (within_serials old r)
meets_within old r h = record { meets = λ t a e. h.meets t a (within_ok old r (t, a) e) }
