-- A refusal does not hang on a payload.
use Rattle.std.proofs.{Common.{[], ◌∷◌, ◌≡◌, arith, Err, List, Ok, refl, Result, ℕ, ℤ}, lemmas.Bool.Decides.nat_tests}
use Rattle.krs_types.specs.{declared.{ask.Answer.Answer, errno.Errno.Errno, kind.Kind.Kind}, Kind.paid}
use Rattle.krs_types.specs.Refusing.{◌>>=◌}
use Rattle.krs_model.specs.{Asks.{Adding.add, Changing.update}, Hiding.{blind, blind_content, blind_keys, Hiding}}
use Rattle.krs_model.specs.{State.{Content, Key, Links, Payload, State}, Table.Table}
use Rattle.krs_model.proofs.Hiding.Adding.{add_blind, IsHidden}

-- what hides nothing
abbrev bare : Hiding
bare n bytes = bytes

bare_content : (content : Content) → blind_content (λ bytes. bytes) content ≡ content
bare_content (Payload bytes) = refl
bare_content (Links serials) = refl

bare_keys : (es : Table Key) → blind_keys bare es ≡ es
bare_keys [] = refl
bare_keys (e ∷ es) = λ i. (e.0, record e.1 { content = bare_content e.1.content i }) ∷ bare_keys es i

bare_state : (s : State) → blind bare s ≡ s
bare_state s = λ i. record s { keys = bare_keys s.keys i }

-- an ADD is refused with any payload that the same types take
pub add_refused :
    (s : State) (client context : ℕ) (type_name desc payload other : List ℕ) (ring : ℤ) (e : Errno)
    → ((kind : Kind) → paid kind other ≡ paid kind payload)
    → add s client context type_name desc payload ring ≡ Err e → add s client context type_name desc other ring ≡ Err e
add_refused s client context type_name desc payload other ring e fits refused =
    let meant = add s client context type_name desc payload ring in
    let none : (done : State × Answer) → meant ≡ Ok done → IsHidden bare payload other done = λ done is.
    absurd (cc) in
    rw (← (bare_state s), add_blind bare s client context type_name desc payload other ring fits none, refused)

-- where each refusal of a step is one of another step, each refusal of what ends with the one is one with the other
refused_with :
    {A C : Type 0} (r : Result A Errno) (f g : A → Result C Errno) (e : Errno)
    → ((x : A) → f x ≡ Err e → g x ≡ Err e) → (r >>= f) ≡ Err e → (r >>= g) ≡ Err e
refused_with (Ok x) f g e each is = each x is
refused_with (Err d) f g e each is = is

-- an UPDATE is refused with any payload that the same types take
pub update_refused :
    (s : State) (client context : ℕ) (id : ℤ) (payload other : List ℕ) (e : Errno)
    → ((kind : Kind) → paid kind other ≡ paid kind payload)
    → update s client context id payload ≡ Err e → update s client context id other ≡ Err e
unfolding update
update_refused s client context id payload other e fits = grind (arith, nat_tests, refused_with)
