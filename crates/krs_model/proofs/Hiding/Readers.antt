-- Who may read a key: what an accepted READ has found.
use Rattle.std.proofs.Common.{◌&&◌, ◌||◌, ◌≡◌, ◌≢◌, ◌⊎◌, arith, Bool, false, inl, inr, List, Ok, refl, subst, true, ℕ}
use Rattle.std.proofs.{Common.ℤ, lemmas.Bool.Decides.nat_tests}
use Rattle.krs_types.specs.declared.ask.{Answer.{Answer, TheVariants.Bytes}, Op.TheVariants.Read}
use Rattle.krs_types.specs.declared.{context.Context.Context, kind.Told.{Told, TheVariants.{ItsLinks, ItsPayload}}}
use Rattle.krs_types.specs.{declared.{kind.Told.TheVariants.Never, rights.Want.TheVariants.ToRead}, Refusing.◌>>=◌}
use Rattle.krs_model.specs.{Access.rights_on, Asks.Reading.{read, readable, told_as}, Lookup.{context_of, look_up}}
use Rattle.krs_model.specs.{Lookup.serial_of, Outcome.Outcome, Possession.possessed, Revocation.Names}
use Rattle.krs_model.specs.{Secrecy.{MayBeRead, ReadsByRight}, State.{Content, Key, State}}
use Rattle.krs_model.proofs.{Asks.Later.{bind_ok, same_ok}, History.Revocations.accepted_came}
use Rattle.krs_model.proofs.Lookups.{Laws.look_up_usable, Serials.found_serial}

tells : (told : Told) (content : Content) (bytes : List ℕ) → told_as told content ≡ Ok bytes → told ≢ Never
tells ItsPayload content bytes h = λ is. absurd (cc)
tells ItsLinks content bytes h = λ is. absurd (cc)
tells Never content bytes h = λ is. absurd (cc)

either_right : (a b c : Bool) → (a || (b && c)) ≡ true → (a ≡ true) ⊎ ((b ≡ true) × (c ≡ true))
either_right true b c h = inl refl
either_right false true true h = inr (refl, refl)
either_right false true false h = absurd (cc)
either_right false false c h = absurd (cc)

-- what an accepted READ names may be read
pub may_be_read :
    (s new : State) (client context : ℕ) (id : ℤ) (answer : Answer) (serial : ℕ)
    → (names : Names s client context id serial) → read s client context id ≡ Ok (new, answer)
    → MayBeRead s names.whose serial
unfolding read
may_be_read s new client context id answer serial names h =
    let if_read : ℕ × Key → Outcome =
    λ found. readable found.1.kind found.1.content >>= (λ bytes. Ok (s, Bytes bytes)) in
    let own = bind_ok (context_of s client context) (λ c. look_up s c id ToRead >>= if_read) (new, answer) h in
    let c = names.whose in
    let same : own.0 ≡ c = same_ok (context_of s client context) own.0 c own.1 names.own in
    let look : (look_up s c id ToRead >>= if_read) ≡ Ok (new, answer) =
    subst (λ (whose : Context). (look_up s whose id ToRead >>= if_read) ≡ Ok (new, answer)) same own.2 in
    let found = bind_ok (look_up s c id ToRead) if_read (new, answer) look in
    let n = found.0.0 in
    let key = found.0.1 in
    let told = bind_ok (readable key.kind key.content) (λ bytes. Ok (s, Bytes bytes)) (new, answer) found.2 in
    let usable = look_up_usable s c id ToRead found.0 found.1 in
    let mine = possessed s c n in
    let rights = rights_on key c.caller mine in
    let here : n ≡ serial =
    same_ok (serial_of s c id) n serial (found_serial s c id ToRead found.0 found.1) names.named in
    grind (arith, nat_tests, tells, either_right)

pub reads_by_right : (start : State) → ReadsByRight start
reads_by_right start before old legal reading end serial step reads =
    let came = accepted_came old end reading (Read reads.id) step reads.asked reads.accepted in
    search may_be_read depth 8
