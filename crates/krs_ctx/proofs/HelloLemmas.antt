-- HELLO of a store, from what its contexts answer: for whoever makes the keyrings of a uid.
use Rattle.std.proofs.Common.{◌&&◌, ◌+◌, ◌<◌, ◌||◌, ◌∙◌, ◌≡◌, ◌≤◌, ap, arith, Bool, Err, false, if◌then◌else◌, is_none}
use Rattle.std.proofs.Common.{IsErrAnd, IsOk, nat_le, nat_lt, None, Ok, Option, refl, Result, Some, sym, true, ℕ}
use Rattle.std.proofs.lemmas.Bool.Decides.{nat_tests}
use Rattle.krs_types.specs.Caller.{caller_check}
use Rattle.krs_types.specs.{Refusing.◌>>=◌, declared.{ask.Answer.{Answer, TheVariants.Number}, caller.Caller.Caller}}
use Rattle.krs_types.specs.declared.{context.UidRings.UidRings, errno.Errno.{Errno, TheVariants.{EINVAL, ENOSPC}}}
use Rattle.krs_types.specs.declared.fault.Fault.{Fault, TheVariants.{Memory, Refused}}
use Rattle.krs_model.specs.Asks.Hello.{hello, with_context, with_uid}
use Rattle.krs_model.specs.{Outcome.Leads, State.{starting_at, State}, Table.at}
use Rattle.krs_ctx.specs.{Anchors.{anchored, Anchors}, Told.{enterable, Enters, greeted, opened, Opens}}
use Rattle.krs_ctx.proofs.LeadsLemmas.{leads_memory, leads_refused}
use Rattle.std.proofs.lemmas.Grind.{common_steps}

chained : (a b : Result (Unit {0}) Errno) (x : State × Answer)
    → (a >>= (λ room. b >>= (λ left. Ok x))) ≡ ((a >>= (λ room. b)) >>= (λ room. Ok x))
chained (Ok t) b x = refl
chained (Err e) b x = refl

refused_later : (a b : Result (Unit {0}) Errno) (x : State × Answer) → (a >>= (λ room. b)) ≡ Ok (tt {0})
    → (a >>= (λ room. ◌>>=◌ {A = Unit {0}} (Err ENOSPC) (λ left. Ok x))) ≡ Err ENOSPC
refused_later (Ok t) b x h = refl
refused_later (Err e) b x h = absurd cc

refused_first : (a b d : Bool) (x : State × Answer) (e : Errno)
    → ((if a then Err EINVAL else Ok (tt {0})) >>= (λ room. if b then Err ENOSPC else Ok (tt {0}))) ≡ Err e
    → ((if a then Err EINVAL else Ok (tt {0})) >>=
    (λ room. (if b || d then Err ENOSPC else Ok (tt {0})) >>= (λ left. Ok x))) ≡ Err e
refused_first true b d x e h = cc
refused_first false true d x e h = cc
refused_first false false d x e h = absurd cc

-- numbers are left where the uid has its keyrings, or where serials are left for them
or_false : (b : Bool) → (b || false) ≡ b
or_false true = refl
or_false false = refl

or_true_right : (b : Bool) → (b || true) ≡ true
or_true_right true = refl
or_true_right false = refl

few : (n : ℕ) → n ≤ 2147483646 → nat_lt 2147483646 n ≡ false
few n h = grind (arith, nat_tests)

many : (n : ℕ) → 2147483646 < n → nat_lt 2147483646 n ≡ true
many n h = grind (arith, nat_tests)

-- HELLO of a uid that has its keyrings
pub hello_known : (s : State) (client : ℕ) (c : Caller) (rings : UidRings) → caller_check c ≡ Ok (tt {0})
    → at s.uids c.uid ≡ Some rings → hello s client c ≡ greeted s client c None
unfolding hello
hello_known s client c rings known has = grind (arith, common_steps, or_false, nat_lt, chained)

-- HELLO of a uid that has none, where serials are left for them
pub hello_unknown : (s : State) (client : ℕ) (c : Caller) → caller_check c ≡ Ok (tt {0}) → at s.uids c.uid ≡ None
    → s.next_serial ≤ 2147483646
    → hello s client
    c ≡ (enterable s client >>=
    (λ room. Ok (with_context (with_uid s c None) client c (Some (s.next_serial + 1)), Number s.next_context)))
unfolding hello
hello_unknown s client c known none left = grind (arith, common_steps, few, or_false, nat_lt, chained)

-- HELLO of a uid that has none, where no serials are left for them
pub hello_serials : (s : State) (client : ℕ) (c : Caller) → caller_check c ≡ Ok (tt {0}) → at s.uids c.uid ≡ None
    → 2147483646 < s.next_serial → enterable s client ≡ Ok (tt {0}) → hello s client c ≡ Err ENOSPC
unfolding hello
hello_serials s client c known none gone room = grind (arith, common_steps, many, or_true_right, nat_lt, refused_later)

-- HELLO where the client has no room, or no number is left
pub hello_full : (s : State) (client : ℕ) (c : Caller) (e : Errno) → caller_check c ≡ Ok (tt {0})
    → enterable s client ≡ Err e → hello s client c ≡ Err e
unfolding hello
hello_full s client c e known full = grind (arith, common_steps, refused_first, nat_le, nat_lt, is_none)

accepted_all : (a b d : Bool) (x : State × Answer)
    → ((if a then Err EINVAL else Ok (tt {0})) >>= (λ room. if b then Err ENOSPC else Ok (tt {0}))) ≡ Ok (tt {0})
    → d ≡ false
    → IsOk ((if a then Err EINVAL else Ok (tt {0})) >>=
    (λ room. (if b || d then Err ENOSPC else Ok (tt {0})) >>= (λ left. Ok x)))
accepted_all true b d x h few = absurd cc
accepted_all false true d x h few = absurd cc
accepted_all false false d x h few = rw few refl

-- serials are left for the keyrings of a uid, where it has none
abbrev pub HasSerials : State → Caller → Type 0
HasSerials s c = (is_none (at s.uids c.uid) && nat_lt 2147483646 s.next_serial) ≡ false

-- HELLO where the client has room, and numbers are left
pub hello_open : (s : State) (client : ℕ) (c : Caller) → caller_check c ≡ Ok (tt {0})
    → enterable s client ≡ Ok (tt {0}) → HasSerials s c → IsOk (hello s client c)
unfolding hello
hello_open s client c known room few = grind (arith, common_steps, accepted_all, nat_le, nat_lt, is_none, few)

-- a uid that has its keyrings needs no serials
pub no_serials : (s : State) (c : Caller) (rings : UidRings) → at s.uids c.uid ≡ Some rings → HasSerials s c
no_serials s c rings has = rw has refl

-- a uid that has none needs two
pub two_serials : (s : State) (c : Caller) → at s.uids c.uid ≡ None → s.next_serial ≤ 2147483646 → HasSerials s c
two_serials s c none left = rw (none, few s.next_serial left) refl

ok_same : (x y : State × Answer) → ◌≡◌ {A = Result (State × Answer) Errno} (Ok x) (Ok y) → x ≡ y
ok_same x y h = cc

err_same : (e f : Errno) → ◌≡◌ {A = Result (State × Answer) Errno} (Err e) (Err f) → e ≡ f
err_same e f h = cc

accepted_same : (r : Result (Unit {0}) Errno) (x y : State × Answer) → (r >>= (λ room. Ok x)) ≡ Ok y → x ≡ y
accepted_same (Ok t) x y h = ok_same x y h
accepted_same (Err e) x y h = absurd cc

number_same : (a b : State) (n m : ℕ) → ◌≡◌ {A = State × Answer} (a, Number n) (b, Number m) → n ≡ m
number_same a b n m h = let same : Number n ≡ Number m = ap (λ (x : State × Answer). x.1) h in cc

-- an accepted HELLO opens a context
pub greeted_opens : (old new : Anchors) (client : ℕ) (c : Caller) (made : Option UidRings) (n : ℕ)
    → ((s : State) → greeted (anchored s old) client c made ≡ Ok (anchored s new, Number n))
    → Opens old new client c made
greeted_opens old new client c made n accepted = λ s.
    sym (ap (λ (x : State × Answer). x.0)
    (accepted_same (enterable (anchored s old) client)
    (opened (anchored s old) client c made, Number old.next_context) (anchored s new, Number n) (accepted s)))

pub greeted_number : (old new : Anchors) (client : ℕ) (c : Caller) (made : Option UidRings) (n : ℕ)
    → ((s : State) → greeted (anchored s old) client c made ≡ Ok (anchored s new, Number n)) → n ≡ old.next_context
greeted_number old new client c made n accepted =
    let s = starting_at 3 in
    sym (number_same (opened (anchored s old) client c made) (anchored s new) old.next_context n
    (accepted_same (enterable (anchored s old) client)
    (opened (anchored s old) client c made, Number old.next_context) (anchored s new, Number n) (accepted s)))

-- a uid's first context, and its keyrings made under the next serials, are what HELLO comes to
pub first_opened : (s : State) (old new : Anchors) (client : ℕ) (c : Caller)
    → Opens old new client c (Some (record { user = Some s.next_serial; session = Some (s.next_serial + 1) }))
    → anchored (with_uid (anchored s old) c None) new ≡ with_context (with_uid (anchored s old) c None) client c
    (Some (s.next_serial + 1))
first_opened s old new client c opens = opens (with_uid (anchored s old) c None)

left_accepted : (r : Result (Unit {0}) Errno) (x y : State × Answer) → (r >>= (λ room. Ok x)) ≡ Ok y → r ≡ Ok (tt {0})
left_accepted (Ok t) x y h = refl
left_accepted (Err e) x y h = absurd cc

left_refused : (r : Result (Unit {0}) Errno) (x : State × Answer) (e : Errno) → (r >>= (λ room. Ok x)) ≡ Err e
    → r ≡ Err e
left_refused (Ok t) x e h = absurd cc
left_refused (Err f) x e h = let same : f ≡ e = err_same f e h in ap Err same

-- a fault of the contexts is one of HELLO
pub hello_fails :
    (s : State) (old new : Anchors) (client : ℕ) (c : Caller) (made : Option UidRings) (r : Result Answer Fault)
    (x : Fault) → caller_check c ≡ Ok (tt {0}) → IsOk (hello (anchored s old) client c) → IsErrAnd r (λ f. f ≡ x)
    → Enters old (Err x) new (λ q. greeted q client c made)
    → Leads (anchored s old) r (anchored s new) (hello (anchored s old) client c)
hello_fails s old new client c made r Memory known accepted is enters = grind (arith, common_steps, leads_memory)
hello_fails s old new client c made r (Refused e) known accepted is enters =
    leads_refused s old new r e (λ q. hello q client c) is
    (λ q. hello_full (anchored q old) client c e known
    (left_refused (enterable (anchored q old) client)
    (opened (anchored q old) client c made, Number old.next_context) e (enters.0 q)))
    enters.1

-- a uid's first context was opened, and its keyrings come under the next serials
pub hello_done : (s : State) (old mid : Anchors) (client : ℕ) (c : Caller) (n : ℕ) → caller_check c ≡ Ok (tt {0})
    → at old.uids c.uid ≡ None → s.next_serial ≤ 2147483646
    → ((q : State)
    → greeted (anchored q old) client c
    (Some (record { user = Some s.next_serial; session = Some (s.next_serial + 1) })) ≡ Ok
    (anchored q mid, Number n))
    → hello (anchored s old) client c ≡ Ok (anchored (with_uid (anchored s old) c None) mid, Number n)
hello_done s old mid client c n known none serials accepted =
    let rings : Option UidRings = Some (record { user = Some s.next_serial; session = Some (s.next_serial + 1) }) in
    let left = left_accepted (enterable (anchored s old) client)
    (opened (anchored s old) client c rings, Number old.next_context) (anchored s mid, Number n) (accepted s) in
    hello_unknown (anchored s old) client c known none serials
    ∙ rw (
      left,
      first_opened s old mid client c (greeted_opens old mid client c rings n accepted),
      greeted_number
          old mid client c rings n accepted,
    ) refl
