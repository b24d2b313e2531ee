-- Where the rule lets a process come into a session, the law does.
use Rattle.std.proofs.Common.{◌&&◌, ◌==◌, ◌||◌, ◌∙◌, ◌≡◌, ◌≢◌, ◌⊎◌, arith, Bool, cond, eq-eqb, eqb-true, false, inl}
use Rattle.std.proofs.Common.{inr, nat_lt, not, refl, subst, sym, true, ℕ}
use Rattle.krs_admission.specs.Law.{BeginsForOthers, ComesLawfully, HasJoined, Is, IsLawful, IsOpen, IsShared}
use Rattle.krs_admission.specs.Law.{IsStillIts, MayHave}
use Rattle.krs_admission.specs.Rule.{are_all, begins_alone, has_tag_of, is_of, is_one, is_open, is_shared, is_tag}
use Rattle.krs_admission.specs.Rule.{is_told, knows_again, may_be_given, may_enter, may_have, no_uid, number_of}
use Rattle.krs_admission.specs.Rule.{is_in_joined, place_above, place_found, place_of, place_tagged, stays}
use Rattle.krs_admission.specs.declared.admitting.Place.{Place, TheVariants.{Above, Held, Joined, Lost}}
use Rattle.krs_admission.specs.declared.admitting.Place.TheVariants.{Tagged, UserSession}
use Rattle.krs_admission.specs.declared.facts.Arrival.{Arrival}
use Rattle.krs_admission.specs.declared.{facts.{Ids.Ids, Process.Process, Session.Session}, giving.Parent.Parent}

or_true : (a b : Bool) → (a || b) ≡ true → (a ≡ true) ⊎ (b ≡ true)
or_true true b e = inl refl
or_true false b e = inr e

both_true : (a b : Bool) → (a && b) ≡ true → (a ≡ true) × (b ≡ true)
both_true true b e = (refl, e)
both_true false b e = absurd cc

left_true : (a b : Bool) → (a && b) ≡ true → a ≡ true
left_true true b e = refl
left_true false b e = absurd cc

not_true : (a : Bool) → not a ≡ true → a ≡ false
not_true true e = absurd cc
not_true false e = refl

not_false : (a : Bool) → not a ≡ false → a ≡ true
not_false true e = refl
not_false false e = absurd cc

unequal : (m n : ℕ) → not (m == n) ≡ true → m ≢ n
unequal m n f h =
    let t : (m == n) ≡ true = eq-eqb m n h in
    let g : (m == n) ≡ false = not_true (m == n) f in absurd cc

told : (p : Process) (uid : ℕ) → is_told p uid ≡ true → (uid ≢ no_uid) × ((uid ≢ p.unknown) ⊎ (p.mapped ≡ no_uid))
told p uid e =
    let two = both_true (not (uid == no_uid)) (not (uid == p.unknown) || p.mapped == no_uid) e in (
      unequal uid no_uid two.0,
      elim (or_true (not (uid == p.unknown)) (p.mapped == no_uid) two.1) [
        | inl isnt ↦ inl (unequal uid p.unknown isnt)
        | inr all ↦ inr (eqb-true p.mapped no_uid all)
      ],
    )

started : (p : Process) (uid : ℕ) → (not p.is_secure || p.starter == uid) ≡ true
    → (p.is_secure ≡ false) ⊎ (p.starter ≡ uid)
started p uid e =
    elim (or_true (not p.is_secure) (p.starter == uid) e) [
      | inl isnt ↦ inl (not_true p.is_secure isnt)
      | inr same ↦ inr (eqb-true p.starter uid same)
    ]

of_uid : (p : Process) (uid : ℕ) → (are_all p.uids uid
    && (is_told p uid && (p.has_auxv && (not p.is_secure || p.starter == uid)))) ≡ true → Is p uid
of_uid p uid e =
    let ids = both_true (are_all p.uids uid) (is_told p uid && (p.has_auxv
    && (not p.is_secure || p.starter == uid))) e in
    let four = both_true (p.uids.real == uid) (p.uids.effective == uid
    && (p.uids.saved == uid && p.uids.files == uid)) ids.0 in
    let three = both_true (p.uids.effective == uid) (p.uids.saved == uid && p.uids.files == uid) four.1 in
    let two = both_true (p.uids.saved == uid) (p.uids.files == uid) three.1 in
    let rest = both_true (is_told p uid) (p.has_auxv && (not p.is_secure || p.starter == uid)) ids.1 in
    let last = both_true p.has_auxv (not p.is_secure || p.starter == uid) rest.1 in
    record {
      real = eqb-true p.uids.real uid four.0;
      effective = eqb-true p.uids.effective uid three.0;
      saved = eqb-true p.uids.saved uid two.0;
      files = eqb-true p.uids.files uid two.1;
      one = told p uid rest.0;
      program = (last.0, started p uid last.1);
    }

one_user : (p : Process) → is_one p ≡ true → Is p p.uids.real
one_user p e = of_uid p p.uids.real e

not_started : (p : Process) (uid : ℕ) → (not p.is_secure || (is_told p p.starter && not (p.starter == uid))) ≡ true
    → (p.is_secure ≡ false) ⊎ (p.starter ≢ uid)
not_started p uid e =
    elim (or_true (not p.is_secure) (is_told p p.starter && not (p.starter == uid)) e) [
      | inl isnt ↦ inl (not_true p.is_secure isnt)
      | inr others ↦ let two = both_true (is_told p p.starter) (not (p.starter == uid)) others in
          inr (unequal p.starter uid two.1)
    ]

traced : (p : Process) (uid : ℕ) → is_open p uid ≡ true → IsOpen p uid
traced p uid e =
    let two = both_true (p.owner == p.uids.effective) (p.has_auxv
    && (not p.is_secure || (is_told p p.starter && not (p.starter == uid)))) e in
    let last = both_true p.has_auxv (not p.is_secure || (is_told p p.starter && not (p.starter == uid))) two.1 in
    record {
      dumpable = eqb-true p.owner p.uids.effective two.0;
      read = last.0;
      program = not_started p uid last.1;
    }

shared_by : (s : Session) (uid : ℕ) → (is_open s.begun uid && (not s.has_beginner || is_open s.beginner uid)) ≡ true
    → IsOpen s.begun uid × ((s.has_beginner ≡ false) ⊎ IsOpen s.beginner uid)
shared_by s uid e =
    let two = both_true (is_open s.begun uid) (not s.has_beginner || is_open s.beginner uid) e in (
      traced s.begun uid two.0,
      elim (or_true (not s.has_beginner) (is_open s.beginner uid) two.1) [
        | inl isnt ↦ inl (not_true s.has_beginner isnt)
        | inr now ↦ inr (traced s.beginner uid now)
      ],
    )

shared : (s : Session) → is_shared s ≡ true → IsShared s
shared s e = shared_by s s.begun.uids.real e

pub had : (p : Process) (s : Session) → may_have p s ≡ true → MayHave p s
had p s e =
    let two = both_true (is_one p) (is_of p s && s.is_there) e in
    let last = both_true (is_of p s) s.is_there two.1 in
    let same : s.begun.uids.real ≡ p.uids.real = eqb-true s.begun.uids.real p.uids.real last.0 in
    (subst (λ uid. Is p uid) (sym same) (one_user p two.0), last.1)

pub entered : (p : Process) (s : Session) → may_enter p s ≡ true → MayHave p s × IsShared s
entered p s e = let two = both_true (may_have p s) (is_shared s) e in (had p s two.0, shared s two.1)

pub known_again : (a : Arrival) → knows_again a ≡ true → MayHave a.process a.held × IsShared a.held
known_again a e =
    let two = both_true a.has_held (has_tag_of a a.held && may_enter a.process a.held) e in
    let last = both_true (has_tag_of a a.held) (may_enter a.process a.held) two.1 in entered a.process a.held last.1

for_others_by : (traceable named secure read : Bool)
    → (not traceable && (not named || (secure || not read))) ≡ false
    → (traceable ≡ true) ⊎ ((named ≡ true) × (read ≡ true) × (secure ≡ false))
for_others_by true named secure read e = inl refl
for_others_by false false secure read e = absurd cc
for_others_by false true true read e = absurd cc
for_others_by false true false false e = absurd cc
for_others_by false true false true e = inr (refl, refl, refl)

pub for_others : (p : Process) (named : Bool) → begins_alone p named ≡ false → BeginsForOthers p named
for_others p named e =
    elim (for_others_by (is_told p p.uids.real && is_open p p.uids.real) named p.is_secure p.has_auxv e) [
      | inl both ↦ inl (traced p p.uids.real (both_true (is_told p p.uids.real) (is_open p p.uids.real) both).1)
      | inr called ↦ inr called
    ]

fifth_true : (a b c d e f : Bool) → (a && (b && (c && (d && (e && f))))) ≡ true → e ≡ true
fifth_true a b c d e f h =
    let one = both_true a (b && (c && (d && (e && f)))) h in
    let two = both_true b (c && (d && (e && f))) one.1 in
    let three = both_true c (d && (e && f)) two.1 in
    let four = both_true d (e && f) three.1 in left_true e f four.1

pub given : (p : Parent) (uids gids : Ids) (s : Session) → may_be_given p uids gids s ≡ true → MayHave p.process s
given p uids gids s e =
    had p.process s (fifth_true (nat_lt 1 p.number) (not (p.number == p.supervisor)) (p.threads == 1) (p.seccomp == 2)
    (may_have p.process s) (p.process.uids.real == uids.effective && (are_all p.gids gids.effective
    && (not p.has_held || is_of p.process p.held))) e)

chosen_above : (a : Arrival) (its may limit : Bool) → Is a.process a.process.uids.real
    → (a.has_above && is_of a.process a.above) ≡ its → may_enter a.process a.above ≡ may
    → (a.has_limit && a.knows_above) ≡ limit
    → IsLawful a (cond its (cond may Above Lost) (cond limit UserSession Lost))
chosen_above a true true limit u i m l =
    let two = entered a.process a.above m in (left_true a.has_above (is_of a.process a.above) i, two.0, two.1)
chosen_above a true false limit u i m l = tt
chosen_above a false may true u i m l =
    let two = both_true a.has_limit a.knows_above l in (u, two.0, two.1)
chosen_above a false may false u i m l = tt

lawful_above : (a : Arrival) → Is a.process a.process.uids.real → IsLawful a (place_above a)
unfolding place_above
lawful_above a u =
    chosen_above a (a.has_above && is_of a.process a.above) (may_enter a.process a.above)
    (a.has_limit && a.knows_above) u refl refl refl

has_the_tag : (a : Arrival) → not (a.has_tagged && has_tag_of a a.tagged) ≡ false → a.tagged.tag ≡ a.soft
has_the_tag a e =
    let one = both_true a.has_tagged (has_tag_of a a.tagged) (not_false (a.has_tagged && has_tag_of a a.tagged) e) in
    let two = both_true a.has_limit (is_tag a.soft && a.tagged.tag == a.soft) one.1 in
    let last = both_true (is_tag a.soft) (a.tagged.tag == a.soft) two.1 in eqb-true a.tagged.tag a.soft last.1

chosen_tagged : (a : Arrival) (ended its may : Bool) → Is a.process a.process.uids.real
    → not (a.has_tagged && has_tag_of a a.tagged) ≡ ended → may_enter a.process a.tagged ≡ may
    → IsLawful a (cond ended Lost (cond its (cond may Tagged Lost) (place_above a)))
chosen_tagged a true its may u t m = tt
chosen_tagged a false true true u t m =
    let two = entered a.process a.tagged m in (has_the_tag a t, two.0, two.1)
chosen_tagged a false true false u t m = tt
chosen_tagged a false false may u t m = lawful_above a u

lawful_tagged : (a : Arrival) → Is a.process a.process.uids.real → IsLawful a (place_tagged a)
unfolding place_tagged
lawful_tagged a u =
    chosen_tagged a (not (a.has_tagged && has_tag_of a a.tagged)) (is_of a.process a.tagged)
    (may_enter a.process a.tagged) u refl refl

chosen : (a : Arrival) (several its may has : Bool) → not (is_one a.process) ≡ several
    → (a.has_held && is_of a.process a.held) ≡ its → may_have a.process a.held ≡ may
    → IsLawful a (cond several Lost (cond its (cond may Held Lost) (cond has (place_tagged a) (place_above a))))
chosen a true its may has o i m = tt
chosen a false true true has o i m =
    (left_true a.has_held (is_of a.process a.held) i, had a.process a.held m)
chosen a false true false has o i m = tt
chosen a false false may true o i m = lawful_tagged a (one_user a.process (not_false (is_one a.process) o))
chosen a false false may false o i m = lawful_above a (one_user a.process (not_false (is_one a.process) o))

lawful_found : (a : Arrival) → IsLawful a (place_found a)
unfolding place_found
lawful_found a =
    chosen a (not (is_one a.process)) (a.has_held && is_of a.process a.held) (may_have a.process a.held)
    (a.has_limit && is_tag a.soft) refl refl refl

pub still_its : (p : Process) (uid : ℕ) (revokes : Bool) → stays p uid revokes ≡ true → IsStillIts p uid revokes
still_its p uid revokes e =
    elim (or_true (p.uids.real == uid) (revokes && p.uids.files == uid) e) [
      | inl same ↦ inl (eqb-true p.uids.real uid same)
      | inr may ↦ let two = both_true revokes (p.uids.files == uid) may in
          inr (two.0, eqb-true p.uids.files uid two.1)
    ]

in_joined : (a : Arrival) → is_in_joined a ≡ true → HasJoined a
in_joined a e =
    let one = both_true a.has_joined (a.has_held && (a.held.is_there && (a.held.begun.uids.real == a.uid
    && stays a.process a.uid a.revokes))) e in
    let two = both_true a.has_held (a.held.is_there && (a.held.begun.uids.real == a.uid
    && stays a.process a.uid a.revokes)) one.1 in
    let three = both_true a.held.is_there (a.held.begun.uids.real == a.uid && stays a.process a.uid a.revokes) two.1 in
    let four = both_true (a.held.begun.uids.real == a.uid) (stays a.process a.uid a.revokes) three.1 in
    record {
      joined = one.0;
      held = two.0;
      there = three.0;
      user = eqb-true a.held.begun.uids.real a.uid four.0;
      still = still_its a.process a.uid a.revokes four.1;
    }

joined_or_found : (a : Arrival) (is_in : Bool) → is_in_joined a ≡ is_in → IsLawful a (cond is_in Joined (place_found a))
joined_or_found a true e = in_joined a e
joined_or_found a false e = lawful_found a

pub lawful : (a : Arrival) → IsLawful a (place_of a)
unfolding place_of
lawful a = joined_or_found a (is_in_joined a) refl

same_place : (p q : Place) → number_of p ≡ number_of q → p ≡ q
same_place Lost Lost e = refl
same_place UserSession UserSession e = refl
same_place Held Held e = refl
same_place Tagged Tagged e = refl
same_place Above Above e = refl
same_place Lost UserSession e = absurd (omega (arith, e))
same_place Lost Held e = absurd (omega (arith, e))
same_place Lost Tagged e = absurd (omega (arith, e))
same_place Lost Above e = absurd (omega (arith, e))
same_place UserSession Lost e = absurd (omega (arith, e))
same_place UserSession Held e = absurd (omega (arith, e))
same_place UserSession Tagged e = absurd (omega (arith, e))
same_place UserSession Above e = absurd (omega (arith, e))
same_place Held Lost e = absurd (omega (arith, e))
same_place Held UserSession e = absurd (omega (arith, e))
same_place Held Tagged e = absurd (omega (arith, e))
same_place Held Above e = absurd (omega (arith, e))
same_place Tagged Lost e = absurd (omega (arith, e))
same_place Tagged UserSession e = absurd (omega (arith, e))
same_place Tagged Held e = absurd (omega (arith, e))
same_place Tagged Above e = absurd (omega (arith, e))
same_place Above Lost e = absurd (omega (arith, e))
same_place Above UserSession e = absurd (omega (arith, e))
same_place Above Held e = absurd (omega (arith, e))
same_place Above Tagged e = absurd (omega (arith, e))
same_place Joined Joined e = refl
same_place Joined Lost e = absurd (omega (arith, e))
same_place Lost Joined e = absurd (omega (arith, e))
same_place Joined UserSession e = absurd (omega (arith, e))
same_place UserSession Joined e = absurd (omega (arith, e))
same_place Joined Held e = absurd (omega (arith, e))
same_place Held Joined e = absurd (omega (arith, e))
same_place Joined Tagged e = absurd (omega (arith, e))
same_place Tagged Joined e = absurd (omega (arith, e))
same_place Joined Above e = absurd (omega (arith, e))
same_place Above Joined e = absurd (omega (arith, e))

pub lawful_number : (a : Arrival) (number : ℕ) → number ≡ number_of (place_of a) → ComesLawfully a number
lawful_number a number e =
    λ p f. subst (λ q. IsLawful a q) (same_place (place_of a) p (sym e ∙ f)) (lawful a)
