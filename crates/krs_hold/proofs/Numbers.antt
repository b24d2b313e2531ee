-- The numbers that a caller sees of the counts, as the counts change.
use Rattle.std.proofs.Common.{[], ◌∙◌, ◌∷◌, ◌≡◌, ap, cond, false, is_some, List, None, Option, refl, Some}
use Rattle.std.proofs.Common.{arith, sym, true, true≢false, ℕ}
use Rattle.krs_model.specs.Table.{alter, at, put, Table}
use Rattle.krs_model.proofs.Tables.Changes.{alter_map, put_map}
use Rattle.krs_hold.specs.Chain.{Chained, falls_at, gone, gone_all, holders_at, IsChained, lowered, numbers_of, raised}
use Rattle.krs_hold.specs.{Tally.{all_less, number_at, one_less, one_more, with_number}, declared.counts.Count.Count}
use Rattle.krs_hold.proofs.Chains.{gone_all_chained, gone_chained, held_chained, made_chained, raised_chained}
use Rattle.krs_hold.proofs.{Exact.{holders_lowered, is_some_shown, number_is}, Places.alter_put}
use Rattle.std.proofs.lemmas.Grind.{common_steps}

-- what a caller sees of one count
pub number_seen :
    (es : Table Count) (numbers : Table ℕ) (k n : ℕ) → n ≡ k → numbers_of es ≡ numbers
    → holders_at (at es n) ≡ number_at numbers k
number_seen es numbers k n same seen = grind (arith, common_steps, number_is)

-- one holder more
pub raised_number :
    (es fs : Table Count) (numbers : Table ℕ) (k n : ℕ) → n ≡ k → numbers_of es ≡ numbers → fs ≡ alter es n raised
    → numbers_of fs ≡ one_more k numbers
raised_number es fs numbers k n same seen e = grind (arith, common_steps, alter_map)

pub raised_chain :
    (es fs : Table Count) (first : Option ℕ) (n : ℕ) → fs ≡ alter es n raised → IsChained es first
    → IsChained fs first
raised_chain es fs first n e h = grind (arith, common_steps, raised_chained)

lowered_number :
    (es : Table Count) (first : Option ℕ) (k : ℕ)
    → numbers_of (alter es k (lowered first)) ≡ one_less k (numbers_of es)
lowered_number es first k = grind (arith, common_steps, alter_map, holders_lowered)

-- one less
pub gone_number :
    (es fs : Table Count) (first : Option ℕ) (numbers : Table ℕ) (k n : ℕ) → n ≡ k → numbers_of es ≡ numbers
    → fs ≡ alter es n (lowered first) → numbers_of fs ≡ one_less k numbers
gone_number es fs first numbers k n same seen e = grind (arith, common_steps, lowered_number)

pub gone_chain :
    (es fs : Table Count) (first next : Option ℕ) (n : ℕ) → fs ≡ alter es n (lowered first)
    → next ≡ cond (falls_at (at es n)) (Some n) first → IsChained es first → IsChained fs next
gone_chain es fs first next n e after h = grind (arith, common_steps, gone_chained)

all_less_on : (ks : List ℕ) (t : Chained) → numbers_of (gone_all t ks).counts ≡ all_less ks (numbers_of t.counts)
all_less_on [] t = refl
all_less_on (k ∷ ks) t = all_less_on ks (gone t k) ∙ ap (all_less ks) (lowered_number t.counts t.first k)

-- one less for each of these
pub gone_all_numbers :
    (ks : List ℕ) (t u : Chained) (numbers : Table ℕ) → numbers_of t.counts ≡ numbers → gone_all t ks ≡ u
    → numbers_of u.counts ≡ all_less ks numbers
gone_all_numbers ks t u numbers seen e = grind (arith, common_steps, all_less_on)

pub gone_all_chain :
    (ks : List ℕ) (t u : Chained) → gone_all t ks ≡ u → IsChained t.counts t.first → IsChained u.counts u.first
gone_all_chain ks t u e h = grind (arith, common_steps, gone_all_chained)

-- room that is there
pub number_stays :
    (es : Table Count) (numbers : Table ℕ) (k : ℕ) → numbers_of es ≡ numbers → is_some (at es k) ≡ true
    → numbers ≡ with_number k numbers
number_stays es numbers k seen there = grind (arith, common_steps, is_some, is_some_shown, cond)

-- where there is no count there is no number
pub no_number :
    (es : Table Count) (numbers : Table ℕ) (k n : ℕ) → n ≡ k → numbers_of es ≡ numbers → is_some (at es n) ≡ false
    → is_some (at numbers k) ≡ true → ⊥
no_number es numbers k n same seen absent there = grind (arith, common_steps, true≢false, is_some, is_some_shown)

none_from : (o : Option Count) → is_some o ≡ false → o ≡ None
none_from None h = refl
none_from (Some c) h = absurd (true≢false h)

-- room for a new count
pub number_made :
    (es fs : Table Count) (first : Option ℕ) (numbers : Table ℕ) (k : ℕ) → numbers_of es ≡ numbers
    → is_some (at es k) ≡ false → fs ≡ put es k (record { holders = 0; waiting = true; next = first })
    → numbers_of fs ≡ with_number k numbers
number_made es fs first numbers k seen absent e = grind (arith, common_steps, is_some, is_some_shown, put_map, cond)

pub chain_made :
    (es fs : Table Count) (first : Option ℕ) (k : ℕ) → is_some (at es k) ≡ false
    → fs ≡ put es k (record { holders = 0; waiting = true; next = first }) → IsChained es first
    → IsChained fs (Some k)
chain_made es fs first k absent e h = grind (arith, common_steps, made_chained, none_from)

-- a new count of one holder
pub number_held :
    (es fs : Table Count) (numbers : Table ℕ) (k n : ℕ) → n ≡ k → numbers_of es ≡ numbers
    → is_some (at es n) ≡ false → fs ≡ put es n (record { holders = 1; waiting = false; next = None })
    → numbers_of fs ≡ one_more k (with_number k numbers)
number_held es fs numbers k n same seen absent e =
    grind (arith, common_steps, is_some, is_some_shown, put_map, alter_put)

pub chain_held :
    (es fs : Table Count) (first : Option ℕ) (k : ℕ) → is_some (at es k) ≡ false
    → fs ≡ put es k (record { holders = 1; waiting = false; next = None }) → IsChained es first
    → IsChained fs first
chain_held es fs first k absent e h = grind (arith, common_steps, held_chained, none_from)

-- a key that has a count has a number
pub number_there :
    (es : Table Count) (numbers : Table ℕ) (k n : ℕ) → n ≡ k → numbers_of es ≡ numbers
    → is_some (at es n) ≡ true → is_some (at numbers k) ≡ true
number_there es numbers k n same seen there = grind (arith, common_steps, is_some, is_some_shown)

-- a number that is there stays
pub with_number_there :
    (numbers : Table ℕ) (k : ℕ) → is_some (at numbers k) ≡ true → numbers ≡ with_number k numbers
with_number_there numbers k there = ap (λ b. cond b numbers (put numbers k 0)) (sym there)
