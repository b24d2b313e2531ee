-- The length of a reply's frame, read before the rest of it.
use Rattle.std.proofs.Common.{[], ◌∙◌, ◌∷◌, ◌≡◌, ap, arith, Bool, cond, Err, false, length, List, lt-ltb, ltb, None, Ok}
use Rattle.std.proofs.Common.{Option, option_map, refl, Result, Some, suc, sym, true, true≢false, w32, zero, ℕ}
use Rattle.std.specs.Int.{from_le_bytes}
use Rattle.krs_types.specs.declared.{ask.Answer.Answer, errno.Errno.Errno, shape.Shape.Shape}
use Rattle.krs_wire.specs.Faulting.{GivesRead}
use Rattle.krs_wire.specs.{Field.number, Reply.{Found, is_bad_reply_length, reply_front, reply_in, tagged}}
use Rattle.krs_wire.specs.declared.fault.WireFault.{WireFault, TheVariants.BadLength}
use Rattle.krs_words.specs.declared.stop.Stop.{Stop, TheVariants.{Connection, Memory}}
use Rattle.krs_remote.specs.Talking.{cause_of}
use Rattle.krs_wire.specs.declared.fault.WireFault.TheVariants as wire

-- a fault is that of the length, where nothing follows it
chosen : (bad few : Bool) (x : Result (Option Found) WireFault) (fault : WireFault) → (bad ≡ false → few ≡ true)
    → cond bad (Err BadLength) (cond few (Ok None) x) ≡ Err fault → bad ≡ true
chosen true few x fault some is = refl
chosen false true x fault some is = cc
chosen false false x fault some is = some refl

some_good : (n : ℕ) → is_bad_reply_length true n ≡ false → ltb 0 n ≡ true
some_good zero good = absurd (true≢false good)
some_good (suc n) good = lt-ltb 0 (suc n) (omega arith)

bad_alone : (shape : Shape) (n : ℕ) (fault : WireFault) → reply_in true shape (Some (n, [])) ≡ Err fault
    → is_bad_reply_length true n ≡ true
unfolding reply_in
bad_alone shape n fault is = chosen (is_bad_reply_length true n) (ltb 0 n) _ fault (some_good n) is

four : (bytes : List ℕ) → length bytes ≡ 4 → (number w32).read bytes ≡ Some (from_le_bytes w32 bytes, [])
four [] is = absurd (omega arith)
four (a ∷ []) is = absurd (omega arith)
four (a ∷ b ∷ []) is = absurd (omega arith)
four (a ∷ b ∷ c ∷ []) is = absurd (omega arith)
four (a ∷ b ∷ c ∷ d ∷ []) is = refl
four (a ∷ b ∷ c ∷ d ∷ e ∷ more) is = absurd (omega arith)

-- the four bytes of a length alone have no fault but that of the length
pub bad_head : (shape : Shape) (head : List ℕ) (fault : WireFault) → length head ≡ 4
    → reply_front true shape head ≡ Err fault → is_bad_reply_length true (from_le_bytes w32 head) ≡ true
bad_head shape head fault whole is =
    bad_alone shape (from_le_bytes w32 head) fault (sym (ap (reply_in true shape) (four head whole)) ∙ is)

-- where a length is no fault it is good
chosen_good : (bad : Bool) (x : Result (Option Found) WireFault) (found : Option Found)
    → cond bad (Err BadLength) x ≡ Ok found → bad ≡ false
chosen_good true x found is = cc
chosen_good false x found is = refl

good_alone : (shape : Shape) (n : ℕ) (found : Option Found) → reply_in true shape (Some (n, [])) ≡ Ok found
    → is_bad_reply_length true n ≡ false
unfolding reply_in
good_alone shape n found is = chosen_good (is_bad_reply_length true n) _ found is

-- the four bytes of a length alone that have no fault are a good one
pub good_head : (shape : Shape) (head : List ℕ) (found : Option Found) → length head ≡ 4
    → reply_front true shape head ≡ Ok found → is_bad_reply_length true (from_le_bytes w32 head) ≡ false
good_head shape head found whole is =
    good_alone shape (from_le_bytes w32 head) found (sym (ap (reply_in true shape) (four head whole)) ∙ is)

-- so they are where what is read of them is no fault
pub good_told : (shape : Shape) (head : List ℕ) (read : Result (Option (Result Answer Errno × ℕ × ℕ)) WireFault)
    → length head ≡ 4 → GivesRead (λ o. option_map tagged o) read (reply_front true shape head)
    → ((fault : WireFault) → read ≡ Err fault → ⊥) → is_bad_reply_length true (from_le_bytes w32 head) ≡ false
good_told shape head (Ok found) whole exact none = good_head shape head (option_map tagged found) whole exact
good_told shape head (Err fault) whole exact none = absurd (none fault refl)

-- want of memory isn't told as a connection that failed
pub not_memory : {A : Type 0} (fault : WireFault) (stop : Stop) → stop ≡ cause_of fault
    → ◌≡◌ {A = Result A Stop} (Err stop) (Err Connection) → fault ≡ wire.Memory → ⊥
not_memory fault stop told ends lacks = let is : stop ≡ Memory = told ∙ ap cause_of lacks in cc
