-- Of keys that are watched, none has been dropped but those that are told.
use Rattle.std.proofs.Common.{◌&&◌, ◌∙◌, ◌≡◌, ap, arith, Bool, false, nat_cmp, not, refl, sym, true, true≢false, ℕ}
use Rattle.krs_model.specs.Table.{Table, without}
use Rattle.krs_model.proofs.Tables.Changes.{at_without_other, same_at}
use Rattle.krs_keys.specs.{Kept.KeepsAll, declared.key.Key.Key}
use Rattle.std.proofs.lemmas.Grind.{common_steps}

-- a key goes that isn't watched
pub unwatched_goes :
    (has : ℕ → Bool) (old new : Table Key) (k : ℕ) → has k ≡ false → new ≡ without old k → KeepsAll has old new
unwatched_goes has old new k none is q watched =
    grind (arith, common_steps, at_without_other, nat_cmp, true≢false, same_at)

-- a key that is told doesn't count among those that stay
pub untold : (h t : Bool) → t ≡ true → (h && not t) ≡ false
untold true t e = ap not e
untold false t e = refl

fewer : (h b a : Bool) → (b ≡ true → a ≡ true) → (h && not a) ≡ true → (h && not b) ≡ true
fewer true true a more kept = absurd (true≢false (sym kept ∙ ap not (more refl)))
fewer true false a more kept = refl
fewer false b a more kept = kept

-- and another after it, where no less is told
pub goes_on :
    (has before after : ℕ → Bool) (old mid new : Table Key) → ((k : ℕ) → before k ≡ true → after k ≡ true)
    → KeepsAll (λ k. has k && not (before k)) old mid → KeepsAll (λ k. has k && not (after k)) mid new
    → KeepsAll (λ k. has k && not (after k)) old new
goes_on has before after old mid new more first second q kept =
    second q kept ∙ first q (fewer (has q) (before q) (after q) (more q) kept)
