-- Watches by rising key, then queue.
use Rattle.std.proofs.Common.{[], ◌∷◌, ◌≡◌, ap, arith, Bool, filter, is_eq, List, nat_cmp, refl, ℕ}
use Rattle.std.proofs.lemmas.{Bool.Decides.nat_tests, Cmp.nat_cmp_total}
use Rattle.std.specs.{declared.cmp.Ordering.TheVariants.{Equal, Greater, Less}, Ordering.match_ordering}
use Rattle.krs_model.specs.{Orderly.{AreRising, Each}, Queues.{place_cmp, Watch, with_watch, without_watch}}
use Rattle.krs_model.proofs.{Notes.Fitting.{each_filter, each_on}, Tables.Changes.same_at}
use Rattle.std.proofs.lemmas.Grind.{common_steps}

abbrev IsAfter : Watch → Watch → Type 0
IsAfter w v = place_cmp w.0 v.0 ≡ Less

pub filter_rising : (p : Watch → Bool) (ws : List Watch) → AreRising ws → AreRising (filter p ws)
filter_rising p [] h = tt
filter_rising p (w ∷ ws) h = grind (arith, nat_tests, each_filter, filter_rising p ws h.1)

pub each_without :
    (P : Watch → Type 0) (ws : List Watch) (key number : ℕ) → Each P ws → Each P (without_watch ws key number)
each_without P [] key number h = tt
each_without P (w ∷ ws) key number h = grind (arith, nat_tests, each_without P ws key number h.1)

pub without_rising : (ws : List Watch) (key number : ℕ) → AreRising ws → AreRising (without_watch ws key number)
without_rising [] key number h = tt
without_rising (w ∷ ws) key number h = grind (arith, nat_tests, each_without, without_rising ws key number h.1)

-- a statement of the places and of the ids of watches
pub each_with :
    (P : Watch → Type 0) (ws : List Watch) (key number n : ℕ) → P ((key, number), n)
    → ((w : Watch) → P w → P (w.0, n)) → Each P ws → Each P (with_watch ws key number n)
each_with P [] key number n new again h = (new, tt)
each_with P (w ∷ ws) key number n new again h = grind (arith, nat_tests, each_with P ws key number n new again h.1)

same_number : (a b : ℕ) → nat_cmp a b ≡ Equal → a ≡ b
same_number a b h = same_at a b (ap is_eq h)

-- the order of places is one
place_trans : (x y z : ℕ × ℕ) → place_cmp x y ≡ Less → place_cmp y z ≡ Less → place_cmp x z ≡ Less
place_trans x y z h k = grind (arith, common_steps, nat_cmp, same_number)

place_flip : (x y : ℕ × ℕ) → place_cmp x y ≡ Greater → place_cmp y x ≡ Less
place_flip x y h = grind (arith, nat_tests, nat_cmp_total)

pub with_rising : (ws : List Watch) (key number n : ℕ) → AreRising ws → AreRising (with_watch ws key number n)
with_rising [] key number n h = (tt, tt)
with_rising (w ∷ ws) key number n h =
    let new : Watch = ((key, number), n) in
    elim (place_cmp (key, number) w.0) as (λ r. place_cmp (key, number) w.0 ≡ r
    → AreRising (match_ordering r (new ∷ w ∷ ws) ((w.0, n) ∷ ws) (w ∷ with_watch ws key number n))) [
      | Less ↦ λ t.
          let later = each_on (IsAfter w) (IsAfter new) ws
          (λ v after. place_trans (key, number) w.0 v.0 t after) h.0 in
          ((t, later), h)
      | Equal ↦ λ t. h
      | Greater ↦ λ t. (
        each_with (IsAfter w) ws key number n (place_flip (key, number) w.0 t) (λ v after. after) h.0,
        with_rising ws key number n h.1,
      )
    ] refl
