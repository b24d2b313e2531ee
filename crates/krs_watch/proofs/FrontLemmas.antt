-- Fronts of a waiting list.
use Rattle.std.proofs.Common.{[], ◌++◌, ◌+◌, ◌-◌, ◌<◌, ◌∙◌, ◌∷◌, ◌≡◌, ◌≤◌, ap, append_assoc, arith, cond, drop, false}
use Rattle.std.proofs.Common.{leb, length, length-append, List, None, refl, slice_get, Some, sym, true, ℕ}
use Rattle.krs_types.specs.declared.note.Record.{Record}
use Rattle.krs_model.specs.Notes.{Bytes.{bytes_of, bytes_of_all}, Front.{behind, front}}

-- a front ends here
pub record Stops (room : ℕ) (rs : List Record) : Type 0 where
  pub nothing : front room rs ≡ []
  pub all : behind room rs ≡ rs

pub stops_empty : (room : ℕ) (rs : List Record) → None ≡ slice_get rs 0 → Stops room rs
stops_empty room [] h = record { nothing = refl; all = refl }
stops_empty room (r ∷ rs) h = absurd cc

pub stops_full : (room : ℕ) (rs : List Record) (r : Record) → Some r ≡ slice_get rs 0 →
    leb (length (bytes_of r)) room ≡ false → Stops room rs
stops_full room [] r h f = absurd cc
stops_full room (q ∷ rs) r h f =
    let e : r ≡ q = cc in
    let g : leb (length (bytes_of q)) room ≡ false =
    ap (λ (x : Record). leb (length (bytes_of x)) room) (sym e) ∙ f in
    record { nothing = rw g refl; all = rw g refl }

-- the first of a front is in it
pub first_within : (room : ℕ) (rs : List Record) (r : Record) → Some r ≡ slice_get rs 0 →
    leb (length (bytes_of r)) room ≡ true → length (bytes_of r) ≤ length (bytes_of_all (front room rs))
first_within room [] r h f = absurd cc
first_within room (q ∷ rs) r h f =
    let e : r ≡ q = cc in
    let g : leb (length (bytes_of q)) room ≡ true = ap (λ (x : Record). leb (length (bytes_of x)) room) (sym e) ∙ f in
    let same : length (bytes_of r) ≡ length (bytes_of q) = ap (λ (x : Record). length (bytes_of x)) e in
    rw g (omega (arith, length-append (bytes_of q) (bytes_of_all (front (room - length (bytes_of q)) rs))))

-- a front is no larger than the list
pub front_less : (room : ℕ) (rs : List Record) → length (bytes_of_all (front room rs)) ≤ length (bytes_of_all rs)
front_less room [] = omega arith
front_less room (r ∷ rs) =
    let left = room - length (bytes_of r) in
    elim (leb (length (bytes_of r)) room) as
    (λ b. length (bytes_of_all (cond b (r ∷ front left rs) [])) ≤ length (bytes_of_all (r ∷ rs))) [
      | true ↦
          let more = front_less left rs in
          omega (
            arith,
            length-append (bytes_of r) (bytes_of_all (front left rs)),
            length-append (bytes_of r) (bytes_of_all rs),
          )
      | false ↦ omega arith
    ]

-- what a front is once its first is taken
pub record Taken (room : ℕ) (rs : List Record) (r : Record) : Type 0 where
  pub front_is : front room rs ≡ r ∷ front (room - length (bytes_of r)) (drop 1 rs)
  pub behind_is : behind room rs ≡ behind (room - length (bytes_of r)) (drop 1 rs)
  pub fewer : length (drop 1 rs) < length rs

pub one_taken : (room : ℕ) (rs : List Record) (r : Record) → Some r ≡ slice_get rs 0 →
    leb (length (bytes_of r)) room ≡ true → Taken room rs r
one_taken room [] r h f = absurd cc
one_taken room (q ∷ rs) r h f =
    let e : r ≡ q = cc in
    let g : leb (length (bytes_of q)) room ≡ true = ap (λ (x : Record). leb (length (bytes_of x)) room) (sym e) ∙ f in
    rw e (record { front_is = rw g refl; behind_is = rw g refl; fewer = omega arith })

-- the bytes of all are the same, with one more taken
pub bytes_go_on : (left next : ℕ) (rs after : List Record) (r : Record) (xs ys all : List ℕ) → Taken left rs r →
    next ≡ left - length (bytes_of r) → after ≡ drop 1 rs → ys ≡ xs ++ bytes_of r →
    xs ++ bytes_of_all (front left rs) ≡ all → ys ++ bytes_of_all (front next after) ≡ all
bytes_go_on left next rs after r xs ys all t n a y h =
    rw (n, a, y) (append_assoc xs (bytes_of r) (bytes_of_all (front (left - length (bytes_of r)) (drop 1 rs)))
    ∙ (ap (λ (zs : List Record). xs ++ bytes_of_all zs) (sym t.front_is) ∙ h))

pub size_goes_on : (left next : ℕ) (rs after : List Record) (r : Record) (xs ys : List ℕ) → Taken left rs r →
    next ≡ left - length (bytes_of r) → after ≡ drop 1 rs → ys ≡ xs ++ bytes_of r →
    length ys + length (bytes_of_all (front next after)) ≡ length xs + length (bytes_of_all (front left rs))
size_goes_on left next rs after r xs ys t n a y =
    sym (length-append ys (bytes_of_all (front next after)))
    ∙ (ap length (bytes_go_on left next rs after r xs ys _ t n a y refl)
    ∙ length-append xs (bytes_of_all (front left rs)))

pub rest_goes_on : (left next : ℕ) (rs after : List Record) (r : Record) → Taken left rs r →
    next ≡ left - length (bytes_of r) → after ≡ drop 1 rs → behind next after ≡ behind left rs
rest_goes_on left next rs after r t n a = rw (n, a) (sym t.behind_is)
