use Rattle.std.proofs.Common.{[], ◌++◌, ◌+◌, ◌<◌, ◌∙◌, ◌∷◌, ◌≡◌, add-one, ap, append-nil, arith, get_or, length, List}
use Rattle.std.proofs.Common.{refl, slice_get, Some, suc, sym, take, w32, zero, ℕ}
use Rattle.std.specs.{Int.to_le_bytes, Map.values_of}
use Rattle.std.proofs.Math.Seq.{take-suc}
use Rattle.std.proofs.lemmas.{Grind.flat_map-append, Option.{get_or_from_slice_get, slice_get_within}}
use Rattle.krs_links.specs.{Indexed.{linked_in}, Links.{bytes_of, serials}, declared.index.Link.Link}
use Rattle.krs_links.proofs.index.LinkIndex.serial_bytes.Goals as goal
use Rattle.std.proofs.lemmas.Grind.{common_steps}

-- what is taken up to a place, and behind it what stands there
next_taken : (xs : List ℕ) (i x : ℕ) → slice_get xs i ≡ Some x → take (i + 1) xs ≡ take i xs ++ (x ∷ [])
next_taken xs i x h =
    rw (add-one, take-suc xs i 0 (slice_get_within xs i x h), get_or_from_slice_get xs i x 0 h) refl

more_bytes : (xs bytes : List ℕ) (i x : ℕ) → slice_get xs i ≡ Some x → bytes ≡ bytes_of (take i xs)
    → bytes ++ to_le_bytes w32 x ≡ bytes_of (take (i + 1) xs)
more_bytes xs bytes i x h was =
    let le : ℕ → List ℕ = λ k. to_le_bytes w32 k in
    ap (λ (b : List ℕ). b ++ le x) was
    ∙ (ap (λ (z : List ℕ). bytes_of (take i xs) ++ z) (sym (append-nil (le x)))
    ∙ (sym (flat_map-append le (take i xs) (x ∷ [])) ∙ ap bytes_of (sym (next_taken xs i x h))))

-- the serial of the link at a place
serial_there : (entries : List (ℕ × Link)) (i : ℕ) (link : Link) → i < length (values_of entries)
    → link ≡ get_or (values_of entries) i link → slice_get (serials (linked_in entries)) i ≡ Some link.serial
serial_there [] i link within is = absurd (omega arith)
serial_there (e ∷ es) zero link within is = ap (λ (l : Link). Some l.serial) (sym is)
serial_there (e ∷ es) (suc i) link within is = serial_there es i link (omega arith) is

pub loop-link-preserved : goal.loop-link-preserved
loop-link-preserved c = grind (arith, common_steps, get_or, serial_there, more_bytes)
