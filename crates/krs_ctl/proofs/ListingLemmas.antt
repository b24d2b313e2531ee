-- The bytes of a keyring's links, and how keys are listed.
use Rattle.std.proofs.Common.{[], ◌%◌, ◌<◌, ◌==◌, ◌^◌, ◌∙◌, ◌∷◌, ◌≡◌, ap, length, List, Ok, refl, Result, sym, true, ℕ}
use Rattle.std.specs.{Int.to_le_bytes, List.AllByRecursion}
use Rattle.std.proofs.{Math.Nat.mul-mod_right, lemmas.Nat.from_le_bytes-to_le_bytes_4}
use Rattle.krs_types.specs.declared.errno.Errno.{Errno}
use Rattle.krs_model.specs.Asks.Reading.{serial_bytes}
use Rattle.krs_store.proofs.Listing.{length-serial_bytes}
use Rattle.krs_words.specs.Printing.{serials_in, shown_serials}
use Rattle.krs_ctl.specs.Listing.{LinksAreListed}

abbrev ok : List ℕ → Result (List ℕ) Errno
ok bytes = Ok bytes

-- the bytes of serials spell them
serials_again : (serials : List ℕ) → AllByRecursion (λ n. n < 2 ^ 32) serials
    → serials_in (serial_bytes serials) ≡ serials
serials_again [] low = refl
serials_again (n ∷ serials) (first, rest) =
    ap (λ k. k ∷ serials_in (serial_bytes serials)) (from_le_bytes-to_le_bytes_4 n first)
    ∙ ap (λ ns. n ∷ ns) (serials_again serials rest)

whole_serials : (serials : List ℕ) → (length (serial_bytes serials) % 4 == 0) ≡ true
whole_serials serials = rw (length-serial_bytes serials, mul-mod_right 4 (length serials)) refl

ok_is : (a b : List ℕ) → ok a ≡ ok b → a ≡ b
ok_is a b e = cc

pub links_are_listed : LinksAreListed
links_are_listed ring serials bytes content low kind is =
    let given : bytes ≡ serial_bytes serials = ok_is _ _ (sym is ∙ rw (kind, content) refl) in
    rw (given, kind, whole_serials serials) (ap shown_serials (serials_again serials low))
