use Rattle.std.proofs.Common.{◌≡◌, length}
use Rattle.krs_words.specs.Printing.{serials_in, shown_serials}
use Rattle.krs_words.proofs.SerialsLemmas.{continued}
use Rattle.krs_words.proofs.printing.serials_text.Given as goal

-- with the serials that are left behind it the text is the whole
abbrev pub invariant-serials : goal.invariant-serials
invariant-serials l = continued l.text.bytes.items (serials_in l.left) ≡ shown_serials (serials_in l.bytes)

abbrev pub decreases-serials : goal.decreases-serials
decreases-serials l = length l.left
