use Rattle.std.proofs.Common.{◌<◌, ◌^◌, rules}
use Rattle.krs_words.proofs.SerialsLemmas.{shown_on}
use Rattle.krs_words.proofs.printing.serials_text.Goals as goal

pub serials-preserved : goal.serials-preserved
serials-preserved c =
    let low : c.from_le_bytes.result < 2 ^ 64 = search rules in
    shown_on _ _ _ _ _ low c.in-len4-up.len_at_least c.from_le_bytes.ensures c.in_ok-push_serial.ensures
    c.serials.invariant
