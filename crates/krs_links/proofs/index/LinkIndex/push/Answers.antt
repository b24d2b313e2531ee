use Rattle.std.proofs.Common.{◌∙◌, ap, arith, sym}
use Rattle.krs_links.specs.Seeded.{name_digest}
use Rattle.krs_links.proofs.IndexedLemmas.{AllStand-last}
use Rattle.krs_links.proofs.index.LinkIndex.push.Goals as goal

pub returns-clause-indexed : goal.returns-clause-indexed
returns-clause-indexed c =
    let index = c.args.self.now in
    let more = c.max-self.ensures in
    rw (c.in_ok-put_new.ensures.ok, c.behind.ensures)
    (AllStand-last index.seed index.span c.max-self.result c.digest_in-digest.result c.free_steps-steps.result
    index.entries.entries (record { name = c.into_name.result; serial = c.args.serial }) (omega (arith, more))
    (omega (arith, more)) (c.digest_in-digest.ensures ∙ ap (name_digest index.seed) (sym c.into_name.ensures))
    c.requires.indexed)
