use Rattle.std.proofs.Common.{◌-◌, ◌∙◌, ap}
use Rattle.krs_links.proofs.IndexedLemmas.{last_taken}
use Rattle.krs_links.proofs.index.take_at.Goals as goal

pub returns-then-place-saturating_sub-clause-entries : goal.returns-then-place-saturating_sub-clause-entries
returns-then-place-saturating_sub-clause-entries c =
    last_taken c.args.entries.now.entries c.swap_remove_index.new.self.entries c.args.place c.swap_remove_index.result
    (c.if-place-saturating_sub.true ∙ (c.saturating_sub.ensures ∙ ap (λ n. n - 1) c.len.ensures.len))
    c.swap_remove_index.ensures.entry c.swap_remove_index.ensures.entries
    c.swap_remove_index.ensures.unchanged
