use Rattle.std.proofs.{Common.{nat_eq, not, rules}, lemmas.Map.Made.filter_same_pairs}
use Rattle.krs_watch.proofs.queues.drop_queues.Goals as goal

pub returns-clause-queues : goal.returns-clause-queues
returns-clause-queues c =
    filter_same_pairs _ (λ e. not (nat_eq e.1.client c.args.client)) _ (λ k v b w f' t. search rules)
    c.args.queues.now.entries c.retain.new.self.entries c.retain.ensures.filtered
