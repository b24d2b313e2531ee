use Rattle.std.proofs.{Common.{Result, subst, sym, w32}, lemmas.Int.to_z-of_z}
use Rattle.krs_types.specs.declared.{errno.Errno.Errno, name.Name.Name}
use Rattle.krs_model.specs.{Asks.Finding.search_from, Outcome.Leads}
use Rattle.krs_ring_asks.specs.Found.{search_named}
use Rattle.krs_ring_asks.proofs.SearchAndRequest.{as_sought}
use Rattle.krs_ring_asks.proofs.finding.search.Goals as goal

pub returns-clause-step : goal.returns-clause-step
unfolding search_from search_named
returns-clause-step c =
    subst (λ (sought : Result Name Errno). Leads c.args.tables.now c.search_named.result c.search_named.new.tables
    (search_named c.args.tables.now c.args.client c.args.number c.args.head sought c.args.dest))
    (sym (as_sought _ _ c.sought_name-name.ensures))
    (rw (to_z-of_z w32 c.args.head c.ranges.head, to_z-of_z w32 c.args.dest c.ranges.dest) at
    c.search_named.ensures.step)
