use Rattle.std.proofs.Common.{inl, refl, rules}
use Rattle.krs_serve.proofs.daemon.serve_all.Goals as goal

pub returns-in-All : goal.returns-in-All
returns-in-All g c = inl (search rules, search rules, search rules, refl)
