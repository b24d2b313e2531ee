use Rattle.krs_walk.proofs.possession.Sought.+leaves.Given as goal

abbrev pub decreases-leaves : goal.decreases-leaves
decreases-leaves l = l.levels
