use Rattle.krs_walk.proofs.possession.Sought.+climbs.Given as goal

abbrev pub decreases-climbs : goal.decreases-climbs
decreases-climbs l = l.others
