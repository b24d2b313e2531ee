use Rattle.std.proofs.Common.{◌≡◌, drop}
use Rattle.krs_links.specs.Links.{serials}
use Rattle.krs_keys.specs.Hashed.{by_serial}
use Rattle.krs_hold.specs.Chain.{gone_all}
use Rattle.krs_hold.proofs.counts.let_go_all.Given as goal

abbrev pub invariant-loop-place : goal.invariant-loop-place
invariant-loop-place l =
    gone_all (record { counts = by_serial l.counts.entries; first = l.first }) (drop l.place (serials l.links))
    ≡ gone_all (record { counts = by_serial l.initial.counts.entries; first = l.initial.first }) (serials l.links)
