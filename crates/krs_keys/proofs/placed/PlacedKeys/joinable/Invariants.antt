use Rattle.krs_model.specs.{Asks.Joining.is_joinable, Table.at}
use Rattle.krs_keys.specs.{Keys.seen, Places.{by_place, passes}}
use Rattle.krs_keys.proofs.LeastJoinable.{IsLeastBut}
use Rattle.krs_keys.proofs.placed.PlacedKeys.joinable.Given as goal

-- the least serial of a keyring that may be joined, but for those that come
abbrev pub invariant-loop-ring : goal.invariant-loop-ring
invariant-loop-ring l =
    IsLeastBut (λ q. passes (λ key. is_joinable l.clock l.caller l.desc (seen key)) (at (by_place l.self) q))
    l.ring-iterator l.least
