-- Room in a count of holders, by the links and attachments of a store.
use Rattle.std.proofs.Common.{◌+◌, ◌-◌, ◌<◌, ◌^◌, ◌≡◌, arith, ℕ}
use Rattle.krs_hold.specs.Tally.{number_at}
use Rattle.krs_tables.specs.{Holding.holders_in, View.{IsConsistent, state_of}, declared.tables.Tables.TheInside.Inside}

pub room_told : (s : Inside) (k : ℕ) → IsConsistent s → holders_in (state_of s) k < 2 ^ 64 - 1
    → number_at s.holders k < 2 ^ 64 - 1
room_told s k sound few =
    let exact : number_at s.holders k ≡ 0 + holders_in (state_of s) k = sound.tallied.exact k in
    omega (arith, exact, few)
