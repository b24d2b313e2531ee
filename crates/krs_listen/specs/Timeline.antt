-- The daemon's time by readings of two clocks, in milliseconds: profile, server's clock.
use Rattle.std.specs.Prelude.{◌&&◌, ◌+◌, ◌-◌, ◌^◌, if◌then◌else◌, max, min, nat_le, None, Option, Some, ℕ}
use Rattle.krs_listen.specs.declared.timeline.Timeline.{Timeline}

-- what the wall clock has gone on by since the clocks were compared: nothing where it was set back
abbrev pub by_wall : Timeline → ℕ → ℕ
by_wall old wall = wall - old.wall

-- the same of the steady one
abbrev pub by_steady : Timeline → ℕ → ℕ
by_steady old steady = steady - old.steady

-- it begins with the wall clock
abbrev pub starting : ℕ → ℕ → Timeline
starting wall steady = record { time = wall; wall = wall; steady = steady }

-- a clock's timeline, which begins with its first readings
abbrev pub begun : Option Timeline → ℕ → ℕ → Timeline
begun None wall steady = starting wall steady
begun (Some old) wall steady = old

-- the time goes on by as much as the clock that has gone on more
abbrev pub time_at : Timeline → ℕ → ℕ → ℕ
time_at old wall steady = min (old.time + max (by_wall old wall) (by_steady old steady)) (2 ^ 64 - 1)

-- how far the clocks have come apart since they were compared
abbrev pub apart : Timeline → ℕ → ℕ → ℕ
apart old wall steady =
    max (by_wall old wall - by_steady old steady) (by_steady old steady - by_wall old wall)

-- The clocks are compared anew where they have come apart by more than a second, or where it is later than they say.
abbrev pub after : Timeline → ℕ → ℕ → ℕ → Timeline
after old wall steady least =
    if nat_le (apart old wall steady) 1000 && nat_le least (time_at old wall steady) then old
    else record { time = max (time_at old wall steady) least; wall = wall; steady = steady }
