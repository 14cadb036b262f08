use Rattle.std.proofs.Common.{pos, ◌-ℤ◌, unsigned_abs}
use Rattle.std.specs.Int.{int_max}
use Rattle.zic_local.specs.code.Search.{IsSearched}
use Rattle.zic_local.proofs.next.next_local.Given as goal

abbrev pub invariant-loop-found : goal.invariant-loop-found
invariant-loop-found l = IsSearched l.zone l.schedule l.after l.until l.day l.found

-- the days up to one after all of 64 bits
abbrev pub decreases-loop-found : goal.decreases-loop-found
decreases-loop-found l = unsigned_abs (int_max (pos 0) (pos 200_000_000_000_000 -ℤ l.day))
