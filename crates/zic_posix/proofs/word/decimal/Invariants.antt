use Rattle.std.proofs.Common.{◌≡◌, take}
use Rattle.zic_base.specs.Number.{decimal_value}
use Rattle.zic_posix.proofs.word.decimal.Given as goal

abbrev pub invariant-loop-digit : goal.invariant-loop-digit
invariant-loop-digit l = l.number ≡ decimal_value (take l.digit-index l.digits)
