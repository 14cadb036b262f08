use Rattle.std.proofs.Common.{refl, true, false, to_z-of_z}
use Rattle.zic_row_text.proofs.RowTexts.{before_name-of}
use Rattle.zic_row_text.proofs.state_text.before_name.Goals as goal

pub returns-then-daylight : goal.returns-then-daylight
returns-then-daylight c =
    rw (c.offset_text.ensures, to_z-of_z c.ranges.offset, c.if-daylight.true) (before_name-of c.args.offset true 49 refl)

pub returns-else-daylight : goal.returns-else-daylight
returns-else-daylight c =
    rw (c.offset_text.ensures, to_z-of_z c.ranges.offset, c.if-daylight.false) (before_name-of c.args.offset false 48 refl)
