-- UT offsets of two digits of hours.
use Rattle.std.specs.Prelude.{◌*◌, ◌<◌, ℤ, unsigned_abs, Option, IfSome}
use Rattle.zic_base.specs.State.{Shown}
use Rattle.zic_tzif.specs.Answer.{Answers}
use Rattle.zic_tzif.specs.Content.{Content}

-- an offset, if there is one, less than 100 hours either way
abbrev pub IsShort : Option Shown → Type 0
IsShort answer = IfSome answer (λ state. unsigned_abs state.offset < 100 * 3600)

-- each offset of a file is
abbrev pub AreShort : Content → Type 0
AreShort content = (t : ℤ) (answer : Option Shown) → Answers content t answer → IsShort answer
