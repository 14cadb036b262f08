-- The UT offsets of a file.
use Rattle.std.specs.Prelude.{◌≤◌, ℤ, unsigned_abs, Option}
use Rattle.zic_base.specs.State.{Shown}
use Rattle.zic_base.specs.declared.constants.TheConstants.{FARTHEST_FILE_OFFSET}
use Rattle.zic_tzif.specs.Content.{Content}
use Rattle.zic_tzif.specs.Answer.{Answers}
use Rattle.zic_dump.specs.Changes.{shown_for}

-- each offset that is shown is within 25:59:59 either way
abbrev pub HaveOffsets : Content → Type 0
HaveOffsets content =
    (t : ℤ) (answer : Option Shown) → Answers content t answer
    → unsigned_abs (shown_for answer).offset ≤ FARTHEST_FILE_OFFSET
