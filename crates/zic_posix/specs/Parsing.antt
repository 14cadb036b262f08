-- Texts that a parser of POSIX TZ strings refuses, and those for which it needs memory.
use Rattle.std.specs.Prelude.{◌<◌, ◌⊎◌, Option, Some, None, List, ℕ, length, IsSomeAnd}
use Rattle.zic_base.specs.declared.constants.TheConstants.{LONGEST_ABBREVIATION}
use Rattle.zic_posix.specs.declared.parser.ParseStop.{ParseStop}
use Rattle.zic_posix.specs.declared.parser.ParseStop.TheVariants as stop
use Rattle.zic_posix.specs.Footer.{TzString}
use Rattle.zic_posix.specs.Grammar.{Spells}

-- that the parser refuses the text, and nothing where it is out of memory
abbrev pub refusal_of : ParseStop → Option (Unit {0})
refusal_of stop.BadFooter = Some tt
refusal_of stop.Memory = None

-- a name that isn't stored without memory
abbrev pub IsLong : List ℕ → Type 0
IsLong name = LONGEST_ABBREVIATION < length name

-- a name of the string is long
abbrev pub HasLongName : TzString → Type 0
HasLongName f = IsLong f.std ⊎ IsSomeAnd f.dst (λ dst. IsLong dst.name)

-- the text spells a string of which a name is long
abbrev pub NeedsMemory : ℕ → List ℕ → Type 0
NeedsMemory version text = (f : TzString) × Spells version text f × HasLongName f
