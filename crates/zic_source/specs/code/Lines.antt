-- The lines that the code keeps, as contracts see them.
use Rattle.std.specs.Prelude.{[]}
use Rattle.zic_source.specs.declared.entries.Entries.{Entries}
use Rattle.zic_source.specs.Source.{SourceLines}

-- the lines, without where they lie in memory
abbrev pub source_lines : Entries → SourceLines
source_lines lines = record { rules = lines.rules.items; zones = lines.zones.items; links = lines.links.items }

-- the source without a line
abbrev pub no_lines : SourceLines
no_lines = record { rules = []; zones = []; links = [] }
