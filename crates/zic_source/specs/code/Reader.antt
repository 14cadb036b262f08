-- The state of the reader beside the lines that it has read.
use Rattle.std.specs.Prelude.{◌≡◌, length}
use Rattle.zic_source.specs.declared.reader.Reader.{Reader}
use Rattle.zic_source.specs.Source.{zone_lines_of}
use Rattle.zic_source.specs.code.Lines.{source_lines}
use Rattle.zic_source.specs.code.Sets.{IndexesSets}
use Rattle.zic_source.specs.code.Owners.{IndexesNames}

-- the sets, the names and the count are those of the lines
pub record Tracks (reader : Reader) : Type 0 where
  pub sets : IndexesSets reader.sets reader.lines.rules.items
  pub names : IndexesNames reader.names (source_lines reader.lines)
  pub counted : reader.zone_lines ≡ length (zone_lines_of (source_lines reader.lines))
