-- The source as the code keeps it.
use Rattle.std.specs.Prelude.{ℕ, List}
use Rattle.zic_source.specs.declared.entries.Entries.{Entries}
use Rattle.zic_source.specs.declared.sets.Sets.{Sets}
use Rattle.zic_source.specs.Grammar.{IsSource}
use Rattle.zic_source.specs.Sound.{IsSoundSource}
use Rattle.zic_source.specs.code.Lines.{source_lines}
use Rattle.zic_source.specs.code.Sets.{IndexesSets}
use Rattle.zic_source.specs.code.Chains.{AreLinkZones}

-- Some texts are this source, and what is found by name is right.
pub record IsRight (lines : Entries) (sets : Sets) (link_zones : List ℕ) : Type 0 where
  pub says : (texts : List (List ℕ)) × IsSource texts (source_lines lines)
  pub sound : IsSoundSource (source_lines lines)
  pub sets_right : IndexesSets sets lines.rules.items
  pub zones_right : AreLinkZones (source_lines lines) link_zones
