-- The parts of a file that a zone keeps.
use Rattle.zic_tzif.specs.Content.{Content}
use Rattle.zic_tzif.specs.declared.stored.Stored.{Stored}
use Rattle.zic_tzif.specs.Block.{changes_at}

-- their content
abbrev pub stored_content : Stored → Content
stored_content stored = record {
  version = stored.version;
  changes = changes_at stored.times.times.items stored.numbers.items;
  types = stored.types.items;
  names = stored.names.items;
  text = stored.text.items;
}
