-- The content of a source, in the order of its lines: zic(8), FILES.
use Rattle.std.specs.Prelude.{ℕ, Bool, List, ◌∷◌, Option, map, filter, slice_get, count_by, flat_map, bytes_eq}
use Rattle.std.specs.List.{list_any, enumerate_from}
use Rattle.zic_lines.specs.declared.rule_line.Rule.{Rule}
use Rattle.zic_lines.specs.declared.zone_line.ZoneLine.{ZoneLine}
use Rattle.zic_lines.specs.declared.link.Link.{Link}
use Rattle.zic_lines.specs.declared.entry.Entry.{Entry}
use Rattle.zic_lines.specs.declared.entry.Entry.TheVariants as entries

-- a zone: its name, what its Zone line says, and what each continuation line says
pub record ZoneLines : Type 0 where
  pub name : List ℕ
  pub first : ZoneLine
  pub continuations : List ZoneLine

-- all lines, those of one kind in the order of the texts and their lines
pub record SourceLines : Type 0 where
  pub rules : List Rule
  pub zones : List ZoneLines
  pub links : List Link

-- the rule belongs to the set
abbrev pub is_of_set : List ℕ → Rule → Bool
is_of_set name rule = bytes_eq name rule.name

-- how many of the rules belong to the set
abbrev pub set_size : List ℕ → List Rule → ℕ
set_size name rules = count_by (is_of_set name) rules

-- some rule belongs to the set
abbrev pub is_set : List ℕ → List Rule → Bool
is_set name rules = list_any (is_of_set name) rules

-- the numbers of the set's rules, from 0 in the order of the texts and their lines
abbrev pub set_rules : List ℕ → List Rule → List ℕ
set_rules name rules = map (λ rule. rule.0) (filter (λ rule. is_of_set name rule.1) (enumerate_from 0 rules))

-- the lines of a zone in order
abbrev pub lines_of_zone : ZoneLines → List ZoneLine
lines_of_zone zone = zone.first ∷ zone.continuations

-- all Zone and continuation lines in order
abbrev pub zone_lines_of : SourceLines → List ZoneLine
zone_lines_of source = flat_map lines_of_zone source.zones

-- the zone of this number, from 0
abbrev pub zone_at : SourceLines → ℕ → Option ZoneLines
zone_at source number = slice_get source.zones number

-- what the lines of a zone say: its Zone line, and each continuation line
abbrev pub entries_of_zone : ZoneLines → List Entry
entries_of_zone zone = entries.Zone zone.name zone.first ∷ map entries.Continuation zone.continuations
