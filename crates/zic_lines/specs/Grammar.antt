-- The grammar of a line: zic(8), FILES, with own limits.
use Rattle.std.specs.Prelude.{◌≡◌, ◌≤◌, ℕ, List, [], length, Option, Some, None, IsTrue}
use Rattle.zic_base.specs.declared.fault.Place.{Place}
use Rattle.zic_lines.specs.declared.field.TheConstants.{LONGEST_LINE}
use Rattle.zic_lines.specs.Line.{PlacedLine}
use Rattle.zic_lines.specs.Field.{is_ascii_code, is_closed, fields}
use Rattle.zic_lines.specs.declared.entry.Entry.{Entry}
use Rattle.zic_lines.specs.declared.entry.Entry.TheVariants as entries
use Rattle.zic_lines.specs.RuleLine.{IsRuleLine}
use Rattle.zic_lines.specs.ZoneLine.{IsZoneLine, IsContinuationLine}
use Rattle.zic_lines.specs.LinkLine.{IsLinkLine}

-- a line that can be cut into fields; that it has at most 2,048 bytes without its newline is own choice
pub record IsLine (bytes : List ℕ) : Type 0 where
  pub short : length bytes ≤ LONGEST_LINE
  pub ascii : IsTrue (is_ascii_code bytes)
  pub closed : IsTrue (is_closed bytes)

-- The fields at this place say this. A line without fields has no statement.
abbrev pub FieldsSay : Place → List (List ℕ) → Option Entry → Type 0
FieldsSay place fields None = fields ≡ []
FieldsSay place fields (Some (entries.Rule rule)) = IsRuleLine place fields rule
FieldsSay place fields (Some (entries.Zone name line)) = IsZoneLine place fields name line
FieldsSay place fields (Some (entries.Continuation line)) = IsContinuationLine place fields line
FieldsSay place fields (Some (entries.Link link)) = IsLinkLine place fields link

-- what a line says
abbrev pub Says : PlacedLine → Option Entry → Type 0
Says line entry = IsLine line.bytes × FieldsSay line.place (fields line.bytes) entry
