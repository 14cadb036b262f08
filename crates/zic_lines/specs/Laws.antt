-- Laws of lines: the checks and the grammar agree, a line says one thing, and its fields stand in their ranges.
use Rattle.std.specs.Prelude.{◌≡◌, ◌↔◌, ℕ, Bool, List, map, Option, None, IfSome}
use Rattle.zic_base.specs.Check.{first_failed}
use Rattle.zic_lines.specs.Line.{PlacedLine}
use Rattle.zic_lines.specs.declared.entry.Entry.{Entry}
use Rattle.zic_lines.specs.Field.{fields, field_ranges, text_in}
use Rattle.zic_lines.specs.Entry.{is_continuation}
use Rattle.zic_lines.specs.Grammar.{Says}
use Rattle.zic_lines.specs.Checks.{line_checks}

-- Where a continuation line is awaited or not, a line says something just where no check fails.
abbrev pub SaysWherePassing : Type 0
SaysWherePassing = (awaited : Bool) (line : PlacedLine)
    → ((entry : Option Entry) × Says line entry × IfSome entry (λ said. is_continuation said ≡ awaited)) ↔ (first_failed (line_checks awaited line.bytes) ≡ None)

-- Where a continuation line is awaited or not, a line says at most one thing.
abbrev pub SaysOneThing : Type 0
SaysOneThing = (awaited : Bool) (line : PlacedLine) (entry other : Option Entry)
    → Says line entry → IfSome entry (λ said. is_continuation said ≡ awaited)
    → Says line other → IfSome other (λ said. is_continuation said ≡ awaited)
    → entry ≡ other

-- Each field is the text of what stands in its range.
abbrev pub FieldsStandInRanges : Type 0
FieldsStandInRanges = (line : List ℕ) → fields line ≡ map (text_in line) (field_ranges line)
