-- Which part of a line is underlined: own choice.
use Rattle.std.specs.Prelude.{◌≡◌, ℕ, List, Option, IfSome, slice_get}
use Rattle.zic_explain.specs.declared.shown.Span.{Span}
use Rattle.zic_lines.specs.declared.field.FieldRange.{FieldRange}

-- where a fault is about the field of this number, what stands in its range
abbrev pub IsUnderlined : Option ℕ → List FieldRange → Span → Type 0
IsUnderlined number ranges span =
    IfSome number (λ at. IfSome (slice_get ranges at) (λ range. (span.start ≡ range.start) × (span.end ≡ range.end)))
