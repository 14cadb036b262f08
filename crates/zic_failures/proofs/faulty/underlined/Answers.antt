use Rattle.std.proofs.Common.{◌≡◌, ℕ, List, subst}
use Rattle.std.specs.Prelude.{Option, Some, None, IfSome}
use Rattle.zic_explain.specs.declared.shown.Span.{Span}
use Rattle.zic_lines.specs.declared.field.FieldRange.{FieldRange}
use Rattle.zic_failures.specs.Underlined.{IsUnderlined}
use Rattle.zic_failures.proofs.faulty.underlined.Goals as goal

-- what is underlined for a number is underlined where the first check to fail has that number
carried : (first number : Option ℕ) (ranges : List FieldRange) (span : Span) → IfSome first (λ at. number ≡ Some at)
    → IsUnderlined number ranges span → IsUnderlined first ranges span
carried None number ranges span is under = tt
carried (Some at) number ranges span is under = subst (λ (o : Option ℕ). IsUnderlined o ranges span) is under

pub returns : goal.returns
returns c = carried _ c.faulty_number-number.result _ _ c.faulty_number-number.ensures c.part_of.ensures
