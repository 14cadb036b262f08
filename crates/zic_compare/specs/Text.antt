-- The lines of `diff`: own choice, with the fields of an answer as rows have them.
use Rattle.std.specs.Prelude.{ℕ, pos, ◌+ℤ◌, codes, if◌then◌else◌, List, [], ◌∷◌, ◌++◌, Option, Some, None}
use Rattle.std.specs.Ordering.{int_eq}
use Rattle.zic_base.specs.Digits.{offset_text}
use Rattle.zic_base.specs.State.{Shown}
use Rattle.zic_compare.specs.InstantText.{instant_text}
use Rattle.zic_layouts.specs.declared.compared.Compared.{Compared}
use Rattle.zic_compare.specs.declared.sides.Comparison.{Comparison}
use Rattle.zic_compare.specs.declared.difference.Difference.{Difference}
use Rattle.zic_tzif.specs.Answer.{answered}

-- the names of the fields
abbrev pub names_line : List ℕ
names_line = codes "zone,from,until,old_offset,old_daylight,old_abbreviation,new_offset,new_daylight,new_abbreviation\n"

-- lines with those names before them, if there are any
abbrev pub with_names : List ℕ → List ℕ → List ℕ
with_names names [] = []
with_names names (byte ∷ lines) = names ++ byte ∷ lines

-- a daylight flag, which is empty where it isn't compared
abbrev pub flag_field : Compared → Shown → List ℕ
flag_field compared state = if compared.daylight then (if state.daylight then 49 else 48) ∷ [] else []

-- the offset, the flag and the abbreviation of an answer, each after a comma; all are empty where local time is left open, or there is no file
abbrev pub answer_fields : Compared → Option Shown → List ℕ
answer_fields compared None = codes ",,,"
answer_fields compared (Some state) = 44 ∷ (offset_text state.offset ++ 44 ∷ (flag_field compared state ++ 44 ∷ state.name))

-- a line: a name, an instant from which on and one until which, and two answers
abbrev pub line : Compared → List ℕ → List ℕ → List ℕ → Option Shown → Option Shown → List ℕ
line compared name from until old new =
    name ++ 44 ∷ (from ++ 44 ∷ (until ++ (answer_fields compared old ++ (answer_fields compared new ++ 10 ∷ []))))

-- the first instant of a span, and the one after its last; they are empty at the bounds, beyond which the span may go on
abbrev pub from_field : Comparison → Difference → List ℕ
from_field how d = if int_eq d.instants.first how.bounds.first then [] else instant_text how.style d.instants.first

abbrev pub until_field : Comparison → Difference → List ℕ
until_field how d = if int_eq d.instants.last how.bounds.last then [] else instant_text how.style (d.instants.last +ℤ pos 1)

-- the line of a span of a name
abbrev pub span_line : Comparison → List ℕ → Difference → List ℕ
span_line how name d = line how.compared name (from_field how d) (until_field how d) (answered d.old) (answered d.new)
