-- The lines of `diff --summary`: own choice.
use Rattle.std.specs.Prelude.{ℕ, ℤ, codes, if◌then◌else◌, int_le, List, [], ◌∷◌, ◌++◌, Option, Some, None}
use Rattle.std.specs.Ordering.{int_eq}
use Rattle.zic_base.specs.Digits.{offset_text}
use Rattle.zic_base.specs.State.{Shown}
use Rattle.zic_compare.specs.InstantText.{instant_text}
use Rattle.zic_compare.specs.declared.sides.Style.{Style}
use Rattle.zic_compare.specs.declared.sides.Survey.{Survey}
use Rattle.zic_compare.specs.declared.summary.Summary.{Summary}
use Rattle.zic_tzif.specs.Answer.{answered}

-- the names of the fields
abbrev pub summary_names_line : List ℕ
summary_names_line = codes "zone,from,until,old_offset,new_offset,kind\n"

-- the first instant at which files differ, which is empty where they do at the first of all that are looked at
abbrev pub summary_from : Survey → Summary → List ℕ
summary_from survey summary = if int_eq summary.from survey.since then [] else instant_text survey.style summary.from

-- the instant from which on they agree for ever, if there is one
abbrev pub summary_until : Style → Option ℤ → List ℕ
summary_until style None = []
summary_until style (Some until) = instant_text style until

-- the UT offset of an answer, which is empty where local time is left open
abbrev pub offset_field : Option Shown → List ℕ
offset_field None = []
offset_field (Some state) = offset_text state.offset

-- whether that isn't after now, or is, or never comes
abbrev pub summary_kind : ℤ → Option ℤ → List ℕ
summary_kind now None = codes "forever"
summary_kind now (Some until) = if int_le until now then codes "past" else codes "future"

-- the line of a name that has two files, with the UT offset that each of them has at the first difference
abbrev pub summary_line : Survey → List ℕ → Summary → List ℕ
summary_line survey name summary =
    name ++ 44 ∷ (summary_from survey summary ++ 44 ∷ (summary_until survey.style summary.until ++ 44 ∷ (offset_field (answered summary.old)
    ++ 44 ∷ (offset_field (answered summary.new) ++ 44 ∷ (summary_kind survey.present summary.until ++ 10 ∷ [])))))

-- the line of a name that has one, with a word for which
abbrev pub lone_line : List ℕ → List ℕ → List ℕ
lone_line name kind = name ++ (codes ",,,,," ++ (kind ++ 10 ∷ []))
