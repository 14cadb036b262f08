-- The text of `diff` for two lists of files: own choice.
use Rattle.std.specs.Prelude.{◌≡◌, ◌≢◌, ◌⊎◌, ⊤, ℕ, ◌≤ℤ◌, codes, List, [], ◌++◌, Option, None, All, Any, Contains, MatchOption}
use Rattle.std.specs.List.{AllZip, flat_map}
use Rattle.zic_base.specs.State.{Shown}
use Rattle.zic_compare.specs.Answers.{pair, IsSeenAt}
use Rattle.zic_compare.specs.Differences.{AreDifferences}
use Rattle.zic_compare.specs.Groups.{zone_field}
use Rattle.zic_compare.specs.Refused.{RefusedNames, refused_lines}
use Rattle.zic_compare.specs.Summary.{AgreeFrom, IsSummary}
use Rattle.zic_compare.specs.SummaryText.{lone_line, summary_line, summary_names_line}
use Rattle.zic_compare.specs.Text.{line, names_line, span_line, with_names}
use Rattle.zic_compare.specs.declared.sides.Comparison.{Comparison}
use Rattle.zic_compare.specs.declared.difference.Difference.{Difference}
use Rattle.zic_compare.specs.declared.sides.Grouping.{Grouping}
use Rattle.zic_compare.specs.declared.sides.Listed.{Listed}
use Rattle.zic_compare.specs.declared.sides.Listed.TheVariants as listed
use Rattle.zic_compare.specs.declared.sides.Survey.{Survey}
use Rattle.zic_compare.specs.declared.summary.Summary.{Summary}
use Rattle.zic_files.specs.File.{File}
use Rattle.zic_tzif.specs.Content.{Content}

-- the bounds of spans have an instant
abbrev pub HasInstants : Listed → Type 0
HasInstants (listed.Spans how) = how.bounds.first ≤ℤ how.bounds.last
HasInstants (listed.Summaries survey) = ⊤

-- the names of the fields of lines
abbrev pub names_of : Listed → List ℕ
names_of (listed.Spans how) = names_line
names_of (listed.Summaries survey) = summary_names_line

-- whether names share their lines
abbrev pub grouping_of : Listed → Grouping
grouping_of (listed.Spans how) = how.grouping
grouping_of (listed.Summaries survey) = survey.grouping

-- the lines of a name's spans: one for each longest span at which each of its two files gives one answer, and the two answers differ
pub record AreSpanLines (how : Comparison) (name : List ℕ) (old new : Content) (lines : List ℕ) : Type 0 where
  pub differences : List Difference
  pub are : AreDifferences (pair old new how.compared) how.bounds differences
  pub are_lines : lines ≡ flat_map (span_line how name) differences

-- the line of its summary, and none where its two files never differ
abbrev pub IsSummaryLine : Survey → List ℕ → Content → Content → List ℕ → Type 0
IsSummaryLine survey name old new lines =
    (AgreeFrom (pair old new survey.compared) survey.since × (lines ≡ []))
    ⊎ ((summary : Summary) × IsSummary (pair old new survey.compared) survey.since summary × (lines ≡ summary_line survey name summary))

-- the lines of a name that has two files
abbrev pub AreLinesOfBoth : Listed → List ℕ → Content → Content → List ℕ → Type 0
AreLinesOfBoth (listed.Spans how) name old new lines = AreSpanLines how name old new lines
AreLinesOfBoth (listed.Summaries survey) name old new lines = IsSummaryLine survey name old new lines

-- the line of a name that only the old files have, with what its file answers at the first instant of the bounds of spans
abbrev pub IsLineOfOld : Listed → List ℕ → Content → List ℕ → Type 0
IsLineOfOld (listed.Spans how) name content lines =
    (state : Option Shown) × IsSeenAt how.compared content how.bounds.first state × (lines ≡ line how.compared name [] [] state None)
IsLineOfOld (listed.Summaries survey) name content lines = lines ≡ lone_line name (codes "removed")

-- and of one that only the new files have
abbrev pub IsLineOfNew : Listed → List ℕ → Content → List ℕ → Type 0
IsLineOfNew (listed.Spans how) name content lines =
    (state : Option Shown) × IsSeenAt how.compared content how.bounds.first state × (lines ≡ line how.compared name [] [] None state)
IsLineOfNew (listed.Summaries survey) name content lines = lines ≡ lone_line name (codes "added")

-- no file has the name
abbrev pub HasNone : List File → List ℕ → Type 0
HasNone files name = All (λ file. file.name ≢ name) files

-- the lines of an old file by the new files, with this first field
abbrev pub AreLinesOfOldUnder : Listed → List File → File → List ℕ → List ℕ → Type 0
AreLinesOfOldUnder how new file lines zone =
    ((other : File) × Contains new other × (other.name ≡ file.name) × AreLinesOfBoth how zone file.image.content other.image.content lines)
    ⊎ (HasNone new file.name × IsLineOfOld how zone file.image.content lines)

-- those of an old file: none where it shares those of an earlier one
abbrev pub AreLinesOfOld : Listed → List File → List File → File → List ℕ → Type 0
AreLinesOfOld how old new file lines = MatchOption (zone_field (grouping_of how) old new file) (lines ≡ []) (AreLinesOfOldUnder how new file lines)

-- those of a new file: none where the old ones have its name, or it shares those of an earlier one
abbrev pub AreLinesOfNew : Listed → List File → List File → File → List ℕ → Type 0
AreLinesOfNew how old new file lines =
    (Any (λ other. other.name ≡ file.name) old × (lines ≡ []))
    ⊎ (HasNone old file.name × MatchOption (zone_field (grouping_of how) new old file) (lines ≡ []) (λ zone. IsLineOfNew how zone file.image.content lines))

-- The lines of all old files in their order, then those of the new files whose names they don't have, and then those of the files that are
-- refused. Before the first line come the names of the fields; where there is no line, the text is empty.
pub record IsDiff (how : Listed) (old new : List File) (refused : RefusedNames) (text : List ℕ) : Type 0 where
  pub of_old : List (List ℕ)
  pub each_old : AllZip (AreLinesOfOld how old new) old of_old
  pub of_new : List (List ℕ)
  pub each_new : AllZip (AreLinesOfNew how old new) new of_new
  pub is_text : text
      ≡ with_names (names_of how) ((flat_map (λ lines. lines) of_old ++ flat_map (λ lines. lines) of_new) ++ refused_lines how refused)
