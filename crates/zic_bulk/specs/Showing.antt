-- The text that `show` prints: own choice.
use Rattle.std.specs.Prelude.{◌≡◌, ℕ, ℤ, ◌+ℤ◌, if◌then◌else◌, codes, List, [], ◌∷◌, ◌++◌, Option, Some, None, MatchOption}
use Rattle.std.specs.Fmt.{signed_decimal}
use Rattle.std.specs.Int.{saturate_signed, w64}
use Rattle.zic_base.specs.Digits.{offset_text}
use Rattle.zic_base.specs.State.{Shown}
use Rattle.zic_tzif.specs.Content.{Content}
use Rattle.zic_tzif.specs.Answer.{Answers}
use Rattle.zic_tzif.specs.Reading.{IsFile}
use Rattle.zic_local.specs.LocalTime.{AnswersLocal}
use Rattle.zic_local.specs.declared.local_time.Gap.{Gap}
use Rattle.zic_local.specs.declared.local_time.LocalInstants.{LocalInstants}
use Rattle.zic_local.specs.declared.local_time.LocalInstants.TheVariants as instants
use Rattle.zic_local.specs.Due.{IsNeverDue, IsNext}
use Rattle.zic_local.specs.declared.schedule.Schedule.{Schedule}
use Rattle.zic_bulk.specs.declared.show_next_command.TheConstants.{NEXT_WITHIN}

-- a state's offset, flag and abbreviation between spaces, and a newline
abbrev pub state_line : Shown → List ℕ
state_line state =
    offset_text state.offset ++ 32 ∷ (if state.daylight then 49 else 48) ∷ 32 ∷ (state.name ++ 10 ∷ [])

-- that line for what a file answers, or the word for local time that it leaves open
abbrev pub answer_line : Option Shown → List ℕ
answer_line (Some state) = state_line state
answer_line None = codes "unspecified" ++ 10 ∷ []

-- the line that `show` prints for the bytes of a file and an instant
pub record IsShowing (bytes : List ℕ) (instant : ℤ) (line : List ℕ) : Type 0 where
  pub content : Content
  pub is_file : IsFile bytes content
  pub answer : Option Shown
  pub answers : Answers content instant answer
  pub is_line : line ≡ answer_line answer

-- an instant, and what a file answers there
pub record IsInstantLine (content : Content) (instant : ℤ) (line : List ℕ) : Type 0 where
  pub answer : Option Shown
  pub answers : Answers content instant answer
  pub is_line : line ≡ signed_decimal instant ++ 32 ∷ answer_line answer

-- a gap: the instant of its change, and the UT offsets before and after it
abbrev pub gap_line : Gap → List ℕ
gap_line gap = codes "gap " ++ (signed_decimal gap.change ++ 32 ∷ (offset_text gap.before ++ 32 ∷ (offset_text gap.after ++ 10 ∷ [])))

-- the lines for a local time: one for its instant, or one for the first of several and one for the last; the gap that it is in; or the word for
-- local time that a file leaves open
abbrev pub AreLines : Content → LocalInstants → List ℕ → Type 0
AreLines content (instants.Gap gap) lines = lines ≡ gap_line gap
AreLines content (instants.One t) lines = IsInstantLine content t lines
AreLines content (instants.Fold fold) lines =
    (first last : List ℕ) × IsInstantLine content fold.first first × IsInstantLine content fold.last last × (lines ≡ first ++ last)
AreLines content instants.Unspecified lines = lines ≡ codes "unspecified" ++ 10 ∷ []

-- the lines that `show --local` prints for the bytes of a file and a local time
pub record IsShowingLocal (bytes : List ℕ) (local : ℤ) (lines : List ℕ) : Type 0 where
  pub content : Content
  pub is_file : IsFile bytes content
  pub found : LocalInstants
  pub is_found : AnswersLocal content local found
  pub are_lines : AreLines content found lines

-- the last instant that `show --next` looks at: 366 days after another, or the last of 64 bits
abbrev pub last_looked_at : ℤ → ℤ
last_looked_at after = saturate_signed w64 (after +ℤ NEXT_WITHIN)

-- the line for the next instant, or the word where there is none
abbrev pub IsNextLine : Content → Option ℤ → List ℕ → Type 0
IsNextLine content (Some t) line = IsInstantLine content t line
IsNextLine content None line = line ≡ codes "unspecified" ++ 10 ∷ []

-- the line that `show --next` prints for the bytes of a file, a schedule and an instant after which it's due
pub record IsShowingNext (bytes : List ℕ) (schedule : Schedule) (after : ℤ) (line : List ℕ) : Type 0 where
  pub content : Content
  pub is_file : IsFile bytes content
  pub found : Option ℤ
  pub is_found : MatchOption found (IsNeverDue content schedule after (last_looked_at after)) (IsNext content schedule after (last_looked_at after))
  pub is_line : IsNextLine content found line
