-- Whole lines among bytes, where each line is a record.
use Rattle.std.specs.Prelude.{◌≡◌, ◌<◌, ◌≤◌, ℕ, false, List, ◌∷◌, ◌++◌, length, take, drop, MatchOption, All}
use Rattle.zic_columns.specs.Column.{AreWholeRecords, HasNoLineEnd, lines_of}
use Rattle.zic_columns.specs.Lines.{line_records, open_record}
use Rattle.zic_columns.specs.Quotes.{is_open}
use Rattle.zic_columns.specs.declared.line_scan.FirstLine.{FirstLine}
use Rattle.zic_columns.specs.declared.line_scan.FirstLine.TheVariants as first
use Rattle.zic_columns.specs.declared.line_scan.LineScan.{LineScan}
use Rattle.zic_columns.specs.declared.line_scan.OpenLine.{OpenLine}

-- no line is open
abbrev pub AllClosed : ℕ → List ℕ → Type 0
AllClosed delimiter bytes = All (λ line. is_open delimiter line ≡ false) (lines_of bytes)

-- whole records, each of which is one line
pub record AreClosedLines (delimiter : ℕ) (bytes : List ℕ) : Type 0 where
  pub records : AreWholeRecords delimiter bytes
  pub closed : AllClosed delimiter bytes

-- the first line is open, whatever follows
pub record IsOpenLine (delimiter : ℕ) (bytes : List ℕ) (line : OpenLine) : Type 0 where
  pub few : line.own ≤ line.len
  pub within : line.len ≤ length bytes
  pub opens : (more : List ℕ) → line_records delimiter (bytes ++ more) ≡ open_record (take line.own bytes) ∷ line_records delimiter (drop line.len bytes ++ more)

-- the first line of some bytes, with its line end
abbrev pub IsFirstLine : ℕ → List ℕ → FirstLine → Type 0
IsFirstLine delimiter bytes (first.Closed len) = (0 < len) × (len ≤ length bytes) × AreClosedLines delimiter (take len bytes)
IsFirstLine delimiter bytes (first.Open line) = IsOpenLine delimiter bytes line
IsFirstLine delimiter bytes first.Unended = HasNoLineEnd bytes

-- the first `whole` bytes are whole records, each of which is one line, and the others begin with an open line, or have no line end
pub record IsLineScan (delimiter : ℕ) (bytes : List ℕ) (scan : LineScan) : Type 0 where
  pub within : scan.whole ≤ length bytes
  pub closed : AreClosedLines delimiter (take scan.whole bytes)
  pub then : MatchOption scan.opened (HasNoLineEnd (drop scan.whole bytes)) (IsOpenLine delimiter (drop scan.whole bytes))
