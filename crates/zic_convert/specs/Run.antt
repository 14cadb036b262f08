-- How the conversion of a column went: own choice.
use Rattle.std.specs.Prelude.{◌≡◌, ◌≤◌, ◌⊎◌, ℕ, ◌-◌, List, [], ◌∷◌, ◌++◌, length, take, Option, Some, None, IfSome}
use Rattle.std.specs.List.{concat}
use Rattle.std.specs.Io.{StartsWith}
use Rattle.std.specs.Io.KnownBytes.{Appends}
use Rattle.zic_columns.specs.Own.{CsvRecord}
use Rattle.zic_counted.specs.Counts.{Counts}
use Rattle.zic_zones.specs.declared.zones.Releases.{Releases}
use Rattle.zic_base.specs.Growth.{Gains}
use Rattle.zic_layouts.specs.Noted.{RowNote}
use Rattle.zic_base.specs.declared.row_fault.RowFault.{RowFault}
use Rattle.zic_base.specs.declared.row_fault.RowKind.{RowKind}
use Rattle.zic_base.specs.declared.stops.RunStop.{RunStop}
use Rattle.zic_base.specs.declared.stops.RunStop.TheVariants as stop
use Rattle.zic_convert.specs.By.{By}
use Rattle.zic_convert.specs.Column.{AreRowRecords, header_text, names_line}
use Rattle.zic_convert.specs.Convert.{WritesAllOf, WritesUpToOf}
use Rattle.zic_convert.specs.Header.{IsHeaderFault}
use Rattle.zic_piece_rows.specs.LayoutRows.{RecordsConvertBy, faults_by}

-- what the writer held and holds, and what the log had noted of rows with a fault and has noted, where these are known
pub record Output : Type 0 where
  pub held : Option (List ℕ)
  pub held' : Option (List ℕ)
  pub log : Option (List RowNote)
  pub log' : Option (List RowNote)

-- The reader and the writer of a conversion, before it and after it, the column that the reader had left, where it is known, and the output.
pub record Run (R W : Type 0) : Type 0 where
  pub reader : Counts R
  pub reader' : Counts R
  pub writer : Counts W
  pub writer' : Counts W
  pub column : Option (List ℕ)
  pub output : Output

abbrev pub output_of : {W L : Type 0} → (W → Option (List ℕ)) → (L → Option (List RowNote)) → Counts W → Counts W → L → L → Output
output_of contents noted writer writer' log log' = record { held = contents writer.inner; held' = contents writer'.inner; log = noted log; log' = noted log' }

abbrev pub run_of : {R W L : Type 0} → (R → Option (List ℕ)) → (W → Option (List ℕ)) → (L → Option (List RowNote))
    → Counts R → Counts R → Counts W → Counts W → L → L → Run R W
run_of remaining contents noted reader reader' writer writer' log log' = record {
  reader = reader;
  reader' = reader';
  writer = writer;
  writer' = writer';
  column = remaining reader.inner;
  output = output_of contents noted writer writer' log log';
}

-- What a log has noted, where that is known, grew by these rows with a fault.
abbrev pub Notes : Option (List RowNote) → Option (List RowNote) → List RowNote → Type 0
Notes = Gains

-- These rows with a fault are no more than those after which a run goes on; without a limit any number is few.
abbrev pub AreFew : Option ℕ → List RowNote → Type 0
AreFew None faults = Unit {0}
AreFew (Some most) faults = length faults ≤ most

-- A row is the first of those with a fault after which a run doesn't go on: before it come as many as the limit says.
pub record IsOneTooMany (limit : Option ℕ) (faults : List RowNote) (row : ℕ) (kind : RowKind) (before : List RowNote) : Type 0 where
  pub own : List ℕ
  pub after : List RowNote
  pub parts : faults ≡ before ++ record { fault = record { row = row; kind = kind }; own = own } ∷ after
  pub full : limit ≡ Some (length before)

-- A header and all rows of these records were written, there are n rows, and their faults, which are few, were noted.
abbrev pub WritesRows : By → List ℕ → List CsvRecord → ℕ → Output → Type 0
WritesRows by header row_records n out =
    WritesAllOf header (RecordsConvertBy by.layout by.releases by.most_rows 1 row_records) n out.held out.held'
    × Notes out.log out.log' (faults_by by.layout by.releases.zones by.most_rows 1 row_records)
    × AreFew by.max_faults (faults_by by.layout by.releases.zones by.most_rows 1 row_records)

-- A header and the rows before one that ends the conversion were written, and their faults, which are few, were noted.
abbrev pub EndsAtRow : By → List ℕ → List CsvRecord → RowFault → Output → Type 0
EndsAtRow by header row_records fault out =
    WritesUpToOf header (RecordsConvertBy by.layout by.releases by.most_rows 1 row_records) fault.row fault.kind out.held out.held'
    × Notes out.log out.log' (faults_by by.layout by.releases.zones by.most_rows 1 row_records)
    × AreFew by.max_faults (faults_by by.layout by.releases.zones by.most_rows 1 row_records)

-- The conversion ends at a row with one fault too many: a header and the rows before it were written, and the faults before it were noted.
-- Without a limit the records come to these texts, and to one fault that ends the run, or to none.
pub record EndsAtFaults (by : By) (header : List ℕ) (row_records : List CsvRecord) (at : RowFault) (out : Output) : Type 0 where
  pub texts : List (List ℕ)
  pub fault : Option RowKind
  pub come : RecordsConvertBy by.layout by.releases by.most_rows 1 row_records texts fault
  pub before : List RowNote
  pub too_many : IsOneTooMany by.max_faults (faults_by by.layout by.releases.zones by.most_rows 1 row_records) at.row at.kind before
  pub wrote : Appends out.held out.held' (header ++ concat (take (at.row - 1) texts))
  pub noted : Notes out.log out.log' before

-- Some lines were written, of the header and the first rows, and the faults of these rows, which are few, were noted, and no others. Nothing
-- was written after these lines, unless a failure of the writer ended the run: then perhaps a beginning of those that come next, up to some
-- line; the rows up to there have few faults too.
pub record EndsAfterLines (by : By) (header : List ℕ) (row_records : List CsvRecord) (why : RunStop) (out : Output) : Type 0 where
  pub texts : List (List ℕ)
  pub fault : Option RowKind
  pub come : RecordsConvertBy by.layout by.releases by.most_rows 1 row_records texts fault
  pub lines : ℕ
  pub upto : ℕ
  pub part : List ℕ
  pub starts : StartsWith (concat (take upto (header ∷ texts))) part
  pub least : StartsWith part (concat (take lines (header ∷ texts)))
  pub exact : (part ≡ concat (take lines (header ∷ texts))) ⊎ (why ≡ stop.WriteFailed)
  pub wrote : Appends out.held out.held' part
  pub noted : Notes out.log out.log' (faults_by by.layout by.releases.zones by.most_rows 1 (take (lines - 1) row_records))
  pub few : AreFew by.max_faults (faults_by by.layout by.releases.zones by.most_rows 1 (take (lines - 1) row_records))
  pub may : AreFew by.max_faults (faults_by by.layout by.releases.zones by.most_rows 1 (take (upto - 1) row_records))

-- how a conversion ends early: at a row that ends it or has one fault too many, or for another cause, but never for a fault of a source
abbrev pub EndsIn : By → List ℕ → List CsvRecord → RunStop → Output → Type 0
EndsIn by header row_records (stop.Row row kind) out =
    EndsAtRow by header row_records (record { row = row; kind = kind }) out ⊎ EndsAtFaults by header row_records (record { row = row; kind = kind }) out
EndsIn by header row_records (stop.Source fault) out = ⊥
EndsIn by header row_records why out = EndsAfterLines by header row_records why out

-- the column's header has no fault, all rows were written, there are n, and their faults, which are few, were noted
abbrev pub ConvertsAllBy : {R W : Type 0} → By → ℕ → Run R W → Type 0
ConvertsAllBy by n run = IfSome run.column (λ column. IsHeaderFault by column None
    × (row_records : List CsvRecord) × AreRowRecords by.layout column row_records × WritesRows by (header_text by column) row_records n run.output)

-- all of the line of names was written, if there is to be one, and perhaps more
abbrev pub HasNames : By → Output → Type 0
HasNames by out = (rest : List ℕ) × Appends out.held out.held' (names_line by.layout by.releases.old ++ rest)

-- The header has a fault, as row 0: the conversion ends there. Nothing was written but these bytes, and no fault was noted.
pub record EndsAtHeader (by : By) (column : List ℕ) (why : RunStop) (bytes : List ℕ) (out : Output) : Type 0 where
  pub kind : RowKind
  pub is : why ≡ stop.Row 0 kind
  pub fault : IsHeaderFault by column (Some kind)
  pub wrote : Appends out.held out.held' bytes
  pub noted : Notes out.log out.log' []

-- The run ended before its rows, and at none of them: nothing was written but these bytes, and no fault was noted.
pub record EndsBeforeRows (why : RunStop) (bytes : List ℕ) (out : Output) : Type 0 where
  pub at_no_row : (row : ℕ) (kind : RowKind) → why ≡ stop.Row row kind → ⊥
  pub wrote : Appends out.held out.held' bytes
  pub noted : Notes out.log out.log' []

-- the column's header has no fault, or the run ended before its rows, when only these bytes were written
abbrev pub PassesHeader : By → List ℕ → RunStop → List ℕ → Output → Type 0
PassesHeader by column why bytes out = IsHeaderFault by column None ⊎ EndsBeforeRows why bytes out

-- the conversion of the column ended early, after the line of names: at the header, or later
abbrev pub EndsBy : {R W : Type 0} → By → RunStop → Run R W → Type 0
EndsBy by why run = IfSome run.column (λ column.
    EndsAtHeader by column why (names_line by.layout by.releases.old) run.output
    ⊎ (PassesHeader by column why (names_line by.layout by.releases.old) run.output
    × (row_records : List CsvRecord) × AreRowRecords by.layout column row_records × EndsIn by (header_text by column) row_records why run.output × HasNames by run.output))

-- the log began with the own bytes of such a header of the column, where both are known
abbrev pub LogBegan : (List ℕ → List ℕ) → Option (List ℕ) → Option (List ℕ) → Type 0
LogBegan header known began = IfSome known (λ column. IfSome began (λ own. own ≡ header column))

-- This line of names could not be written: nothing was read of the column, and no fault was noted.
pub record EndsAtNames {R W : Type 0} (line : List ℕ) (why : RunStop) (run : Run R W) : Type 0 where
  pub is : why ≡ stop.WriteFailed
  pub unread : run.reader' ≡ run.reader
  pub unnoted : run.output.log' ≡ run.output.log
  pub part : List ℕ
  pub starts : StartsWith line part
  pub wrote : Appends run.output.held run.output.held' part

-- The zones grew as names were requested, until the end or until memory was refused. By all releases that rows may be made by then, `Ends`
-- holds.
pub record EndsByZones {Z : Type 0} (Grows Breaks : Z → Z → Type 0) (MayBe : Z → Releases → Type 0) (old new : Z) (why : RunStop) (Ends : Releases → Type 0) : Type 0 where
  pub then : Z
  pub grown : Grows old then
  pub ends : (new ≡ then) ⊎ ((why ≡ stop.Memory) × Breaks then new)
  pub by : (releases : Releases) → MayBe then releases → Ends releases
