-- Rows that were written.
use Rattle.std.specs.Prelude.{◌≡◌, ℕ, ◌+◌, ◌⊎◌, List, [], ◌++◌, length, take, Option, Some, None, option_map}
use Rattle.std.specs.List.{concat}
use Rattle.std.specs.Io.{StartsWith}
use Rattle.std.specs.Io.KnownBytes.{Appends}
use Rattle.zic_columns.specs.Own.{CsvRecord}
use Rattle.zic_columns.specs.Round.{records_of_pieces}
use Rattle.zic_counted.specs.Counts.{Counts, HasFailedSince}
use Rattle.zic_counted.specs.Written.{FailsWithin}
use Rattle.zic_layouts.specs.Noted.{RowNote}
use Rattle.zic_base.specs.declared.row_fault.RowFault.{RowFault}
use Rattle.zic_base.specs.declared.stops.RunStop.{RunStop}
use Rattle.zic_base.specs.declared.stops.RunStop.TheVariants as stop
use Rattle.zic_piece_rows.specs.LayoutRows.{RecordsConvertBy}
use Rattle.zic_convert.specs.By.{By, by_of}
use Rattle.zic_convert.specs.Run.{AreFew, IsOneTooMany, Notes}
use Rattle.zic_piece_rows.specs.PieceRows.{AreRowsOf, RowsOf}
use Rattle.zic_convert.specs.code.Pieces.{Pieces, joined}
use Rattle.zic_convert.specs.declared.tally.Tally.{Tally}

-- what a writer holds, the writer before and after, and what a log had noted and has noted, where that is known
pub record Writing (W : Type 0) : Type 0 where
  pub contents : W → Option (List ℕ)
  pub old : Counts W
  pub new : Counts W
  pub log : Option (List RowNote)
  pub log' : Option (List RowNote)

abbrev pub writing : {W : Type 0} → (W → Option (List ℕ)) → Counts W → Counts W → Option (List RowNote) → Option (List RowNote) → Writing W
writing contents old new log log' = record { contents = contents; old = old; new = new; log = log; log' = log' }

-- records, and the number of the first as a row
pub record Numbered : Type 0 where
  pub first : ℕ
  pub row_records : List CsvRecord

abbrev pub numbered : ℕ → List CsvRecord → Numbered
numbered first row_records = record { first = first; row_records = row_records }

-- the writer's bytes, where they are known, grew by these bytes, and nothing failed
abbrev pub Wrote : {W : Type 0} → (W → Option (List ℕ)) → Counts W → Counts W → List ℕ → Type 0
Wrote contents old new bytes = Appends (contents old.inner) (contents new.inner) bytes × (new.failures ≡ old.failures)

-- they grew by some bytes, perhaps by a beginning of others after these, and then the writer failed
pub record FailsAfter {W : Type 0} (contents : W → Option (List ℕ)) (old new : Counts W) (first all : List ℕ) : Type 0 where
  pub part : List ℕ
  pub starts : StartsWith all part
  pub least : StartsWith part first
  pub wrote : Appends (contents old.inner) (contents new.inner) part
  pub failed : HasFailedSince new old.failures

-- all rows were written, their faults were noted, and this is their count
abbrev pub WroteRows : {W : Type 0} → Writing W → RowsOf → ℕ → Type 0
WroteRows w rows count = (rows.fault ≡ None) × (count ≡ rows.count) × Wrote w.contents w.old w.new rows.text × Notes w.log w.log' rows.faults

-- the rows before one that ends the run were written, and their faults noted
abbrev pub StopsAtRow : {W : Type 0} → Writing W → ℕ → RowsOf → RowFault → Type 0
StopsAtRow w first rows fault =
    (rows.fault ≡ Some fault.kind) × (fault.row ≡ first + rows.count) × Wrote w.contents w.old w.new rows.text × Notes w.log w.log' rows.faults

-- pieces were written up to one that ends the run, or up to where the writer failed, or all of them, and then the log failed
abbrev pub EndsInPieces : {W : Type 0} → Writing W → ℕ → List RowsOf → RunStop → Type 0
EndsInPieces w first pieces (stop.Row row kind) = StopsAtRow w first (joined pieces) (record { row = row; kind = kind })
EndsInPieces w first pieces stop.WriteFailed =
    (i : ℕ) × FailsAfter w.contents w.old w.new (joined (take i pieces)).text (joined pieces).text × Notes w.log w.log' (joined (take i pieces)).faults
EndsInPieces w first pieces stop.LogFailed = WroteRows w (joined pieces) (joined pieces).count
EndsInPieces w first pieces _ = ⊥

-- the stop at a row that ends the run, once what a writer held back was passed on, or the writer failed
abbrev pub IsStopAt : {W : Type 0} → (W → Option (List ℕ)) → Counts W → Counts W → RowFault → RunStop → Type 0
IsStopAt contents old new fault (stop.Row row kind) = (row ≡ fault.row) × (kind ≡ fault.kind) × Wrote contents old new []
IsStopAt contents old new fault stop.WriteFailed = FailsWithin contents old new []
IsStopAt contents old new fault _ = ⊥

-- a header was not written whole: the writer failed, or memory was refused
abbrev pub EndsAtHead : {W : Type 0} → (W → Option (List ℕ)) → Counts W → Counts W → List ℕ → RunStop → Type 0
EndsAtHead contents old new head stop.WriteFailed = FailsWithin contents old new head
EndsAtHead contents old new head stop.Memory = new ≡ old
EndsAtHead contents old new head _ = ⊥

-- of the rows with a fault after which a run goes on, this many are left after these, where there is a limit
abbrev pub IsLeft : Option ℕ → List RowNote → Option ℕ → Type 0
IsLeft limit faults left = limit ≡ option_map (λ n. length faults + n) left

-- the rows of some records
abbrev pub AreRowsBy : By → Numbered → RowsOf → Type 0
AreRowsBy by all rows = AreRowsOf by.layout by.releases by.most_rows all.first all.row_records rows

-- The rows of these records were all written. This is how many they are, and how many more rows with a fault may come.
abbrev pub WritesRecords : {W : Type 0} → By → Writing W → Numbered → Tally → Type 0
WritesRecords by w all tally = (rows : RowsOf) × AreRowsBy by all rows × WroteRows w rows tally.rows × IsLeft by.max_faults rows.faults tally.left

-- what a round is converted by, and its records
abbrev pub round_by : Pieces → Option ℕ → By
round_by p limit = by_of p.layout p.releases p.most limit

abbrev pub round_records : Pieces → Numbered
round_records p = numbered p.first (records_of_pieces p.layout.delimiter p.pieces)

-- those of a round
abbrev pub WritesRound : {W : Type 0} → Pieces → Option ℕ → Writing W → Tally → Type 0
WritesRound p limit w tally = WritesRecords (round_by p limit) w (round_records p) tally

-- Of the rows of these records, those of the first records were written, and their faults, which are few, noted. Then the writer failed,
-- before the row of a record up to which faults are few too.
pub record FailsInRows {W : Type 0} (by : By) (w : Writing W) (all : Numbered) : Type 0 where
  pub done : List CsvRecord
  pub more : List CsvRecord
  pub parts : all.row_records ≡ done ++ more
  pub front : RowsOf
  pub are : AreRowsBy by (numbered all.first done) front
  pub reached : List CsvRecord
  pub beyond : List CsvRecord
  pub within : all.row_records ≡ reached ++ beyond
  pub upto : RowsOf
  pub are_upto : AreRowsBy by (numbered all.first reached) upto
  pub fails : FailsAfter w.contents w.old w.new front.text upto.text
  pub noted : Notes w.log w.log' front.faults
  pub few : AreFew by.max_faults front.faults
  pub may : AreFew by.max_faults upto.faults

-- the rows of these records before one with one fault too many were written, and the faults before it noted
pub record StopsAtFault {W : Type 0} (by : By) (w : Writing W) (all : Numbered) (rows : RowsOf) (fault : RowFault) : Type 0 where
  pub front : List (List ℕ)
  pub rest : List (List ℕ)
  pub come : RecordsConvertBy by.layout by.releases by.most_rows all.first all.row_records (front ++ rest) rows.fault
  pub before : List RowNote
  pub too_many : IsOneTooMany by.max_faults rows.faults fault.row fault.kind before
  pub number : fault.row ≡ all.first + length front
  pub wrote : Wrote w.contents w.old w.new (concat front)
  pub noted : Notes w.log w.log' before

-- the rows of records were written up to one that ends the run, or up to where the writer failed, or all of them, and then the log failed
abbrev pub EndsInRows : {W : Type 0} → By → Writing W → Numbered → RowsOf → RunStop → Type 0
EndsInRows by w all rows (stop.Row row kind) =
    (StopsAtRow w all.first rows (record { row = row; kind = kind }) × AreFew by.max_faults rows.faults) ⊎ StopsAtFault by w all rows (record { row = row; kind = kind })
EndsInRows by w all rows stop.WriteFailed = FailsInRows by w all
EndsInRows by w all rows stop.LogFailed = WroteRows w rows rows.count × AreFew by.max_faults rows.faults
EndsInRows by w all rows _ = ⊥

-- the rows of these records before one that ends the run were written, or the writer or the log failed, or memory ran out
abbrev pub EndsInRecords : {W : Type 0} → By → Writing W → Numbered → RunStop → Type 0
EndsInRecords by w all why =
    ((why ≡ stop.Memory) × (w.new ≡ w.old) × (w.log' ≡ w.log))
    ⊎ ((rows : RowsOf) × AreRowsBy by all rows × EndsInRows by w all rows why)

-- those of a round
abbrev pub EndsInRound : {W : Type 0} → Pieces → Option ℕ → Writing W → RunStop → Type 0
EndsInRound p limit w why = EndsInRecords (round_by p limit) w (round_records p) why

-- among the rows of a round is this one with one fault too many
abbrev pub HasOneTooMany : Pieces → Option ℕ → RowFault → Type 0
HasOneTooMany p limit fault =
    (rows : RowsOf) × AreRowsBy (round_by p limit) (round_records p) rows
    × (before : List RowNote) × IsOneTooMany limit rows.faults fault.row fault.kind before
