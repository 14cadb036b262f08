-- How a conversion ends, and what is told of it: by what ended the rows, by the faults of rows after which the run went on, and by which of
-- its three lists, that of faults, that of their records and that of the rows of each zone, were written whole.
use Rattle.std.specs.Prelude.{◌≡◌, ◌⊎◌, ◌==◌, ◌-◌, ◌^◌, ℕ, List, Bool, true, false, Option, None, Some, Result, Ok, Err, IsErrAnd, IsTrue, String, string_bytes, length, min, option_map, slice_get}
use Rattle.std.specs.declared.alloc.Global.{Global}
use Rattle.zic_base.specs.declared.row_fault.RowFault.{RowFault}
use Rattle.zic_command_line.specs.declared.command_line.ConvertOptions.{ConvertOptions}
use Rattle.zic_command_line.specs.declared.command_line.Zones.{Zones}
use Rattle.zic_converting.specs.declared.ending.Unwritten.{Unwritten}
use Rattle.zic_converting.specs.declared.ending.Unwritten.TheVariants as lists
use Rattle.zic_converting.specs.declared.ending.Faults.{Faults}
use Rattle.zic_io.specs.Failing.{IsCannotWrite}
use Rattle.zic_io.specs.Faults.{fault_of}
use Rattle.zic_io.specs.declared.failure.Failure.{Failure}
use Rattle.zic_io.specs.declared.failure.Failure.TheVariants as failures
use Rattle.zic_layouts.specs.Noted.{RowNote}
use Rattle.zic_layouts.specs.declared.layout.AtFault.{AtFault}
use Rattle.zic_layouts.specs.declared.layout.AtFault.TheVariants as rules

-- the failure that some faults of rows are, of which this is the first: that their records were rejected, or that they have faults
abbrev pub failure_from : AtFault → RowFault → ℕ → Failure
failure_from rules.Reject first count = failures.Rejected first.row first.kind count
failure_from rules.End first count = failures.Rows first.row first.kind count
failure_from rules.GoOn first count = failures.Rows first.row first.kind count

-- the same where there may be none
abbrev pub failure_by : AtFault → Option RowFault → ℕ → Option Failure
failure_by at_fault None count = None
failure_by at_fault (Some first) count = Some (failure_from at_fault first count)

-- the faults that a list has noted, which are no more than a `u64` can count
abbrev pub faults_in : AtFault → List RowNote → Faults
faults_in at_fault noted = record {
  at_fault = at_fault;
  first = fault_of (slice_get noted 0);
  count = min (length noted) (2 ^ 64 - 1);
}

-- the failure that the faults of rows are after which a run went on, if there are any
abbrev pub failure_of : Faults → Option Failure
failure_of faults = failure_by faults.at_fault faults.first faults.count

-- the run ends well unless there is a failure
abbrev pub ended_by : Option Failure → Result (Unit {0}) Failure
ended_by None = Ok tt
ended_by (Some failure) = Err failure

-- A folder answers a file that is there and can't be read as it answers lack of memory, and notes the path: that is then what ended the rows.
abbrev pub by_unread : Option (String Global) → Result ℕ Failure → Result ℕ Failure
by_unread (Some path) (Err failures.Memory) = Err (failures.CannotRead path)
by_unread _ converted = converted

-- how a run ends: by what ended the rows, or else by the faults after which it went on
abbrev pub ended : Faults → Result ℕ Failure → Result (Unit {0}) Failure
ended faults (Err failure) = Err failure
ended faults (Ok rows) = ended_by (failure_of faults)

-- the failure that is told beside that of a run: the faults of rows before the row that ended it, before more bytes than there may be, or up
-- to the round after which a list could not be written
abbrev pub told_beside : Faults → Result (Unit {0}) Failure → Option Failure
told_beside faults (Err failures.ColumnTooLong) = failure_of faults
told_beside faults (Err (failures.Row row kind)) = failure_of faults
told_beside faults (Err failures.CannotWriteList) = failure_of faults
told_beside faults _ = None

-- A run without faults of rows ended before rows were made: by a fault of the source, a zone that no file has the name of, a file that can't
-- be read, lack of memory or of threads, or by a header that is too long, which is the row 0.
abbrev pub is_before_rows : Result (Unit {0}) Failure → Bool
is_before_rows (Err (failures.Line line kind)) = true
is_before_rows (Err (failures.TextLine text line kind)) = true
is_before_rows (Err (failures.UnknownZone name)) = true
is_before_rows (Err (failures.CannotRead path)) = true
is_before_rows (Err failures.Memory) = true
is_before_rows (Err failures.NoThread) = true
is_before_rows (Err (failures.Row row kind)) = row == 0
is_before_rows _ = false

-- no fault of a row was noted, and the run ended before rows were made
abbrev pub keeps_by : Option RowFault → Result (Unit {0}) Failure → Bool
keeps_by None ended = is_before_rows ended
keeps_by (Some first) ended = false

-- the lists of an earlier run stay as they are
abbrev pub keeps_lists : Faults → Result (Unit {0}) Failure → Bool
keeps_lists faults ended = keeps_by faults.first ended

-- the first list that was not written whole, by whether each was: that of faults comes before that of records, and that of zones last
abbrev pub first_unwritten : Bool → Bool → Bool → Option Unwritten
first_unwritten false rejects summary = Some lists.Faults
first_unwritten true false summary = Some lists.Rejects
first_unwritten true true false = Some lists.Summary
first_unwritten true true true = None

-- a run reports that the list at this path can't be written, or that memory ran out
abbrev pub IsUnwrittenAt : List ℕ → Result (Unit {0}) Failure → Type 0
IsUnwrittenAt path reported = (reported ≡ Err failures.Memory) ⊎ IsErrAnd reported (IsCannotWrite path)

-- What a run reports that ended so, where the list at this path, if there is one, may not be written whole: that it can't be written,
-- whatever ended the run.
abbrev pub IsReport : Result (Unit {0}) Failure → Option (List ℕ) → Result (Unit {0}) Failure → Type 0
IsReport ended None reported = reported ≡ ended
IsReport ended (Some path) reported = IsUnwrittenAt path reported

-- the failure that ended a run, if one did, and it wasn't that of a list: that is reported itself
abbrev pub failure_in : Result (Unit {0}) Failure → Option Failure
failure_in (Ok done) = None
failure_in (Err failures.CannotWriteList) = None
failure_in (Err failure) = Some failure

-- what is told behind the list at this path, if one can't be written: the failure that ended the run, if one did
abbrev pub behind_of : Option (List ℕ) → Result (Unit {0}) Failure → Option Failure
behind_of None ended = None
behind_of (Some path) ended = failure_in ended

-- the path of a list, if there is one
abbrev pub path_of : ConvertOptions → Option Unwritten → Option (List ℕ)
path_of order None = None
path_of order (Some lists.Faults) = option_map string_bytes order.faults
path_of order (Some lists.Rejects) = option_map string_bytes order.rejects
path_of order (Some lists.Summary) = option_map string_bytes order.summary

-- What a run reports that ended so after these faults, and what it tells behind that: a list may not be written whole, but where those of
-- an earlier run stay as they are nothing is written to either.
abbrev pub IsReportOf : ConvertOptions → Faults → Result (Unit {0}) Failure → Result (Unit {0}) Failure → Option Failure → Type 0
IsReportOf order faults ended reported behind =
    (unwritten : Option Unwritten) × (IsTrue (keeps_lists faults ended) → unwritten ≡ None)
    × IsReport ended (path_of order unwritten) reported × (behind ≡ behind_of (path_of order unwritten) ended)

-- the number of rows that were made, where some are left out: those of a run by two releases that ended well
abbrev pub rows_made : Option Zones → Result ℕ Failure → Option ℕ
rows_made (Some old) (Ok rows) = Some rows
rows_made _ _ = None
