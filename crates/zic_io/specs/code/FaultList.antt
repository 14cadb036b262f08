-- The fields of a list of faults, and of its files.
use Rattle.std.specs.Prelude.{◌≡◌, ◌++◌, ◌-◌, ◌^◌, ℕ, true, false, List, Option, None, Some, length, min, option_map, slice_get}
use Rattle.std.specs.Global.{Vec}
use Rattle.zic_base.specs.declared.row_fault.RowFault.{RowFault}
use Rattle.zic_layouts.specs.Noted.{RowNote}
use Rattle.zic_io.specs.Faults.{AreLines, FaultNotes, HasFailed, HasText, IsHead, IsRecordLine, ListNotes, fault_of, header_line}
use Rattle.zic_io.specs.declared.fault_line.FaultFields.{FaultFields}
use Rattle.zic_io.specs.declared.list_output.ListOutput.{ListOutput}

-- the text of a file as long as no write or flush fails, and why no more is written
pub record IsFileOf {W : Type 0} (contents : W → Option (List ℕ)) (start : Option (List ℕ)) (text : List ℕ) (output : ListOutput W) : Type 0 where
  pub written : output.has_failed ≡ false → HasText contents start output.file text
  pub failed : output.has_failed ≡ true → HasFailed output.file

-- a text was added, unless a write failed
abbrev pub Gets : {W : Type 0} → (W → Option (List ℕ)) → List ℕ → ListOutput W → ListOutput W → Type 0
Gets contents text old new =
    (start : Option (List ℕ)) (before : List ℕ) → IsFileOf contents start before old → IsFileOf contents start (before ++ text) new

-- the text of a file is a line for each row that was noted, as long as no write or flush fails
pub record IsFileFor {W : Type 0} (contents : W → Option (List ℕ)) (IsLine : RowNote → List ℕ → Type 0) (noted : List RowNote) (start : Option (List ℕ)) (output : ListOutput W) : Type 0 where
  pub text : List ℕ
  pub are_lines : AreLines IsLine noted text
  pub is_file : IsFileOf contents start text output

-- the text of the file of records is the line of the header and then a line for each record, as long as no write or flush fails
pub record IsFileOfRecords {W : Type 0} (contents : W → Option (List ℕ)) (header : Option (List ℕ)) (noted : List RowNote) (start : Option (List ℕ)) (output : ListOutput W) : Type 0 where
  pub head : List ℕ
  pub text : List ℕ
  pub is_head : IsHead header noted head
  pub are_lines : AreLines (λ note. IsRecordLine note.own) noted text
  pub is_file : IsFileOf contents start (head ++ text) output

-- the own bytes of a header that is kept
abbrev pub kept : Option (Vec ℕ) → Option (List ℕ)
kept header = option_map (λ (v : Vec ℕ). v.items) header

-- the line of a header was added, if it is known and there is no first fault yet, and else nothing
abbrev pub GetsHeader : {W : Type 0} → (W → Option (List ℕ)) → Option RowFault → Option (List ℕ) → ListOutput W → ListOutput W → Type 0
GetsHeader contents None (Some header) old new = Gets contents (header_line header) old new
GetsHeader contents None None old new = new ≡ old
GetsHeader contents (Some first) header old new = new ≡ old

-- what clauses see of a file
abbrev pub list_of : {W : Type 0} → Option (List ℕ) → ListOutput W → ListNotes W
list_of start output = record { file = output.file; start = start }

-- what clauses see of a list
abbrev pub notes_of : {W : Type 0} → FaultFields → Option (List ℕ) → List RowNote → ListNotes W → ListNotes W → FaultNotes W
notes_of fields header noted faults rejects = record { fields = fields; header = header; noted = noted; faults = faults; rejects = rejects }

-- the first fault, and the number of faults
pub record AreFieldsOf (noted : List RowNote) (first : Option RowFault) (count : ℕ) : Type 0 where
  pub is_first : first ≡ fault_of (slice_get noted 0)
  pub is_count : count ≡ min (length noted) (2 ^ 64 - 1)
