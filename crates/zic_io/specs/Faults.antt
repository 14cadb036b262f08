-- The rows with a fault that a list has noted, the lines of their faults in its file, and their records in another.
use Rattle.std.specs.Prelude.{◌≡◌, ◌<◌, ℕ, Bool, decimal, List, [], ◌∷◌, ◌++◌, Option, None, Some, IfSome, MatchOption, if◌then◌else◌, is_some, option_map}
use Rattle.std.specs.Io.KnownBytes.{Appends}
use Rattle.csv.specs.Writing.{default_writer, row_text}
use Rattle.zic_counted.specs.Counts.{Counts}
use Rattle.zic_base.specs.RowFault.{row_kind_word}
use Rattle.zic_base.specs.declared.row_fault.RowFault.{RowFault}
use Rattle.zic_layouts.specs.Noted.{RowNote}
use Rattle.zic_layouts.specs.declared.row_log.FaultDetail.{FaultDetail}
use Rattle.zic_layouts.specs.Layout.{line_end_bytes}
use Rattle.zic_layouts.specs.declared.layout.LineEnd.{LineEnd}
use Rattle.zic_io.specs.declared.fault_line.FaultFields.{FaultFields}

-- the fault of a row that was noted, where there is one
abbrev pub fault_of : Option RowNote → Option RowFault
fault_of noted = option_map (λ (n : RowNote). n.fault) noted

-- the number of the line where a record begins, in decimal; no bytes where it wasn't noted
abbrev pub line_field : Option FaultDetail → List ℕ
line_field None = []
line_field (Some detail) = decimal detail.line

-- the value of the field at fault; no bytes where it wasn't noted
abbrev pub value_field : Option FaultDetail → List ℕ
value_field None = []
value_field (Some detail) = detail.value.items

-- a field, where it is requested, and else none
abbrev pub field_if : Bool → List ℕ → List (List ℕ)
field_if requested field = if requested then field ∷ [] else []

-- the fields of the line of a fault: the number of its row, its name, and the number of the record's line and the value at fault, where they
-- are requested
abbrev pub fault_fields : FaultFields → RowFault → Option FaultDetail → List (List ℕ)
fault_fields fields fault detail = decimal fault.row ∷ row_kind_word fault.kind ∷ field_if fields.line (line_field detail) ++ field_if fields.value (value_field detail)

-- the line of a fault: what a CSV writer writes of its fields, with a line feed at the end (RFC 4180, 2)
abbrev pub fault_line : FaultFields → RowFault → Option FaultDetail → List ℕ
fault_line fields fault detail = row_text default_writer (fault_fields fields fault detail)

-- the line of a fault that was noted, where line and value are left open
abbrev pub IsFaultLine : FaultFields → RowNote → List ℕ → Type 0
IsFaultLine fields note text = (detail : Option FaultDetail) × (text ≡ fault_line fields note.fault detail)

-- the line of a record that was rejected, where its line end is left open: its own bytes, and the line end
abbrev pub IsRecordLine : List ℕ → List ℕ → Type 0
IsRecordLine own text = (line_end : LineEnd) × (text ≡ own ++ line_end_bytes line_end)

-- a text is a line for each row that was noted, in order
abbrev pub AreLines : (RowNote → List ℕ → Type 0) → List RowNote → List ℕ → Type 0
AreLines IsLine [] text = text ≡ []
AreLines IsLine (note ∷ noted) text = (line : List ℕ) × (rest : List ℕ) × (text ≡ line ++ rest) × IsLine note line × AreLines IsLine noted rest

-- the line of a header, by its own bytes; without bytes there is none
abbrev pub header_line : List ℕ → List ℕ
header_line [] = []
header_line (byte ∷ own) = (byte ∷ own) ++ 10 ∷ []

-- What stands before the rejected records: the line of the header, and nothing where there is no record. It is open where the
-- header isn't known, since memory to keep it was refused or it came after a record.
abbrev pub IsHead : Option (List ℕ) → List RowNote → List ℕ → Type 0
IsHead None noted head = Unit {0}
IsHead (Some header) [] head = head ≡ []
IsHead (Some header) (first ∷ noted) head = head ≡ header_line header

-- A file, if there is one, with the count of its failed writes and flushes, and what it held before the first line of the list, where that
-- is known.
pub record ListNotes (W : Type 0) : Type 0 where
  pub file : Option (Counts W)
  pub start : Option (List ℕ)

-- which fields a line has besides the number and the name of a fault, the own bytes of the header before the records, where they are known,
-- the rows with a fault that were noted, the file for the lines of their faults, and that for their records
pub record FaultNotes (W : Type 0) : Type 0 where
  pub fields : FaultFields
  pub header : Option (List ℕ)
  pub noted : List RowNote
  pub faults : ListNotes W
  pub rejects : ListNotes W

-- a file, of which no write or flush has failed yet
abbrev pub unwritten : {W : Type 0} → W → Counts W
unwritten file = record { inner = file; failures = 0; taken = 0 }

-- what a file holds, where there is one and that is known
abbrev pub held_by : {W : Type 0} → (W → Option (List ℕ)) → Option W → Option (List ℕ)
held_by contents None = None
held_by contents (Some file) = contents file

-- a file before anything is written to it
abbrev pub list_for : {W : Type 0} → (W → Option (List ℕ)) → Option W → ListNotes W
list_for contents file = record { file = option_map unwritten file; start = held_by contents file }

-- what a file holds, if there is one and that is known, grew by just this text
abbrev pub HasText : {W : Type 0} → (W → Option (List ℕ)) → Option (List ℕ) → Option (Counts W) → List ℕ → Type 0
HasText contents start file text = IfSome file (λ f. Appends start (contents f.inner) text)

-- what the file of faults holds grew by the lines of just the faults that were noted
abbrev pub HasLines : {W : Type 0} → (W → Option (List ℕ)) → FaultNotes W → Type 0
HasLines contents notes = (text : List ℕ) × AreLines (IsFaultLine notes.fields) notes.noted text × HasText contents notes.faults.start notes.faults.file text

-- what the file of records holds grew by the line of the header, once, and by the lines of just the rejected records
abbrev pub HasRejects : {W : Type 0} → (W → Option (List ℕ)) → FaultNotes W → Type 0
HasRejects contents notes = (head : List ℕ) × (text : List ℕ) × IsHead notes.header notes.noted head × AreLines (λ note. IsRecordLine note.own) notes.noted text
    × HasText contents notes.rejects.start notes.rejects.file (head ++ text)

-- there is a file, and a failure of it was counted
abbrev pub HasFailed : {W : Type 0} → Option (Counts W) → Type 0
HasFailed file = MatchOption file ⊥ (λ f. 0 < f.failures)

-- a file just where there was one, and the same that it held at first
abbrev pub IsSameList : {W : Type 0} → ListNotes W → ListNotes W → Type 0
IsSameList old new = (new.start ≡ old.start) × (is_some new.file ≡ is_some old.file)
