-- The rows of a column's records: own choice. A record has a zone's name and an instant. Its row has the text of what the file
-- of that name answers at the instant, or a fault.
use Rattle.std.specs.Prelude.{◌≡◌, ℕ, ◌+◌, nat_le, ◌==◌, Bool, true, false, ◌&&◌, ℤ, int_le, List, [], ◌∷◌, length, Option, Some, None, is_some, IsSome, Contains}
use Rattle.zic_base.specs.Check.{Check, check, first_failed}
use Rattle.zic_base.specs.State.{Shown}
use Rattle.zic_tzif.specs.Answer.{Answers}
use Rattle.zic_row_text.specs.Instant.{instant_of}
use Rattle.zic_row_text.specs.declared.count.TheConstants.{FIRST_INSTANT, LAST_INSTANT}
use Rattle.zic_row_text.specs.Row.{row_text}
use Rattle.zic_files.specs.File.{File}
use Rattle.zic_zones.specs.Zones.{is_named}
use Rattle.zic_base.specs.declared.row_fault.RowKind.{RowKind}
use Rattle.zic_base.specs.declared.row_fault.RowKind.TheVariants as kind

-- the zone's name in a record of two fields, and its instant
abbrev pub name_in : List (List ℕ) → List ℕ
name_in (name ∷ instant ∷ []) = name
name_in _ = []

abbrev pub instant_in : List (List ℕ) → Option ℤ
instant_in (name ∷ instant ∷ []) = instant_of instant
instant_in _ = None

-- a row may have this instant
abbrev pub is_row_instant : Option ℤ → Bool
is_row_instant None = false
is_row_instant (Some instant) = int_le FIRST_INSTANT instant && int_le instant LAST_INSTANT

-- the record has a field: only one of an open line has none
abbrev pub is_closed : List (List ℕ) → Bool
is_closed [] = false
is_closed (field ∷ fields) = true

-- The checks of a row in order: there may be as many rows, its record has no more bytes than it may have, the double quotes of its record
-- are closed, its record has the right number of fields, its zone is known, its field has an instant, or has this fault, and a row may
-- have that instant.
abbrev pub row_checks : (may_be short closed has_fields has_zone has_instant : Bool) → RowKind → (is_within : Bool) → List (Check RowKind)
row_checks may_be short closed has_fields has_zone has_instant fault is_within =
    check may_be kind.TooManyRows
    ∷ check short kind.RowTooLong
    ∷ check closed kind.RowQuote
    ∷ check has_fields kind.RowFields
    ∷ check has_zone kind.RowZone
    ∷ check has_instant fault
    ∷ check is_within kind.RowRange
    ∷ []

-- the checks of a record of any length as the row of a number, where there is a greatest number of rows
abbrev pub checks : List File → ℕ → ℕ → List (List ℕ) → List (Check RowKind)
checks files most number fields =
    row_checks (nat_le number most) true (is_closed fields) (length fields == 2) (is_named files (name_in fields)) (is_some (instant_in fields)) kind.RowInstant (is_row_instant (instant_in fields))

-- the fault of a row: of the first check that fails, or none
abbrev pub fault_of : List File → ℕ → ℕ → List (List ℕ) → Option RowKind
fault_of files most number fields = first_failed (checks files most number fields)

-- the text of a record's row: the name, the instant, and the state that the file of that name answers there
pub record IsTextOf (files : List File) (fields : List (List ℕ)) (text : List ℕ) : Type 0 where
  pub file : File
  pub among : Contains files file
  pub named : file.name ≡ name_in fields
  pub instant : ℤ
  pub says : instant_in fields ≡ Some instant
  pub state : Shown
  pub answers : Answers file.image.content instant (Some state)
  pub is : text ≡ row_text file.name instant state

-- The outcome of records, the first of which is the row of this number: the texts of the rows up to the first that has a fault, and that
-- fault, or none.
abbrev pub RecordsConvertTo : List File → ℕ → ℕ → List (List (List ℕ)) → List (List ℕ) → Option RowKind → Type 0
RecordsConvertTo files most number [] texts fault = (texts ≡ []) × (fault ≡ None)
RecordsConvertTo files most number (fields ∷ records) [] fault = (fault ≡ fault_of files most number fields) × IsSome fault
RecordsConvertTo files most number (fields ∷ records) (text ∷ texts) fault =
    (fault_of files most number fields ≡ None) × IsTextOf files fields text × RecordsConvertTo files most (number + 1) records texts fault
