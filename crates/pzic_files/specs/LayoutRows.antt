-- What the calls on rows by a layout return. Own choice.
use Rattle.std.specs.Prelude.{◌≡◌, ◌⊎◌, ℕ, ◌<◌, ◌≤◌, ℤ, List, [], ◌∷◌, ◌++◌, length, map, Option, Some, None, IsSomeAnd}
use Rattle.zic_convert.specs.By.{by_of}
use Rattle.zic_convert.specs.Memory.{IsConvertedTo}
use Rattle.zic_convert.specs.declared.memory.LayoutRows.{LayoutRows}
use Rattle.zic_files.specs.File.{File}
use Rattle.zic_base.specs.RowFault.{row_kind_number}
use Rattle.zic_base.specs.declared.row_fault.RowFault.{RowFault}
use Rattle.zic_layouts.specs.declared.layout.Layout.{Layout}
use Rattle.zic_layouts.specs.Noted.{RowNote}
use Rattle.zic_layouts.specs.declared.plan.TheConstants.{MAX_BYTES, MAX_ROWS}
use Rattle.zic_zones.specs.Zones.{alone}
use Rattle.pzic_zones.specs.Handle.{rows_of}
use Rattle.pzic_files.specs.Layout.{HasNoLayout, IsLayoutOf}
use Rattle.pzic_files.specs.Text.{overwritten}
use Rattle.pzic_zones.specs.declared.held.Held.{Held}
use Rattle.pzic_files.specs.declared.row_layout.RowLayout.{RowLayout}
use Rattle.pzic_zones.specs.declared.column.Made.{Made}
use Rattle.pzic_zones.specs.declared.column.RowFault as made
use Rattle.pzic_zones.specs.declared.status.TheConstants.{OK, NO_MEMORY, LENGTHS, NO_SUCH, BAD_ROW}

-- a fault as C sees it: its row and the number of its kind
abbrev pub fault_seen : RowFault → made.RowFault
fault_seen fault = record { row = fault.row; kind = row_kind_number fault.kind }

abbrev pub note_seen : RowNote → made.RowFault
note_seen note = fault_seen note.fault

-- the rows with a fault, and last the one that ends the run
abbrev pub faults_with_end : List RowNote → Option RowFault → List RowNote
faults_with_end faults None = faults
faults_with_end faults (Some fault) = faults ++ record { fault = fault; own = [] } ∷ []

-- the status of rows that a fault ended, or none did
abbrev pub status_of_end : Option RowFault → ℤ
status_of_end None = OK
status_of_end (Some fault) = BAD_ROW

-- They are the header and the rows of the column by the layout, up to the first that ends the run, and the faults; the header is row 0.
abbrev pub AreMadeBy : List File → Layout → List ℕ → ℤ → Made → Type 0
AreMadeBy files layout column status made =
    (rows : LayoutRows) × IsConvertedTo (by_of layout (alone files) MAX_ROWS None) column rows × (made.text ≡ rows.text) × (made.count ≡ rows.count)
    × (made.faults.items ≡ map note_seen (faults_with_end rows.faults.items rows.fault)) × (status ≡ status_of_end rows.fault)

-- The handle holds them, or nothing, since memory ran out.
abbrev pub AreRowsBy : List File → Layout → List ℕ → ℤ → Option Held → Type 0
AreRowsBy files layout column status (Some held) = IsSomeAnd (rows_of held) (AreMadeBy files layout column status)
AreRowsBy files layout column status None = status ≡ NO_MEMORY

-- The column was converted by the layout of these numbers and of this name of a zone; or it is too long, or there is no such layout, or memory
-- ran out, and the handle holds nothing.
abbrev pub IsConvertedBy : List File → RowLayout → List ℕ → List ℕ → ℤ → Option Held → Type 0
IsConvertedBy files given name column status held =
    ((layout : Layout) × (length column ≤ MAX_BYTES) × IsLayoutOf given name layout × AreRowsBy files layout column status held)
    ⊎ ((MAX_BYTES < length column) × (status ≡ LENGTHS) × (held ≡ None))
    ⊎ (HasNoLayout given name × (status ≡ NO_SUCH) × (held ≡ None))
    ⊎ ((status ≡ NO_MEMORY) × (held ≡ None))

-- Faults are returned: their number, and as many as there is room for.
pub record AreFaultsCopied (faults : List made.RowFault) (status : ℤ) (before after : List made.RowFault) (count : ℕ) : Type 0 where
  pub status_is : status ≡ OK
  pub number_is : count ≡ length faults
  pub copied : after ≡ overwritten before faults
