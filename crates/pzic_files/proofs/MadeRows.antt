-- Rows that were made, as a handle holds them.
use Rattle.std.proofs.Common.{◌≡◌, ℕ, ℤ, List, None, Some, map, subst, sym, ap, to_z, of_z, w32}
use Rattle.std.specs.Prelude.{Option, IsSomeAnd}
use Rattle.zic_convert.specs.By.{by_of}
use Rattle.zic_convert.specs.Memory.{IsConvertedTo}
use Rattle.zic_convert.specs.declared.memory.LayoutRows.{LayoutRows}
use Rattle.zic_files.specs.File.{File}
use Rattle.zic_base.specs.declared.row_fault.RowFault.{RowFault}
use Rattle.zic_layouts.specs.declared.layout.Layout.{Layout}
use Rattle.zic_layouts.specs.declared.plan.TheConstants.{MAX_ROWS}
use Rattle.zic_zones.specs.Zones.{alone}
use Rattle.pzic_zones.specs.Handle.{rows_of}
use Rattle.pzic_zones.specs.declared.held.Held.{Held}
use Rattle.pzic_zones.specs.declared.column.Made.{Made}
use Rattle.pzic_files.specs.LayoutRows.{AreMadeBy, AreRowsBy, faults_with_end, note_seen, status_of_end}

-- a status is within 32 bits
pub status_fits : (fault : Option RowFault) (n : ℤ) → n ≡ status_of_end fault → to_z w32 (of_z w32 n) ≡ status_of_end fault
status_fits None n is = ap (λ (k : ℤ). to_z w32 (of_z w32 k)) is
status_fits (Some fault) n is = ap (λ (k : ℤ). to_z w32 (of_z w32 k)) is

-- a handle that holds rows of a column
module _ (files : List File) (layout : Layout) (column : List ℕ) (most : ℕ) (status : ℤ) (rows : LayoutRows) (made : Made) where
  pub held_rows : (held : Held) (now : Option Held) → IsConvertedTo (by_of layout (alone files) most None) column rows → most ≡ MAX_ROWS
      → made.text ≡ rows.text → made.count ≡ rows.count → made.faults.items ≡ map note_seen (faults_with_end rows.faults.items rows.fault)
      → status ≡ status_of_end rows.fault → rows_of held ≡ Some made → now ≡ Some held → AreRowsBy files layout column status now
  held_rows held now are most_is text count faults status_is holds is =
      subst (λ (h : Option Held). AreRowsBy files layout column status h) (sym is)
      (subst (λ (r : Option Made). IsSomeAnd r (AreMadeBy files layout column status)) (sym holds)
      (rows, subst (λ (m : ℕ). IsConvertedTo (by_of layout (alone files) m None) column rows) most_is are, text, count, faults, status_is))
