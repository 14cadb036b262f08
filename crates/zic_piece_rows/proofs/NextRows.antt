-- Rows with the row of one record more.
use Rattle.std.proofs.Common.{◌≡◌, ◌+◌, ◌++◌, ◌∙◌, ℕ, List, Option, Some, None, refl, sym, ap, subst}
use Rattle.std.proofs.lemmas.List.{append-nil}
use Rattle.zic_columns.specs.Own.{CsvRecord}
use Rattle.zic_zones.specs.declared.zones.Releases.{Releases}
use Rattle.zic_layouts.specs.declared.layout.AtFault.{AtFault}
use Rattle.zic_layouts.specs.declared.layout.AtFault.TheVariants as at_fault
use Rattle.zic_layouts.specs.declared.layout.Layout.{Layout}
use Rattle.zic_layouts.specs.declared.layout.Records.{Records}
use Rattle.zic_layouts.specs.declared.layout.Records.TheVariants as by
use Rattle.zic_layouts.specs.Noted.{RowNote}
use Rattle.zic_base.specs.declared.row_fault.RowKind.{RowKind}
use Rattle.zic_piece_rows.specs.LayoutRows.{IsWrittenBy, ending, ends_by, fault_by, noted}
use Rattle.zic_piece_rows.specs.PieceRows.{RowsOf}
use Rattle.zic_piece_rows.specs.code.Row.{AreNextBy, IsNextBy}

-- no fault ends no run
pub none_ends : (at : AtFault) (mode : Records) → ending at mode None ≡ None
none_ends at_fault.End mode = refl
none_ends at_fault.GoOn by.Csv = refl
none_ends at_fault.GoOn by.Lines = refl
none_ends at_fault.Reject by.Csv = refl
none_ends at_fault.Reject by.Lines = refl

module _ (layout : Layout) (releases : Releases) (most number : ℕ) (row_record : CsvRecord) (old new : RowsOf) where
  -- a record with a row, which doesn't end the run, by the fault that it has, or none
  pub next_more : (fault : Option RowKind) → fault_by layout releases.zones most number row_record ≡ fault → ending layout.at_fault layout.records fault ≡ None
      → (row : List ℕ) → IsWrittenBy layout releases most number row_record row
      → new ≡ record { text = old.text ++ row; count = old.count + 1; fault = old.fault; faults = old.faults ++ noted layout.at_fault number row_record.own fault }
      → AreNextBy layout releases most number row_record old new
  next_more fault is goes row written made =
      let goes_on : ends_by layout releases.zones most number row_record ≡ None = ap (ending layout.at_fault layout.records) is ∙ goes in
      subst (IsNextBy layout releases most number row_record old new) (sym goes_on) (
        row,
        written,
        made ∙ ap (λ (o : Option RowKind). record { text = old.text ++ row; count = old.count + 1; fault = old.fault; faults = old.faults ++ noted layout.at_fault number row_record.own o }) (sym is),
      )

  -- a record without a fault
  pub next_sound : fault_by layout releases.zones most number row_record ≡ None → (row : List ℕ) → IsWrittenBy layout releases most number row_record row
      → new ≡ record { text = old.text ++ row; count = old.count + 1; fault = old.fault; faults = old.faults } → AreNextBy layout releases most number row_record old new
  next_sound is row written made =
      next_more None is (none_ends layout.at_fault layout.records) row written
      (made ∙ ap (λ (l : List RowNote). record { text = old.text ++ row; count = old.count + 1; fault = old.fault; faults = l }) (sym (append-nil old.faults)))

  -- a record that ends the run
  pub next_end : (kind : RowKind) → fault_by layout releases.zones most number row_record ≡ Some kind → ending layout.at_fault layout.records (Some kind) ≡ Some kind → new ≡ record old { fault = Some kind }
      → AreNextBy layout releases most number row_record old new
  next_end kind is ends made =
      let ended : ends_by layout releases.zones most number row_record ≡ Some kind = ap (ending layout.at_fault layout.records) is ∙ ends in
      subst (IsNextBy layout releases most number row_record old new) (sym ended) made
