-- The instant that is meant by the local time of a record.
use Rattle.std.proofs.Common.{◌≡◌, ◌∙◌, ◌<◌, ℕ, ℤ, pos, ◌+ℤ◌, ◌*ℤ◌, List, length, Some, Result, Ok, ap, sym}
use Rattle.std.specs.Prelude.{IfSome, slice_get}
use Rattle.zic_base.proofs.Elements.{got}
use Rattle.zic_base.proofs.Options.{if_at}
use Rattle.zic_base.specs.declared.row_fault.RowKind.{RowKind}
use Rattle.zic_files.specs.File.{File}
use Rattle.zic_layouts.specs.declared.disambiguation.Disambiguation.{Disambiguation}
use Rattle.zic_layouts.specs.declared.layout.Layout.{Layout}
use Rattle.zic_layouts.specs.declared.layout.TimeFrom.TheVariants as from
use Rattle.zic_layouts.specs.declared.layout.Unit.{Unit}
use Rattle.zic_row_text.specs.Count.{fraction_of, second_of, units_of_second}
use Rattle.zic_zones.specs.Resolved.{resolved}
use Rattle.zic_piece_rows.specs.LayoutRows.{moved, time_by}

-- where local times are read, what is meant by one is the record's time
pub time_meant : (layout : Layout) (zones : List File) (n : ℕ) (input : ℤ) (choice : Disambiguation) (result : Result ℤ RowKind) → layout.from ≡ from.Local choice → n < length zones
    → IfSome (slice_get zones n) (λ f. result ≡ moved layout.unit input (resolved f.image.octets (second_of layout.unit input) choice))
    → time_by layout (slice_get zones n) (Some input) ≡ result
time_meant layout zones n input choice result local lt meant =
    let (file, at) = got zones n lt in
    let is = if_at (slice_get zones n) (λ (f : File). result ≡ moved layout.unit input (resolved f.image.octets (second_of layout.unit input) choice)) file meant at in
    rw (at, local) (sym is)

-- the count of an instant that is meant is what it is moved to
pub only_meant : (u : Unit) (input t count : ℤ) (zones : List File) (n : ℕ) (choice : Disambiguation) → n < length zones
    → IfSome (slice_get zones n) (λ f. resolved f.image.octets (second_of u input) choice ≡ Ok t) → count ≡ (t *ℤ pos (units_of_second u)) +ℤ pos (fraction_of u input)
    → IfSome (slice_get zones n) (λ f. Ok count ≡ moved u input (resolved f.image.octets (second_of u input) choice))
only_meant u input t count zones n choice lt meant counted =
    let (file, at) = got zones n lt in
    let is = if_at (slice_get zones n) (λ (f : File). resolved f.image.octets (second_of u input) choice ≡ Ok t) file meant at in
    rw at (ap (λ (c : ℤ). Ok c) counted ∙ ap (moved u input) (sym is))
