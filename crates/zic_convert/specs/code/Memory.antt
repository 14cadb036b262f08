-- Rows of columns in memory, as the code has them.
use Rattle.std.specs.Prelude.{◌≡◌, ℕ, ◌-◌, List, Some, None, Result, Ok, Err}
use Rattle.zic_layouts.specs.Noted.{RowNote}
use Rattle.zic_base.specs.declared.stops.RunStop.TheVariants as stop
use Rattle.zic_convert.specs.declared.halt.Halt.{Halt}
use Rattle.zic_convert.specs.declared.halt.Halt.TheVariants as halt
use Rattle.zic_convert.specs.declared.memory.LayoutRows.{LayoutRows}

-- what comes of a run that wrote this text and noted these rows, by how it ended: at its end, or at a row
abbrev pub AreMade : Result ℕ Halt → List ℕ → List RowNote → LayoutRows → Type 0
AreMade (Ok count) text notes made = (made.text.items ≡ text) × (made.count ≡ count) × (made.fault ≡ None) × (made.faults.items ≡ notes)
AreMade (Err (halt.Stop (stop.Row row kind))) text notes made =
    (made.text.items ≡ text) × (made.count ≡ row - 1) × (made.fault ≡ Some (record { row = row; kind = kind })) × (made.faults.items ≡ notes)
AreMade (Err _) text notes made = ⊥
