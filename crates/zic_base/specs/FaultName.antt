-- The names of faults by number.
use Rattle.std.specs.Prelude.{◌≡◌, ℕ, ◌⊎◌, List}
use Rattle.zic_base.specs.Fault.{kind_number, kind_word}
use Rattle.zic_base.specs.RowFault.{row_kind_number, row_kind_word}
use Rattle.zic_base.specs.declared.fault.Kind.{Kind}
use Rattle.zic_base.specs.declared.row_fault.RowKind.{RowKind}

-- The kind of a fault that has this number, of a source or of a row, has this name.
abbrev pub IsFaultName : ℕ → List ℕ → Type 0
IsFaultName number name =
    ((k : Kind) × (kind_number k ≡ number) × (name ≡ kind_word k))
    ⊎ ((k : RowKind) × (row_kind_number k ≡ number) × (name ≡ row_kind_word k))
