-- Whether a handle holds a value.
use Rattle.std.specs.Prelude.{Option, Some, None}

-- there is a value
abbrev pub IsHolding : {X : Type 0} → Option X → Type 0
IsHolding (Some x) = Unit {0}
IsHolding None = ⊥
