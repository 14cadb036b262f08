-- The instants of a set's occurrences, as the code reckons them one after another.
use Rattle.std.specs.Prelude.{ℕ, ◌+◌, ◌-◌, ◌<◌, ℤ, pos, ◌<ℤ◌, ◌≤ℤ◌, List, [], ◌∷◌, length, slice_index_or, slice_get}
use Rattle.std.specs.Option.{option_map_or}
use Rattle.zic_lines.specs.declared.rule_line.Rule.{Rule}
use Rattle.zic_states.specs.declared.nominal.Nominal.{Nominal}
use Rattle.zic_states.specs.declared.occurrence.TimedOccurrence.{TimedOccurrence}
use Rattle.zic_states.specs.Order.{instant_by}

-- the saving of the rule that has this number
unfoldable pub saving_of : List Rule → ℕ → ℤ
saving_of rules number = option_map_or (λ rule. rule.saving.seconds) (slice_get rules number) (pos 0)

-- the instant of an occurrence, where this saving held just before
unfoldable pub instant_of : List Rule → ℤ → ℤ → Nominal → ℤ
instant_of rules offset saved n = option_map_or (λ rule. instant_by rule.moment.at.form offset saved n.second) (slice_get rules n.rule) (pos 0)

-- an occurrence with its instant
abbrev pub timed_of : List Rule → ℤ → ℤ → Nominal → TimedOccurrence
timed_of rules offset saved n = record { instant = instant_of rules offset saved n; rule = n.rule; year = n.year }

-- occurrences with their instants, where this saving held before the first
unfoldable pub timed_from : List Rule → ℤ → ℤ → List Nominal → List TimedOccurrence
timed_from rules offset saved [] = []
timed_from rules offset saved (n ∷ ns) = timed_of rules offset saved n ∷ timed_from rules offset (saving_of rules n.rule) ns

-- some instant isn't after the one before it
pub record HasFall (xs : List TimedOccurrence) : Type 0 where
  pub place : ℕ
  pub within : place + 1 < length xs
  pub falls : (d : TimedOccurrence) → (slice_index_or xs (place + 1) d).instant ≤ℤ (slice_index_or xs place d).instant

-- An instant comes after the last of these, if there is one.
abbrev pub ComesAfter : List TimedOccurrence → ℤ → Type 0
ComesAfter xs instant = (d : TimedOccurrence) → 0 < length xs → (slice_index_or xs (length xs - 1) d).instant <ℤ instant

-- There is a last of these, and the instant doesn't come after it.
abbrev pub ComesNotAfter : List TimedOccurrence → ℤ → Type 0
ComesNotAfter xs instant = (0 < length xs) × ((d : TimedOccurrence) → instant ≤ℤ (slice_index_or xs (length xs - 1) d).instant)
