-- Occurrences of a list up to an instant, and the rule of the last.
use Rattle.std.specs.Prelude.{ℕ, ◌-◌, ℤ, ◌<ℤ◌, List, length, Option, option_map, filter, slice_get, int_lt, int_le, AllPairs}
use Rattle.zic_states.specs.declared.occurrence.TimedOccurrence.{TimedOccurrence}

-- the instant of each comes after that of the one before it
abbrev pub AreRising : List TimedOccurrence → Type 0
AreRising xs = AllPairs (λ a b. a.instant <ℤ b.instant) xs

-- those whose instants are before the limit
abbrev pub before : List TimedOccurrence → ℤ → List TimedOccurrence
before xs limit = filter (λ x. int_lt x.instant limit) xs

-- those whose instants aren't after t
abbrev pub not_after : List TimedOccurrence → ℤ → List TimedOccurrence
not_after xs t = filter (λ x. int_le x.instant t) xs

-- the last of them
abbrev pub last_of : List TimedOccurrence → Option TimedOccurrence
last_of xs = slice_get xs (length xs - 1)

-- the rule of the last whose instant isn't after t; none where all come later
abbrev pub rule_at : List TimedOccurrence → ℤ → Option ℕ
rule_at xs t = option_map (λ x. x.rule) (last_of (not_after xs t))
