use Rattle.std.proofs.Common.{◌≡◌, ◌-◌, ◌<◌, ◌≤◌, ℕ, length, get_or, not, true}
use Rattle.zic_row_text.specs.DateTime.{is_sign}
use Rattle.zic_row_text.proofs.date_time.last_sign.Given as goal

-- no byte after the place is a sign
abbrev pub invariant-loop-after : goal.invariant-loop-after
invariant-loop-after l = (k : ℕ) → length l.field - l.after ≤ k → k < length l.field → not (is_sign (get_or l.field k 0)) ≡ true
