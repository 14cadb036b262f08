use Rattle.std.proofs.Common.{◌≡◌, ◌≤ℤ◌, ℤ, pos, ◌-ℤ◌, List, ◌++◌, unsigned_abs, FitsSigned, w64}
use Rattle.std.specs.Int.{int_max}
use Rattle.std.specs.List.{flat_map}
use Rattle.zic_posix.specs.Instants.{Includes}
use Rattle.zic_tzif.specs.Answer.{AnswersThroughout, answered}
use Rattle.zic_dump.specs.Changes.{Change, AreChanges}
use Rattle.zic_dump.specs.Text.{change_line}
use Rattle.zic_dump.proofs.changes.push_changes.Given as goal

-- the changes up to an instant of the span are listed
abbrev pub invariant-loop-span : goal.invariant-loop-span
invariant-loop-span l =
    (at : ℤ) × (changes : List Change) × Includes l.span.instants at × (l.first ≤ℤ at) × (at ≤ℤ l.last)
    × AnswersThroughout l.zone l.span.instants (answered l.span.answer)
    × AreChanges l.zone l.first at changes × (l.text.items ≡ l.fn.text.items ++ flat_map change_line changes)
    × FitsSigned w64 l.span.instants.last

-- the seconds after the span
abbrev pub decreases-loop-span : goal.decreases-loop-span
decreases-loop-span l = unsigned_abs (int_max (pos 0) (l.last -ℤ l.span.instants.last))
