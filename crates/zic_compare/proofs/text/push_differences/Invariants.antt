use Rattle.std.proofs.Common.{◌≡◌, ◌++◌, take}
use Rattle.std.specs.List.{flat_map}
use Rattle.zic_compare.specs.Text.{span_line}
use Rattle.zic_compare.proofs.text.push_differences.Given as goal

-- the lines of the spans so far
abbrev pub invariant-loop-span : goal.invariant-loop-span
invariant-loop-span l = l.lines.items ≡ l.fn.lines.items ++ flat_map (span_line l.how l.name) (take l.span-index l.span-items)
