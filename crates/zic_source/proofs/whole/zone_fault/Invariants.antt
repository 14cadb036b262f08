use Rattle.std.proofs.Common.{List, take}
use Rattle.zic_lines.specs.declared.rule_line.Rule.{Rule}
use Rattle.zic_source.specs.Source.{lines_of_zone}
use Rattle.zic_source.specs.code.Sets.{IndexesSets}
use Rattle.zic_source.specs.code.Faults.{LineIsRight, LineHas, IsFirstOf}
use Rattle.zic_source.proofs.whole.zone_fault.Given as goal

abbrev pub invariant-loop-line : goal.invariant-loop-line
invariant-loop-line l = (rules : List Rule) → IndexesSets l.sets rules → IsFirstOf (LineIsRight rules) (LineHas rules) (take l.line (lines_of_zone l.zone)) l.first
