use Rattle.std.proofs.Common.{List, subst, arith}
use Rattle.std.proofs.lemmas.List.{take_all}
use Rattle.zic_lines.specs.declared.zone_line.ZoneLine.{ZoneLine}
use Rattle.zic_source.specs.Source.{lines_of_zone}
use Rattle.zic_source.specs.code.Faults.{LineIsRight, LineHas, IsFirstOf}
use Rattle.zic_source.proofs.faults.Earlier.{first_of_more}
use Rattle.zic_source.proofs.faults.Found.{line_excludes}
use Rattle.zic_source.proofs.whole.zone_fault.Goals as goal

pub loop-line-preserved : goal.loop-line-preserved
loop-line-preserved c = λ rules is.
    first_of_more (LineIsRight rules) (LineHas rules) (line_excludes rules) (lines_of_zone c.args.zone.now) c.loop-line.line c.line.result.now
    c.loop-line.first c.line_fault.result c.earlier-first.result c.line.ensures (c.loop-line.invariant rules is) (c.line_fault.ensures rules is) c.earlier-first.ensures

pub returns : goal.returns
returns c = λ rules is. subst (λ (lines : List ZoneLine). IsFirstOf (LineIsRight rules) (LineHas rules) lines c.loop-line.first)
    (take_all c.loop-line.line (lines_of_zone c.args.zone.now) (omega (arith, c.loop-line-test.false, c.lines-line-end.ensures)))
    (c.loop-line.invariant rules is)
