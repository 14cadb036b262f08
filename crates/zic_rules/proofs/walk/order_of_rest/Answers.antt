use Rattle.std.proofs.Common.{◌≡◌, Option, add-one, arith, sym, subst, length}
use Rattle.std.specs.Prelude.{IfSome}
use Rattle.zic_source.specs.Source.{ZoneLines, lines_of_zone}
use Rattle.zic_base.proofs.Elements.{got}
use Rattle.zic_rules.specs.code.Period.{the_zone}
use Rattle.zic_rules.specs.code.Walk.{AreOrderedTo}
use Rattle.zic_rules.proofs.Walks.{more_ordered, all_in_order}
use Rattle.zic_rules.proofs.walk.order_of_rest.Goals as goal

pub returns-clause-order : goal.returns-clause-order
returns-clause-order c =
    let zone = the_zone c.args.zone in
    let found = got c.args.zone.source.now.zones c.args.zone.number c.args.zone.is_zone in
    let count : c.lines-number-end.result ≡ length (lines_of_zone found.0) =
    subst (λ (o : Option ZoneLines). IfSome o (λ z. c.lines-number-end.result ≡ length (lines_of_zone z))) found.1 c.lines-number-end.ensures
    in
    all_in_order zone found.0 c.loop-number.number found.1 (omega (arith, c.loop-number-test.false, count)) c.loop-number.invariant

pub loop-number-preserved : goal.loop-number-preserved
loop-number-preserved c =
    let zone = the_zone c.args.zone in
    let n = c.loop-number.number in
    let at = c.line.ensures.line in
    subst (AreOrderedTo zone) (sym (add-one n)) (more_ordered zone n c.line.result.now c.loop-number.invariant at c.in_ok-line_occurrences.ensures.order)
