use Rattle.std.proofs.Common.{List, arith, sym, subst, ℤ, pos, ◌<ℤ◌}
use Rattle.std.specs.Prelude.{IfSome}
use Rattle.std.proofs.lemmas.Option.{IfSome_then}
use Rattle.std.proofs.lemmas.Result.{err_from_is_err_and}
use Rattle.zic_base.specs.Fault.{kind_of}
use Rattle.zic_base.proofs.Elements.{got}
use Rattle.zic_states.specs.declared.occurrence.TimedOccurrence.{TimedOccurrence}
use Rattle.zic_states.specs.LineItems.{items_of}
use Rattle.zic_states.specs.ByList.{before}
use Rattle.zic_states.specs.End.{IsYearOf, IsEnd}
use Rattle.zic_rules.specs.code.Period.{the_zone}
use Rattle.zic_rules.specs.code.End.{IsInYears}
use Rattle.zic_rules.specs.code.Line.{IsLineTo}
use Rattle.zic_rules.proofs.Years.{cast, in_later_years, year_before}
use Rattle.zic_rules.proofs.Walks.{more_ordered, last_has_none, fault_of_order, starts, start_in_years, line_to_end, start_before_end}
use Rattle.zic_rules.proofs.walk.add_last.Goals as goal

pub end_of-end-requires-clause-in_years : goal.end_of-end-requires-clause-in_years
end_of-end-requires-clause-in_years c =
    let zone = the_zone c.args.zone in
    start_in_years zone c.args.number c.args.start c.requires.sound (starts zone c.args.number c.args.start c.args.periods.now.items c.requires.walked.so_far)

pub year_of-requires : goal.year_of-requires
year_of-requires c =
    let end = c.end_of-end.result in
    subst (IsInYears 9999) (sym (cast 9900 end (omega arith) c.end_of-end.ensures.in_years)) (in_later_years 9900 9999 end (omega arith) c.end_of-end.ensures.in_years)

pub overflow_add-year_of : goal.overflow_add-year_of
overflow_add-year_of c =
    let end = c.end_of-end.result in
    let of = subst (λ (t : ℤ). IsYearOf t (pos c.year_of.result)) (cast 9900 end (omega arith) c.end_of-end.ensures.in_years) c.year_of.ensures in
    omega (arith, year_before end c.year_of.result 9900 of c.end_of-end.ensures.in_years.1)

pub line_occurrences-requires-clause-before : goal.line_occurrences-requires-clause-before
line_occurrences-requires-clause-before c =
    let end = c.end_of-end.result in
    let of = subst (λ (t : ℤ). IsYearOf t (pos c.year_of.result)) (cast 9900 end (omega arith) c.end_of-end.ensures.in_years) c.year_of.ensures in
    omega (arith, year_before end c.year_of.result 9900 of c.end_of-end.ensures.in_years.1)

pub returns-in_err-occurrences-clause-err : goal.returns-in_err-occurrences-clause-err
returns-in_err-occurrences-clause-err c =
    let zone = the_zone c.args.zone in
    let at = c.line-line.ensures.line in
    let p = err_from_is_err_and c.from_residual.result c.from_residual.ensures.1 in
    rw (p.1, p.2) (IfSome_then (kind_of c.in_err-occurrences.field-0.0) c.in_err-occurrences.ensures.err
    (λ fault h. fault_of_order zone c.args.number c.line-line.result.now fault at h))

pub add_periods-requires-clause-start : goal.add_periods-requires-clause-start
add_periods-requires-clause-start c =
    let zone = the_zone c.args.zone in
    let end = c.end_of-end.result in
    let near = start_in_years zone c.args.number c.args.start c.requires.sound (starts zone c.args.number c.args.start c.args.periods.now.items c.requires.walked.so_far) in
    subst (λ (e : ℤ). IfSome c.args.start (λ s. IsInYears 9002 s × (s <ℤ e))) (sym (cast 9900 end (omega arith) c.end_of-end.ensures.in_years))
    (start_before_end zone c.args.number c.args.start c.line-line.result.now end c.end_of-end.ensures near)

pub add_periods-requires-clause-line : goal.add_periods-requires-clause-line
add_periods-requires-clause-line c =
    let zone = the_zone c.args.zone in
    let n = c.args.number in
    let line = c.line-line.result.now in
    let end = c.end_of-end.result in
    let found = got c.args.zone.source.now.zones c.args.zone.number c.args.zone.is_zone in
    let at = c.line-line.ensures.line in
    let same = cast 9900 end (omega arith) c.end_of-end.ensures.in_years in
    let of = subst (λ (t : ℤ). IsYearOf t (pos c.year_of.result)) same c.year_of.ensures in
    let none = last_has_none zone found.0 n line c.requires.sound found.1 (c.requires.number found.0 found.1) at in
    let is = starts zone n c.args.start c.args.periods.now.items c.requires.walked.so_far in
    let own = line_to_end zone n c.args.start end c.year_of.result line (items_of c.in_ok-occurrences.occurrences) c.requires.sound at none is c.in_ok-occurrences.ensures.order c.in_ok-occurrences.ensures.all c.end_of-end.ensures of in
    subst (λ (e : ℤ). IsLineTo zone n c.args.start e (before c.items-found.result.now e)) (sym same)
    (subst (λ (xs : List TimedOccurrence). IsLineTo zone n c.args.start end (before xs end)) (sym c.items-found.ensures) own)

pub returns-clause-order : goal.returns-clause-order
returns-clause-order c =
    let zone = the_zone c.args.zone in
    let at = c.line-line.ensures.line in
    more_ordered zone c.args.number c.line-line.result.now c.requires.walked.ordered at c.in_ok-occurrences.ensures.order

pub returns-clause-end : goal.returns-clause-end
returns-clause-end c =
    let zone = the_zone c.args.zone in
    let n = c.args.number in
    let line = c.line-line.result.now in
    let end = c.end_of-end.result in
    let found = got c.args.zone.source.now.zones c.args.zone.number c.args.zone.is_zone in
    let at = c.line-line.ensures.line in
    let none = last_has_none zone found.0 n line c.requires.sound found.1 (c.requires.number found.0 found.1) at in
    subst (IsEnd zone) (sym (cast 9900 end (omega arith) c.end_of-end.ensures.in_years))
    (n, line, record { is_line = at; no_until = none }, c.end_of-end.ensures.is)

pub returns-clause-years : goal.returns-clause-years
returns-clause-years c =
    let years = c.end_of-end.ensures.in_years in
    subst (IsInYears 9900) (sym (cast 9900 c.end_of-end.result (omega arith) years)) years
