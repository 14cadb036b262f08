use Rattle.std.proofs.Common.{◌≡◌, ◌∙◌, ℕ, zero, suc, ◌-◌, List, [], Option, Some, None, ℤ, arith, sym, ap, subst, length}
use Rattle.std.specs.Prelude.{IfSome, IsSomeAnd}
use Rattle.std.proofs.lemmas.Result.{err_from_is_err_and}
use Rattle.zic_base.specs.Fault.{kind_of}
use Rattle.zic_base.proofs.MemoryLemmas.{on_want}
use Rattle.zic_lines.specs.declared.zone_line.ZoneLine.{ZoneLine}
use Rattle.zic_source.specs.Source.{ZoneLines, lines_of_zone}
use Rattle.zic_base.proofs.Elements.{got}
use Rattle.zic_states.specs.Tail.{HasNoSet}
use Rattle.zic_states.specs.Zone.{Zone, lines_of}
use Rattle.zic_rules.specs.declared.line.Period.{Period}
use Rattle.zic_rules.specs.Timeline.{IsFixed}
use Rattle.zic_rules.specs.code.Period.{the_zone, ArePeriods}
use Rattle.zic_rules.specs.code.Held.{AreSoFar}
use Rattle.zic_rules.proofs.Years.{cast}
use Rattle.zic_rules.proofs.Held.{all_periods}
use Rattle.zic_rules.proofs.Walks.{all_in_order, untils_rise}
use Rattle.zic_rules.proofs.walk.periods.Goals as goal

-- a fixed zone has one line
one_line : (zone : Zone) (lines : ZoneLines) → lines_of zone ≡ Some lines → IsFixed zone → length (lines_of_zone lines) ≡ 1
one_line zone lines is fixed =
    let none = subst (λ (o : Option ZoneLines). IsSomeAnd o (λ z. (z.continuations ≡ []) × HasNoSet z.first.rules)) is fixed in
    ap (λ (ls : List ZoneLine). suc (length ls)) none.0

-- the first line has no periods before it
none_before : (zone : Zone) (number : ℕ) (start : Option ℤ) (xs : List Period) → number ≡ 0 → AreSoFar zone number start xs → xs ≡ []
none_before zone zero None xs e so_far = so_far
none_before zone zero (Some s) xs e so_far = absurd so_far
none_before zone (suc n) start xs e so_far = absurd (omega arith)

pub loop-number-init : goal.loop-number-init
loop-number-init c = record {
  ordered = λ i line lt at. absurd (omega (arith, lt));
  rising = λ i t u lt first second. absurd (omega (arith, lt));
  so_far = c.new-list.ensures.items;
}

pub add_line-requires-clause-number : goal.add_line-requires-clause-number
add_line-requires-clause-number c = λ lines is.
    let count = subst (λ (o : Option ZoneLines). IfSome o (λ z. c.lines-last.result ≡ length (lines_of_zone z))) is c.lines-last.ensures in
    omega (arith, count, c.loop-number-test.true)

pub returns-in_err-add_line-clause-err : goal.returns-in_err-add_line-clause-err
returns-in_err-add_line-clause-err c =
    let p = err_from_is_err_and c.from_residual.result c.from_residual.ensures.1 in
    rw (p.1, p.2) c.in_err-add_line.ensures.err

pub returns-in_err-end-clause-err : goal.returns-in_err-end-clause-err
returns-in_err-end-clause-err c =
    let p = err_from_is_err_and c.from_residual-in_err-end.result c.from_residual-in_err-end.ensures.1 in
    rw (p.1, p.2) c.in_err-end.ensures.err

pub returns-in_err-end-clause-memory : goal.returns-in_err-end-clause-memory
returns-in_err-end-clause-memory c =
    let p = err_from_is_err_and c.from_residual-in_err-end.result c.from_residual-in_err-end.ensures.1 in
    rw (p.1, p.2) c.in_err-end.ensures.memory

pub returns-in_err-add_line-clause-memory : goal.returns-in_err-add_line-clause-memory
returns-in_err-add_line-clause-memory c =
    let zone = the_zone c.args.zone in
    let found = got c.args.zone.source.now.zones c.args.zone.number c.args.zone.is_zone in
    let count : c.lines-last.result ≡ length (lines_of_zone found.0) =
    subst (λ (o : Option ZoneLines). IfSome o (λ z. c.lines-last.result ≡ length (lines_of_zone z))) found.1 c.lines-last.ensures
    in
    on_want kind_of c.from_residual.result (IsFixed zone → ⊥)
    (λ fixed. absurd (omega (arith, count, one_line zone found.0 found.1 fixed, c.loop-number-test.true)))

pub add_last-requires-clause-number : goal.add_last-requires-clause-number
add_last-requires-clause-number c = λ lines is.
    let count = subst (λ (o : Option ZoneLines). IfSome o (λ z. c.lines-last.result ≡ length (lines_of_zone z))) is c.lines-last.ensures in
    omega (arith, count)

pub returns-clause-fixed : goal.returns-clause-fixed
returns-clause-fixed c = λ fixed.
    let zone = the_zone c.args.zone in
    let found = got c.args.zone.source.now.zones c.args.zone.number c.args.zone.is_zone in
    let count : c.lines-last.result ≡ length (lines_of_zone found.0) =
    subst (λ (o : Option ZoneLines). IfSome o (λ z. c.lines-last.result ≡ length (lines_of_zone z))) found.1 c.lines-last.ensures
    in
    let first : c.loop-number.number ≡ 0 = omega (arith, count, one_line zone found.0 found.1 fixed, c.loop-number-test.false, c.loop-number.auto.number-end) in
    c.in_ok-end.ensures.fixed fixed ∙ none_before zone c.loop-number.number c.loop-number.start c.loop-number.list.items first c.loop-number.invariant.so_far

pub returns-clause-order : goal.returns-clause-order
returns-clause-order c =
    let zone = the_zone c.args.zone in
    let found = got c.args.zone.source.now.zones c.args.zone.number c.args.zone.is_zone in
    let count : c.lines-last.result ≡ length (lines_of_zone found.0) =
    subst (λ (o : Option ZoneLines). IfSome o (λ z. c.lines-last.result ≡ length (lines_of_zone z))) found.1 c.lines-last.ensures
    in
    all_in_order zone found.0 (suc (c.lines-last.result - 1)) found.1 (omega (arith, count)) c.in_ok-end.ensures.order

pub returns-clause-untils : goal.returns-clause-untils
returns-clause-untils c =
    let zone = the_zone c.args.zone in
    let found = got c.args.zone.source.now.zones c.args.zone.number c.args.zone.is_zone in
    let count : c.lines-last.result ≡ length (lines_of_zone found.0) =
    subst (λ (o : Option ZoneLines). IfSome o (λ z. c.lines-last.result ≡ length (lines_of_zone z))) found.1 c.lines-last.ensures
    in
    let end : c.loop-number.number ≡ c.lines-last.result - 1 = omega (arith, c.loop-number-test.false, c.loop-number.auto.number-end) in
    untils_rise zone found.0 c.loop-number.number c.zones.ensures.sound found.1 (omega (arith, count, end)) c.loop-number.invariant.rising

pub returns-clause-all : goal.returns-clause-all
returns-clause-all c =
    let zone = the_zone c.args.zone in
    let end = c.in_ok-end.end in
    let items = c.add_last.new.periods.items in
    subst (λ (e : ℤ). ArePeriods zone e items) (sym (cast 9900 end (omega arith) c.in_ok-end.ensures.years)) (all_periods zone end items c.in_ok-end.ensures.held.held)
