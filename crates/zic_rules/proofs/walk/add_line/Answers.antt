use Rattle.std.proofs.Common.{◌≡◌, ◌∙◌, suc, Option, Some, List, add-one, arith, sym, subst, ℤ, ◌<ℤ◌, to_z, of_z, w64}
use Rattle.std.specs.Prelude.{IfSome}
use Rattle.std.proofs.lemmas.Int.{ints}
use Rattle.std.proofs.lemmas.Option.{IfSome_then}
use Rattle.std.proofs.lemmas.Result.{err_from_is_err_and}
use Rattle.zic_base.specs.Fault.{kind_of}
use Rattle.zic_base.proofs.Elements.{got}
use Rattle.zic_states.specs.declared.occurrence.TimedOccurrence.{TimedOccurrence}
use Rattle.zic_states.specs.LineItems.{items_of}
use Rattle.zic_states.specs.ByList.{before}
use Rattle.zic_states.proofs.LineWalk.{le_from_test, lt_from_test}
use Rattle.zic_rules.specs.code.Period.{the_zone}
use Rattle.zic_rules.specs.code.End.{IsStart, IsInYears}
use Rattle.zic_rules.specs.code.Held.{HeldTo}
use Rattle.zic_rules.specs.code.Walk.{AreOrderedTo, IsWalkedTo}
use Rattle.zic_rules.specs.code.Line.{IsLineTo}
use Rattle.zic_rules.proofs.Years.{cast}
use Rattle.zic_rules.proofs.Added.{few_lines}
use Rattle.zic_rules.proofs.Walks.{more_ordered, until_stands, fault_of_order, ends_here, more_rise, starts, start_in_years, until_in_years, line_to_until, falls_from}
use Rattle.zic_rules.proofs.walk.add_line.Goals as goal
use Rattle.zic_rules.proofs.walk.add_line.Goals.{in-Some-start+else-end-start, in_default-start}

pub unreachable-requires : goal.unreachable-requires
unreachable-requires c =
    let zone = the_zone c.args.zone in
    let found = got c.args.zone.source.now.zones c.args.zone.number c.args.zone.is_zone in
    let at = c.line-line.ensures.line in
    until_stands zone found.0 c.args.number c.line-line.result.now c.requires.sound found.1 (c.requires.number found.0 found.1) at c.in_default.is

pub returns-in_err-occurrences-clause-err : goal.returns-in_err-occurrences-clause-err
returns-in_err-occurrences-clause-err c =
    let zone = the_zone c.args.zone in
    let at = c.line-line.ensures.line in
    let p = err_from_is_err_and c.from_residual.result c.from_residual.ensures.1 in
    rw (p.1, p.2) (IfSome_then (kind_of c.in_err-occurrences.field-0.0) c.in_err-occurrences.ensures.err
    (λ fault h. fault_of_order zone c.args.number c.line-line.result.now fault at h))

pub overflow_add-number : goal.overflow_add-number
overflow_add-number c =
    let found = got c.args.zone.source.now.zones c.args.zone.number c.args.zone.is_zone in
    let within = c.requires.number found.0 found.1 in
    let few = few_lines (the_zone c.args.zone) found.0 c.requires.sound found.1 in
    omega (arith, within, few)

pub not_rising-requires-clause-order : goal.not_rising-requires-clause-order
not_rising-requires-clause-order c =
    let zone = the_zone c.args.zone in
    let n = c.args.number in
    let at = c.line-line.ensures.line in
    subst (AreOrderedTo zone) (sym (add-one n)) (more_ordered zone n c.line-line.result.now c.requires.walked.ordered at c.in_ok-occurrences.ensures.order)

pub not_rising-requires-clause-falls : goal.not_rising-requires-clause-falls
not_rising-requires-clause-falls c =
    let zone = the_zone c.args.zone in
    let n = c.args.number in
    let s = c.in-Some-start.start in
    let end = c.in-Some-until_instant.end in
    let at = c.line-line.ensures.line in
    let ends = ends_here zone n c.line-line.result.now end at c.in-Some-until_instant.ensures in
    let is = subst (IsStart zone n) c.in-Some-start.is (starts zone n c.args.start c.args.periods.now.items c.requires.walked.so_far) in
    let same = cast 9002 end (omega arith) (until_in_years zone n end c.requires.sound ends) in
    let same_start = cast 9002 s (omega arith) (start_in_years zone n (Some s) c.requires.sound is) in
    let test = le_from_test (to_z w64 (of_z w64 end)) (to_z w64 (of_z w64 s)) c.if-end-start.true in
    falls_from zone n s end is ends (omega (arith, ints, test, same, same_start))

pub add_periods-requires-clause-start : goal.add_periods-requires-clause-start
add_periods-requires-clause-start c =
    let zone = the_zone c.args.zone in
    let n = c.args.number in
    let line = c.line-line.result.now in
    let end = c.in-Some-until_instant.end in
    let at = c.line-line.ensures.line in
    let ends = ends_here zone n line end at c.in-Some-until_instant.ensures in
    let is = starts zone n c.args.start c.args.periods.now.items c.requires.walked.so_far in
    let same = cast 9002 end (omega arith) (until_in_years zone n end c.requires.sound ends) in
    let near = start_in_years zone n c.args.start c.requires.sound is in
    let Before : Option ℤ → Type 0 = λ o. IfSome o (λ s. IsInYears 9002 s × (s <ℤ end)) in
    let lt : Before c.args.start = elim c.match-start.branch [
      | in-Some-start+else-end-start w ↦
          let s = w.in-Some-start.start in
          let near_s = subst (λ (o : Option ℤ). IfSome o (IsInYears 9002)) w.in-Some-start.is near in
          let same_s = cast 9002 s (omega arith) near_s in
          let test = lt_from_test (to_z w64 (of_z w64 end)) (to_z w64 (of_z w64 s)) w.if-end-start.false in
          subst Before (sym w.in-Some-start.is) (near_s, omega (arith, ints, test, same_s, same))
      | in_default-start w ↦ subst Before (sym w.in_default-start.is) tt
    ] in
    let begun : c.match-start.start ≡ c.args.start = elim c.match-start.branch [
      | in-Some-start+else-end-start w ↦ w.start-is ∙ sym w.in-Some-start.is
      | in_default-start w ↦ w.start-is
    ] in
    subst (λ (e : ℤ). IfSome c.match-start.start (λ s. IsInYears 9002 s × (s <ℤ e))) (sym same) (subst Before (sym begun) lt)

pub add_periods-requires-clause-line : goal.add_periods-requires-clause-line
add_periods-requires-clause-line c =
    let zone = the_zone c.args.zone in
    let n = c.args.number in
    let line = c.line-line.result.now in
    let end = c.in-Some-until_instant.end in
    let at = c.line-line.ensures.line in
    let ends = ends_here zone n line end at c.in-Some-until_instant.ensures in
    let is = starts zone n c.args.start c.args.periods.now.items c.requires.walked.so_far in
    let same = cast 9002 end (omega arith) (until_in_years zone n end c.requires.sound ends) in
    let begun : c.match-start.start ≡ c.args.start = elim c.match-start.branch [
      | in-Some-start+else-end-start w ↦ w.start-is ∙ sym w.in-Some-start.is
      | in_default-start w ↦ w.start-is
    ] in
    let own = line_to_until zone n c.args.start end line c.in-Some.until (items_of c.in_ok-occurrences.occurrences) c.requires.sound at c.in-Some.is is
    c.in_ok-occurrences.ensures.order c.in_ok-occurrences.ensures.all c.in-Some-until_instant.ensures in
    subst (λ (o : Option ℤ). IsLineTo zone n o (to_z w64 (of_z w64 end)) (before c.items-found.result.now (to_z w64 (of_z w64 end)))) (sym begun)
    (subst (λ (e : ℤ). IsLineTo zone n c.args.start e (before c.items-found.result.now e)) (sym same)
    (subst (λ (xs : List TimedOccurrence). IsLineTo zone n c.args.start end (before xs end)) (sym c.items-found.ensures) own))

pub returns-clause-walked : goal.returns-clause-walked
returns-clause-walked c =
    let zone = the_zone c.args.zone in
    let n = c.args.number in
    let line = c.line-line.result.now in
    let end = c.in-Some-until_instant.end in
    let at = c.line-line.ensures.line in
    let ends = ends_here zone n line end at c.in-Some-until_instant.ensures in
    let is = starts zone n c.args.start c.args.periods.now.items c.requires.walked.so_far in
    let same = cast 9002 end (omega arith) (until_in_years zone n end c.requires.sound ends) in
    let near = start_in_years zone n c.args.start c.requires.sound is in
    let Before : Option ℤ → Type 0 = λ o. IfSome o (λ s. IsInYears 9002 s × (s <ℤ end)) in
    let lt : Before c.args.start = elim c.match-start.branch [
      | in-Some-start+else-end-start w ↦
          let s = w.in-Some-start.start in
          let near_s = subst (λ (o : Option ℤ). IfSome o (IsInYears 9002)) w.in-Some-start.is near in
          let same_s = cast 9002 s (omega arith) near_s in
          let test = lt_from_test (to_z w64 (of_z w64 end)) (to_z w64 (of_z w64 s)) w.if-end-start.false in
          subst Before (sym w.in-Some-start.is) (near_s, omega (arith, ints, test, same_s, same))
      | in_default-start w ↦ subst Before (sym w.in_default-start.is) tt
    ] in
    let items = c.add_periods.new.periods.items in
    let ordered = more_ordered zone n line c.requires.walked.ordered at c.in_ok-occurrences.ensures.order in
    let own : IsWalkedTo zone (suc n) (Some end) items = record {
      ordered = ordered;
      rising = more_rise zone n c.args.start end c.requires.sound ordered c.requires.walked.rising is (IfSome_then c.args.start lt (λ s h. h.1)) ends;
      so_far = (ends, subst (λ (e : ℤ). HeldTo zone n e items) same c.in_ok-add_periods.ensures.held);
    } in
    subst (λ (e : ℤ). IsWalkedTo zone (suc n) (Some e) items) (sym same) own
