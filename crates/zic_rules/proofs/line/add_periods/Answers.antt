use Rattle.std.proofs.Common.{◌≡◌, ◌∙◌, ◌++◌, map, List, Option, arith, ap, subst, sym, ℤ, pos, ◌+ℤ◌, ◌<ℤ◌, ◌≤ℤ◌, to_z, of_z, w64, rules}
use Rattle.std.specs.Prelude.{IfSome}
use Rattle.std.proofs.lemmas.Int.{ints}
use Rattle.zic_states.specs.declared.occurrence.TimedOccurrence.{TimedOccurrence}
use Rattle.zic_states.specs.ByList.{AreRising, before, not_after, rule_at}
use Rattle.zic_states.specs.Zone.{line_at}
use Rattle.zic_rules.specs.declared.line.Period.{Period}
use Rattle.zic_rules.specs.code.Period.{the_zone}
use Rattle.zic_rules.specs.code.End.{IsInYears}
use Rattle.zic_rules.specs.code.Held.{AreSoFar}
use Rattle.zic_rules.specs.code.Line.{IsLineTo, GivesInForce, period_at}
use Rattle.zic_rules.proofs.Years.{cast}
use Rattle.zic_rules.proofs.Added.{few_lines, has_line, gives_to_window, window_of_line, added_first, added_later, before_cast, window_cast}
use Rattle.zic_rules.proofs.OccurrencesOfLines.{rising_before}
use Rattle.zic_rules.proofs.Outcomes.{if_ok_map}
use Rattle.zic_rules.proofs.line.add_periods.Goals as goal

pub overflow_cast-line_number : goal.overflow_cast-line_number
overflow_cast-line_number c =
    let zone = the_zone c.args.zone in
    let has = has_line zone c.args.number c.args.zone.is_zone c.requires.number in
    let few = few_lines zone has.lines c.requires.sound has.are in
    omega (arith, few, has.within)

pub returns-in_default-clause-held : goal.returns-in_default-clause-held
returns-in_default-clause-held c =
    let zone = the_zone c.args.zone in
    let number = c.args.number in
    let has = has_line zone number c.args.zone.is_zone c.requires.number in
    let mine = before_cast c.args.occurrences.now c.before-mine.result.now c.args.end c.ranges.end c.before-mine.ensures in
    let so_far = subst (λ (o : Option ℤ). AreSoFar zone number o c.args.periods.now.items) c.in_default.is c.requires.so_far in
    let is = subst (λ (o : Option ℤ). IsLineTo zone number o c.args.end (before c.args.occurrences.now c.args.end)) c.in_default.is c.requires.line in
    if_ok_map c.add_occurrences.result _ _
    (λ _ e. added_first zone number c.args.end has.line _ c.args.periods.now.items _ has.at so_far is
    (e ∙ ap (λ (xs : List TimedOccurrence). c.args.periods.now.items ++ map (period_at number) xs) mine))
    c.add_occurrences.ensures.items

pub window_end-window-requires-clause-gives : goal.window_end-window-requires-clause-gives
window_end-window-requires-clause-gives c =
    let zone = the_zone c.args.zone in
    let number = c.args.number in
    let s = c.in-Some.start in
    let has = has_line zone number c.args.zone.is_zone c.requires.number in
    let in_years = subst (λ (o : Option ℤ). IfSome o (λ t. IsInYears 9002 t × (t <ℤ c.args.end))) c.in-Some.is c.requires.start in
    let same = cast 9002 s (omega arith) in_years.0 in
    let mine = before_cast c.args.occurrences.now c.before-mine.result.now c.args.end c.ranges.end c.before-mine.ensures in
    let is = subst (λ (o : Option ℤ). IsLineTo zone number o c.args.end (before c.args.occurrences.now c.args.end)) c.in-Some.is c.requires.line in
    subst (λ (t : ℤ). IfSome (line_at zone number) (λ line. GivesInForce zone (t +ℤ pos 432_000) line c.before-mine.result.now)) (sym same)
    (subst (λ (xs : List TimedOccurrence). IfSome (line_at zone number) (λ line. GivesInForce zone (s +ℤ pos 432_000) line xs)) (sym mine)
    (gives_to_window zone number s c.args.end _ has is))

pub rule_at-requires : goal.rule_at-requires
rule_at-requires c =
    let mine = before_cast c.args.occurrences.now c.before-mine.result.now c.args.end c.ranges.end c.before-mine.ensures in
    subst AreRising (sym mine) (rising_before c.args.occurrences.now c.args.end c.requires.rising)

pub after-requires : goal.after-requires
after-requires c =
    let mine = before_cast c.args.occurrences.now c.before-mine.result.now c.args.end c.ranges.end c.before-mine.ensures in
    subst AreRising (sym mine) (rising_before c.args.occurrences.now c.args.end c.requires.rising)

pub returns-clause-held : goal.returns-clause-held
returns-clause-held c =
    let zone = the_zone c.args.zone in
    let number = c.args.number in
    let s = c.in-Some.start in
    let w = c.window_end-window.result in
    let has = has_line zone number c.args.zone.is_zone c.requires.number in
    let mine = before_cast c.args.occurrences.now c.before-mine.result.now c.args.end c.ranges.end c.before-mine.ensures in
    let xs = before c.args.occurrences.now c.args.end in
    let old = c.args.periods.now.items in
    let in_years = subst (λ (o : Option ℤ). IfSome o (λ t. IsInYears 9002 t × (t <ℤ c.args.end))) c.in-Some.is c.requires.start in
    let so_far = subst (λ (o : Option ℤ). AreSoFar zone number o old) c.in-Some.is c.requires.so_far in
    let is = subst (λ (o : Option ℤ). IsLineTo zone number o c.args.end xs) c.in-Some.is c.requires.line in
    let same = cast 9002 s (omega arith) in_years.0 in
    let from : s ≤ℤ w = omega (arith, ints, c.window_end-window.ensures.from, same) in
    let to : w <ℤ (s +ℤ pos 432_000) = omega (arith, ints, c.window_end-window.ensures.to, same) in
    let fits = window_cast s w in_years.0 from to in
    let split : not_after xs w ++ c.after.result.now ≡ xs =
    ap (λ (t : ℤ). not_after xs t ++ c.after.result.now) (sym fits)
    ∙ ap (λ (l : List TimedOccurrence). not_after l (to_z w64 (of_z w64 w)) ++ c.after.result.now) (sym mine) ∙ c.after.ensures ∙ mine
    in
    let rule : c.rule_at.result ≡ rule_at xs w = c.rule_at.ensures ∙ (λ k. rule_at (mine k) (fits k)) in
    let one : Period = record { from = to_z w64 (of_z w64 s); line = number; rule = c.rule_at.result } in
    let first : one ≡ record { from = s; line = number; rule = rule_at xs w } = λ k. record { from = same k; line = number; rule = rule k } in
    let more = map (period_at number) c.after.result.now in
    if_ok_map c.add_occurrences-2.result _ _
    (λ _ e. added_later zone number s c.args.end w has.line xs c.after.result.now one old _ has.at so_far is
    (window_of_line zone number w has c.window_end-window.ensures.window) from to in_years.1 split first
    (e ∙ ap (λ (l : List Period). l ++ more) c.in_ok-push.ensures.items))
    c.add_occurrences-2.ensures.items

pub returns-clause-none : goal.returns-clause-none
returns-clause-none c = search rules

pub returns-clause-memory : goal.returns-clause-memory
returns-clause-memory c = search rules
