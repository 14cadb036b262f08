use Rattle.std.proofs.Common.{◌≡◌, ◌-◌, ℕ, ◌<ℤ◌, MatchOption, get_or, ℤ, pos, ◌+ℤ◌, ◌≤ℤ◌, length, Some, FitsSigned, to_z, of_z, to_z-of_z, w64, subst, refl, arith, rules}
use Rattle.std.specs.Int.{saturate_signed}
use Rattle.std.specs.Prelude.{slice_get}
use Rattle.std.proofs.lemmas.Int.{ints}
use Rattle.std.proofs.lemmas.Option.{slice_get_read}
use Rattle.zic_compare.specs.Answers.{pair}
use Rattle.zic_compare.specs.Differences.{AreDifferences}
use Rattle.zic_posix.specs.declared.span.Instants.{Instants}
use Rattle.zic_compare.proofs.SummaryLemmas.{IsStart, agree_from, is_start, summary_is}
use Rattle.zic_compare.proofs.summary.summarize.Goals as goal

pub returns-then-count-eq0 : goal.returns-then-count-eq0
returns-then-count-eq0 c =
    let p = pair c.args.old.now c.args.new.now c.args.compared in
    let items = c.in_ok-found.found.items in
    let inner = c.last_transition_or.result in
    let start = c.last_transition_or-start.result in
    let end = c.saturating_add.result in
    let inner_fits : FitsSigned w64 inner = search rules in
    let start_fits : FitsSigned w64 start = search rules in
    let end_fits : FitsSigned w64 end = search rules in
    let since_is = to_z-of_z c.ranges.since in
    let inner_is = to_z-of_z inner_fits in
    let start_is = to_z-of_z start_fits in
    let end_is = to_z-of_z end_fits in
    let later = c.last_transition_or.ensures.later in
    let order = c.last_transition_or-start.ensures.later in
    let bounds : Instants = record { first = c.args.since; last = end } in
    let ends : end ≡ saturate_signed w64 (start +ℤ pos 12_622_780_800) =
    subst (λ (z : ℤ). end ≡ saturate_signed w64 (z +ℤ pos 12_622_780_800)) start_is c.saturating_add.ensures in
    let starts : IsStart p bounds start = is_start p bounds inner start
    (omega (arith, ints, later, since_is)) c.last_transition_or.ensures.past (omega (arith, ints, order, inner_is)) c.last_transition_or-start.ensures.past start_fits ends in
    let are : AreDifferences p bounds items =
    subst (λ (z : ℤ). AreDifferences p (record { first = z; last = end }) items) since_is
    (subst (λ (z : ℤ). AreDifferences p (record { first = to_z w64 (of_z w64 c.args.since); last = z }) items) end_is c.in_ok-found.ensures) in
    let empty : length items ≡ 0 = search rules in
    agree_from p bounds items are start starts empty

pub returns : goal.returns
returns c =
    let p = pair c.args.old.now c.args.new.now c.args.compared in
    let items = c.in_ok-found.found.items in
    let inner = c.last_transition_or.result in
    let start = c.last_transition_or-start.result in
    let end = c.saturating_add.result in
    let inner_fits : FitsSigned w64 inner = search rules in
    let start_fits : FitsSigned w64 start = search rules in
    let end_fits : FitsSigned w64 end = search rules in
    let since_is = to_z-of_z c.ranges.since in
    let inner_is = to_z-of_z inner_fits in
    let start_is = to_z-of_z start_fits in
    let end_is = to_z-of_z end_fits in
    let later = c.last_transition_or.ensures.later in
    let order = c.last_transition_or-start.ensures.later in
    let bounds : Instants = record { first = c.args.since; last = end } in
    let ends : end ≡ saturate_signed w64 (start +ℤ pos 12_622_780_800) =
    subst (λ (z : ℤ). end ≡ saturate_signed w64 (z +ℤ pos 12_622_780_800)) start_is c.saturating_add.ensures in
    let starts : IsStart p bounds start = is_start p bounds inner start
    (omega (arith, ints, later, since_is)) c.last_transition_or.ensures.past (omega (arith, ints, order, inner_is)) c.last_transition_or-start.ensures.past start_fits ends in
    let are : AreDifferences p bounds items =
    subst (λ (z : ℤ). AreDifferences p (record { first = z; last = end }) items) since_is
    (subst (λ (z : ℤ). AreDifferences p (record { first = to_z w64 (of_z w64 c.args.since); last = z }) items) end_is c.in_ok-found.ensures) in
    let count_is : c.len-count.result ≡ length items = search rules in
    let some = c.if-count-eq0.false in
    let first = c.index-first.result.now in
    let last = c.index-last.result.now in
    let at_first : slice_get items 0 ≡ Some first = slice_get_read items (length items) 0 first refl (omega (arith, count_is, some)) c.index-first.ensures in
    let at_last : slice_get items (length items - 1) ≡ Some last = slice_get_read items (length items) (length items - 1) last refl (omega (arith, count_is, some))
    (subst (λ (n : ℕ). last ≡ get_or items (n - 1) last) count_is c.index-last.ensures) in
    summary_is p bounds items are start starts first last _ at_first at_last (search rules) (search rules) (search rules)
    (subst (λ (z : ℤ). MatchOption c.end_before.result (z ≤ℤ last.instants.last) (λ end. (last.instants.last <ℤ z) × (end ≡ last.instants.last +ℤ pos 1))) start_is c.end_before.ensures)
