use Rattle.std.proofs.Common.{◌≡◌, ◌+◌, ℤ, pos, List, get_or, Some, refl, sym, ap, subst, ◌∙◌, to_z, of_z, w32, w64, arith}
use Rattle.std.specs.Prelude.{slice_get}
use Rattle.std.proofs.lemmas.Int.{ints}
use Rattle.zic_states.specs.declared.nominal.Nominal.{Nominal}
use Rattle.zic_states.specs.declared.occurrence.TimedOccurrence.{TimedOccurrence}
use Rattle.zic_states.specs.Order.{instant_by}
use Rattle.zic_states.specs.code.Timed.{timed_from, HasFall, ComesAfter, ComesNotAfter}
use Rattle.zic_states.proofs.Timed.{AreTimed, one_timed, one_falls, all_timed}
use Rattle.zic_states.proofs.walk.timed.Goals as goal

pub returns-then-not-comes_after-clause-err : goal.returns-then-not-comes_after-clause-err
returns-then-not-comes_after-clause-err c =
    let rules = c.args.source.now.rules in
    let ns = c.args.nominals.now in
    let none : Nominal = record { second = pos 0; rule = 0; year = 0 } in
    let n = get_or ns c.loop-nominal.nominal-index none in
    let rule = c.rule-rule.result.now in
    let offset = to_z w32 (of_z w32 c.args.offset) in
    let saved = to_z w32 c.loop-nominal.saved-bits in
    let instant = to_z w64 (of_z w64 c.instant_by-instant.result) in
    let at : slice_get rules n.rule ≡ Some rule = ap (slice_get rules) (sym c.from.ensures) ∙ c.rule-rule.ensures.rule in
    let second : to_z w64 (of_z w64 n.second) ≡ n.second = omega (arith, ints, c.requires.near c.loop-nominal.nominal-index none c.loop-nominal-test.true) in
    let back : instant ≡ c.instant_by-instant.result = omega (arith, ints, c.instant_by-instant.type_inv) in
    let reckoned = back ∙ c.instant_by-instant.ensures ∙ ap (λ (s : ℤ). instant_by rule.moment.at.form offset saved s) second in
    let same : offset ≡ c.args.offset = omega (arith, ints, c.requires.offset) in
    let falls : ComesNotAfter c.loop-nominal.timed.items instant =
    subst (λ (l : List TimedOccurrence). ComesNotAfter l instant) c.deref.ensures.value c.if-not-comes_after.ensures in
    let fall = one_falls rules offset saved ns c.loop-nominal.nominal-index n none rule c.loop-nominal.timed.items instant c.loop-nominal.invariant c.loop-nominal-test.true refl at reckoned falls in
    (refl, subst (λ (o : ℤ). HasFall (timed_from rules o (pos 0) ns)) same fall)

pub loop-nominal-preserved : goal.loop-nominal-preserved
loop-nominal-preserved c =
    let rules = c.args.source.now.rules in
    let ns = c.args.nominals.now in
    let none : Nominal = record { second = pos 0; rule = 0; year = 0 } in
    let n = get_or ns c.loop-nominal.nominal-index none in
    let rule = c.rule-rule.result.now in
    let offset = to_z w32 (of_z w32 c.args.offset) in
    let saved = to_z w32 c.loop-nominal.saved-bits in
    let instant = to_z w64 (of_z w64 c.instant_by-instant.result) in
    let at : slice_get rules n.rule ≡ Some rule = ap (slice_get rules) (sym c.from.ensures) ∙ c.rule-rule.ensures.rule in
    let second : to_z w64 (of_z w64 n.second) ≡ n.second = omega (arith, ints, c.requires.near c.loop-nominal.nominal-index none c.loop-nominal-test.true) in
    let back : instant ≡ c.instant_by-instant.result = omega (arith, ints, c.instant_by-instant.type_inv) in
    let reckoned = back ∙ c.instant_by-instant.ensures ∙ ap (λ (s : ℤ). instant_by rule.moment.at.form offset saved s) second in
    let saving : to_z w32 (of_z w32 rule.saving.seconds) ≡ rule.saving.seconds = omega (arith, ints, c.rule-rule.ensures.sound.saving) in
    let after : ComesAfter c.loop-nominal.timed.items instant =
    subst (λ (l : List TimedOccurrence). ComesAfter l instant) c.deref.ensures.value c.if-not-comes_after.ensures in
    subst (λ (s : ℤ). AreTimed rules offset ns (c.loop-nominal.nominal-index + 1) c.push.new.self.items s) (sym saving)
    (one_timed rules offset saved ns c.loop-nominal.nominal-index n none rule c.loop-nominal.timed.items c.push.new.self.items instant c.loop-nominal.invariant c.loop-nominal-test.true refl at
    c.rule-rule.ensures.sound.saving reckoned after c.in_ok-push.ensures.items)

pub returns-clause-items : goal.returns-clause-items
returns-clause-items c =
    let rules = c.args.source.now.rules in
    let ns = c.args.nominals.now in
    let same : to_z w32 (of_z w32 c.args.offset) ≡ c.args.offset = omega (arith, ints, c.requires.offset) in
    all_timed rules (to_z w32 (of_z w32 c.args.offset)) (to_z w32 c.loop-nominal.saved-bits) ns c.loop-nominal.nominal-index c.loop-nominal.timed.items c.loop-nominal.invariant c.loop-nominal-test.false
    ∙ ap (λ (o : ℤ). timed_from rules o (pos 0) ns) same
