use Rattle.std.proofs.Common.{◌≡◌, ◌+◌, ◌∙◌, sym, ap, subst, arith, rules, get_or, ℤ, ◌<ℤ◌, ◌≤ℤ◌, pos, to_z, of_z, w32, w64, FitsSigned}
use Rattle.std.specs.Prelude.{slice_get}
use Rattle.std.proofs.lemmas.Int.{ints}
use Rattle.std.proofs.lemmas.Option.{slice_get-get_or}
use Rattle.zic_states.specs.declared.occurrence.TimedOccurrence.{TimedOccurrence}
use Rattle.zic_states.specs.Until.{until_by}
use Rattle.zic_states.proofs.LineWalk.{IsPassedOnLine, passed_more, read_at, read_at_end, rule_known, same_reading, le_from_test, lt_from_test, cast_within_day}
use Rattle.zic_states.proofs.until.saved_by_set.Goals as goal

abbrev none : TimedOccurrence
none = record { instant = pos 0; rule = 0; year = 0 }

pub returns-then-instant-occurrence : goal.returns-then-instant-occurrence
returns-then-instant-occurrence c =
    let xs = c.args.occurrences.now in
    let k = c.loop-occurrence.occurrence-index in
    let line = c.args.line.now in
    let until = c.args.until in
    let second = c.nominal_second-second in
    let read : c.instant_by-instant.result ≡ until_by line.offset until (to_z w32 c.loop-occurrence.saved-bits) =
    c.instant_by-instant.ensures ∙ same_reading until.moment.at.form _ _ _ _ c.requires.line.offset second.ensures.near second.ensures.value
    in
    let fits : FitsSigned w64 (get_or xs k none).instant = search rules in
    let found = (get_or xs k none).instant in
    let test = le_from_test (to_z w64 (of_z w64 c.instant_by-instant.result)) (to_z w64 (of_z w64 found)) c.if-instant-occurrence.true in
    let le : until_by line.offset until (to_z w32 c.loop-occurrence.saved-bits) ≤ℤ (get_or xs k none).instant = omega (arith, ints, test, read) in
    read_at c.args.source.now.rules line until xs c.requires.rules c.requires.line c.requires.occurrences k _ c.loop-occurrence.invariant
    (get_or xs k none) (slice_get-get_or xs k none c.loop-occurrence-test.true) le

pub rule-requires : goal.rule-requires
rule-requires c =
    let xs = c.args.occurrences.now in
    let k = c.loop-occurrence.occurrence-index in
    let known = rule_known c.args.source.now.rules c.args.line.now c.args.until xs c.requires.rules c.requires.line c.requires.occurrences k
    (get_or xs k none) (slice_get-get_or xs k none c.loop-occurrence-test.true)
    in
    omega (arith, known, c.from.ensures)

pub loop-occurrence-preserved : goal.loop-occurrence-preserved
loop-occurrence-preserved c =
    let source = c.args.source.now.rules in
    let xs = c.args.occurrences.now in
    let k = c.loop-occurrence.occurrence-index in
    let line = c.args.line.now in
    let until = c.args.until in
    let second = c.nominal_second-second in
    let rule = c.rule.result.now in
    let read : c.instant_by-instant.result ≡ until_by line.offset until (to_z w32 c.loop-occurrence.saved-bits) =
    c.instant_by-instant.ensures ∙ same_reading until.moment.at.form _ _ _ _ c.requires.line.offset second.ensures.near second.ensures.value
    in
    let fits : FitsSigned w64 (get_or xs k none).instant = search rules in
    let found = (get_or xs k none).instant in
    let test = lt_from_test (to_z w64 (of_z w64 c.instant_by-instant.result)) (to_z w64 (of_z w64 found)) c.if-instant-occurrence.false in
    let lt : (get_or xs k none).instant <ℤ until_by line.offset until (to_z w32 c.loop-occurrence.saved-bits) = omega (arith, ints, test, read) in
    let Passed : ℤ → Type 0 = λ saved. IsPassedOnLine source line until xs (k + 1) saved in
    let is_rule : slice_get source (get_or xs k none).rule ≡ _ = ap (slice_get source) (sym c.from.ensures) ∙ c.rule.ensures.rule in
    subst Passed (sym (cast_within_day rule.saving.seconds c.rule.ensures.sound.saving))
    (passed_more source line until xs c.requires.rules c.requires.line k _ c.loop-occurrence.invariant (get_or xs k none)
    (slice_get-get_or xs k none c.loop-occurrence-test.true) lt rule is_rule)

pub returns : goal.returns
returns c =
    read_at_end c.args.source.now.rules c.args.line.now c.args.until c.args.occurrences.now c.requires.rules c.requires.line c.requires.until
    c.requires.occurrences c.loop-occurrence.occurrence-index _ (omega arith) c.loop-occurrence.invariant
