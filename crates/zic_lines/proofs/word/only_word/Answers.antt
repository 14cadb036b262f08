use Rattle.std.proofs.Common.{◌∙◌, ◌-◌, length, take, drop, ℕ, Option, sym, ap, ◌+◌, refl}
use Rattle.zic_lines.proofs.OnlyWords.{only_with, left, read, all_left, first_found, second_found, passed_over, no_word}
use Rattle.zic_lines.proofs.word.only_word.Goals as goal
use Rattle.zic_lines.proofs.word.only_word.Goals.{then-begins_with_letter+else-is_some, else-begins_with_letter}

pub returns-in_default-clause-value : goal.returns-in_default-clause-value
returns-in_default-clause-value c = no_word (read c.args.words.now) c.args.field.now c.in_default.len_below

pub loop-place-init : goal.loop-place-init
loop-place-init c = record { value = all_left (read c.args.words.now) c.args.field.now _ _ c.in-len1-up.len_at_least c.to_ascii_lowercase-letter.ensures.value refl; within = tt }

pub returns-then-is_some-clause-value : goal.returns-then-is_some-clause-value
returns-then-is_some-clause-value c =
    second_found _ _ c.args.words.now c.loop-place.place _ _ c.loop-place-test.true c.loop-place.found (sym c.if-is_some.ensures) c.if-begins_with_letter.ensures c.loop-place.invariant.value

pub loop-place-preserved : goal.loop-place-preserved
loop-place-preserved c =
    let words = c.args.words.now in
    let place = c.loop-place.place in
    let rest : Option ℕ → Option ℕ = λ found. only_with found (left c.to_ascii_lowercase-letter.result (take (length c.args.field.now - 1) (drop 1 c.args.field.now)) (read words) (place + 1)) in
    elim c.if-begins_with_letter.branch [
      | then-begins_with_letter+else-is_some w ↦
          record {
            value = ap rest w.found-is ∙ first_found _ _ words place _ _ c.loop-place-test.true c.loop-place.found (sym w.if-is_some.ensures) w.if-begins_with_letter.ensures c.loop-place.invariant.value;
            within = rw w.found-is c.loop-place-test.true;
          }
      | else-begins_with_letter w ↦
          record {
            value = ap rest w.found-is ∙ passed_over _ _ words place _ _ c.loop-place-test.true c.loop-place.found w.if-begins_with_letter.ensures c.loop-place.invariant.value;
            within = rw w.found-is c.loop-place.invariant.within;
          }
    ]
