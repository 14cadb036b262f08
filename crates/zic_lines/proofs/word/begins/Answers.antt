use Rattle.std.proofs.Common.{◌<◌, length, sym, ◌∙◌, arith}
use Rattle.zic_lines.proofs.Words.{other_byte, same_byte, whole_front}
use Rattle.zic_lines.proofs.word.begins.Goals as goal

pub returns-then-to_ascii_lowercase-text : goal.returns-then-to_ascii_lowercase-text
returns-then-to_ascii_lowercase-text c =
    let text = c.args.text.now in
    let within : c.loop-index.index < length text = omega arith in
    other_byte text c.args.front.now c.loop-index.index within c.loop-index-test.true
    (λ e. c.if-to_ascii_lowercase-text.true (c.to_ascii_lowercase.ensures.value ∙ e)) c.loop-index.invariant

pub loop-index-preserved : goal.loop-index-preserved
loop-index-preserved c =
    let text = c.args.text.now in
    let within : c.loop-index.index < length text = omega arith in
    same_byte text c.args.front.now c.loop-index.index within c.loop-index-test.true
    (sym c.to_ascii_lowercase.ensures.value ∙ c.if-to_ascii_lowercase-text.false) c.loop-index.invariant

pub returns : goal.returns
returns c = whole_front c.args.text.now c.args.front.now c.loop-index.index c.loop-index-test.false c.loop-index.invariant
