use Rattle.std.proofs.Common.{◌≡◌, ◌∙◌, sym}
use Rattle.zic_columns.specs.Quotes.{has_stray, is_quoted}
use Rattle.zic_columns.specs.code.Machine.{state_at}
use Rattle.zic_columns.proofs.LineStates.{not_quoted}
use Rattle.zic_columns.proofs.QuoteFacts.{at_last, from_field, on_at, past_at}
use Rattle.zic_columns.proofs.quote.has_stray.Goals as goal

pub loop-byte-init : goal.loop-byte-init
loop-byte-init c = sym (from_field c.args.delimiter.can c.args.own.now)

pub loop-byte-preserved : goal.loop-byte-preserved
loop-byte-preserved c =
    let l = c.loop-byte in
    on_at c.args.delimiter.can c.args.own.now l.byte-index l.place_now c.loop-byte-test.true c.in-Some.next c.in-Some.ensures ∙ l.invariant

pub returns-in-None : goal.returns-in-None
returns-in-None c =
    let l = c.loop-byte in
    sym (sym l.invariant ∙ past_at c.args.delimiter.can c.args.own.now l.byte-index l.place_now c.loop-byte-test.true c.in-None.ensures)

pub returns-in-Quoted : goal.returns-in-Quoted
returns-in-Quoted c =
    let l = c.loop-byte in
    let own = c.args.own.now in
    let ends : has_stray c.args.delimiter.byte own ≡ is_quoted (state_at l.place_now) = sym l.invariant ∙ at_last c.args.delimiter.can own l.byte-index l.place_now c.loop-byte-test.false in
    sym (rw c.in-Quoted.is at ends)

pub returns-in_default : goal.returns-in_default
returns-in_default c =
    let l = c.loop-byte in
    let own = c.args.own.now in
    sym (sym l.invariant ∙ at_last c.args.delimiter.can own l.byte-index l.place_now c.loop-byte-test.false ∙ not_quoted l.place_now c.in_default.not-Quoted)
