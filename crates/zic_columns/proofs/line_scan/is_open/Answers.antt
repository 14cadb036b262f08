use Rattle.std.proofs.Common.{◌≡◌, ◌∙◌, ap, sym}
use Rattle.zic_columns.specs.Quotes.{is_open, is_quoted}
use Rattle.zic_columns.specs.code.Machine.{state_at}
use Rattle.zic_columns.proofs.LineStates.{last_state, next_state, not_quoted, open_from_start}
use Rattle.zic_columns.proofs.line_scan.is_open.Goals as goal

pub loop-byte-preserved : goal.loop-byte-preserved
loop-byte-preserved c =
    let l = c.loop-byte in
    sym (next_state c.args.delimiter.can (state_at l.place_now) (state_at c.in-Some.next) c.args.line.now l.byte-index c.loop-byte-test.true c.in-Some.ensures.1) ∙ l.invariant

pub returns-in-Quoted : goal.returns-in-Quoted
returns-in-Quoted c =
    let l = c.loop-byte in
    let line = c.args.line.now in
    let ends : is_open c.args.delimiter.byte line ≡ is_quoted (state_at l.place_now) =
    open_from_start c.args.delimiter.can line c.requires ∙ ap is_quoted (sym l.invariant ∙ last_state c.args.delimiter.can (state_at l.place_now) line l.byte-index c.loop-byte-test.false) in
    sym (rw c.in-Quoted.is at ends)

pub returns-in_default : goal.returns-in_default
returns-in_default c =
    let l = c.loop-byte in
    let line = c.args.line.now in
    sym (open_from_start c.args.delimiter.can line c.requires ∙ ap is_quoted (sym l.invariant ∙ last_state c.args.delimiter.can (state_at l.place_now) line l.byte-index c.loop-byte-test.false)
    ∙ not_quoted l.place_now c.in_default.not-Quoted)
