use Rattle.std.proofs.Common.{◌≡◌, ◌∙◌, ◌++◌, ℕ, List, ap, drop, subst, take}
use Rattle.zic_columns.specs.Record.{bytes_at}
use Rattle.zic_piece_rows.specs.LayoutRows.{or_quotes}
use Rattle.zic_piece_rows.specs.code.Answer.{first_at}
use Rattle.zic_piece_rows.proofs.Around.{has_field, replaced_row}
use Rattle.zic_piece_rows.proofs.start.push_replaced.Goals as goal

pub returns-clause-text : goal.returns-clause-text
returns-clause-text c =
    let piece = c.args.piece.now in
    let bytes = piece.bytes.now in
    let given = c.args.given.now in
    let around = c.around_time-around in
    let counts = c.requires.shown.counts in
    let has = has_field piece given c.requires.split counts.input c.requires.shown.query.counts.input_is in
    let field = first_at piece c.args.answer.now in
    let made = subst (λ (r : List ℕ). c.push_quotes.new.text ++ r ≡ take c.len-start.result c.push_first_field.new.text ++ or_quotes (drop c.len-start.result c.push_first_field.new.text ++ r)) c.of-2.ensures c.in_ok-push_quotes.ensures in
    replaced_row c.args.text.now (bytes_at bytes around.result.before) (bytes_at bytes around.result.after) field _ c.push.new.self c.push_first_field.new.text c.push_quotes.new.text _ c.len-start.ensures
    (c.in_ok-push.ensures ∙ ap (λ (l : List ℕ). c.args.text.now ++ l) c.of.ensures) c.in_ok-push_first_field.ensures made (around.ensures.replaces has field)
