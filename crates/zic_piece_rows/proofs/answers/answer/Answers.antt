use Rattle.std.proofs.Common.{◌∙◌, refl, subst, sym}
use Rattle.std.specs.Prelude.{IsSome}
use Rattle.std.proofs.lemmas.Option.{same_Some}
use Rattle.zic_piece_rows.specs.code.Answer.{shown_in}
use Rattle.zic_piece_rows.proofs.KnownRows.{known_shown, known_sound}
use Rattle.zic_piece_rows.proofs.RowFaults.{unkept}
use Rattle.zic_piece_rows.proofs.answers.answer.Goals as goal

pub answer-requires-clause-file : goal.answer-requires-clause-file
answer-requires-clause-file c = let (state, got, is) = c.requires.found.answer c.if-known-ne-UNKNOWN.true in subst IsSome (sym is.named) refl

pub returns-then-asked-piece : goal.returns-then-asked-piece
returns-then-asked-piece c =
    let piece = c.args.piece.now in
    let given = c.args.given.now in
    let time = c.args.asked.time in
    let known = c.args.known in
    let answer = c.answer.ensures in
    let (state, got, is) = c.requires.found.answer c.if-known-ne-UNKNOWN.true in (
      known_sound piece given time known state is c.args.asked.number c.requires.split c.if-asked-piece.true,
      unkept piece given is.read.count is.read.says,
      known_shown piece given time known state is c.answer.result answer.file answer.input answer.time (same_Some state (shown_in c.answer.result.state) (sym got ∙ answer.state)),
    )
