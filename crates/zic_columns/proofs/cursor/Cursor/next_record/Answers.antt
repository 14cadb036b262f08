use Rattle.std.proofs.Common.{◌<◌, ℕ, ◌∷◌, drop, length, sym, ap, subst, ◌∙◌, arith}
use Rattle.std.proofs.lemmas.List.{length-drop, nil_from_length}
use Rattle.zic_columns.specs.Own.{csv_records}
use Rattle.zic_columns.specs.Record.{record_at}
use Rattle.zic_columns.specs.code.Walk.{IsRecordFrom}
use Rattle.zic_columns.proofs.SplitFacts.{first_next, none_next, plain_next}
use Rattle.zic_columns.proofs.cursor.Cursor.next_record.Goals as goal

pub returns-then-self-piece-clause-next : goal.returns-then-self-piece-clause-next
returns-then-self-piece-clause-next c =
    let piece = c.args.piece.now in
    let start = c.pass_line_ends.new.self.at in
    none_next c.args.delimiter.can piece c.args.self.now.at start c.pass_line_ends.ensures.after
    (nil_from_length (drop start piece) (omega (arith, length-drop start piece, c.if-self-piece.true)))

pub returns-then-piece-self-eq34-clause-next : goal.returns-then-piece-self-eq34-clause-next
returns-then-piece-self-eq34-clause-next c =
    let piece = c.args.piece.now in
    let given = c.split_record-given in (
      first_next c.args.delimiter.can piece c.args.self.now.at c.pass_line_ends.new.self.at c.pass_line_ends.ensures.after c.args.wanted given.result given.ensures
          ∙ ap (λ (n : ℕ). record_at c.args.delimiter.byte piece given.result ∷ csv_records c.args.delimiter.byte (drop n piece)) (sym c.new.ensures.at),
      given.ensures.split,
    )

pub returns-in-Ok-clause-next : goal.returns-in-Ok-clause-next
returns-in-Ok-clause-next c =
    let given = c.in-Ok.given in (
      plain_next c.args.delimiter.can c.args.piece.now c.args.self.now.at c.pass_line_ends.new.self.at c.pass_line_ends.ensures.after c.args.wanted _ given c.in-Ok.ensures,
      c.in-Ok.ensures.from.split,
    )

pub returns-in-Err-clause-next : goal.returns-in-Err-clause-next
returns-in-Err-clause-next c =
    let piece = c.args.piece.now in
    let wanted = c.args.wanted in
    let start = c.pass_line_ends.new.self.at in
    let given = c.split_rest-given in
    let is : IsRecordFrom c.args.delimiter.byte piece start wanted given.result = subst (λ (n : ℕ). IsRecordFrom c.args.delimiter.byte piece n wanted given.result) c.in-Err.ensures.own given.ensures in (
      first_next c.args.delimiter.can piece c.args.self.now.at start c.pass_line_ends.ensures.after wanted given.result is
          ∙ ap (λ (n : ℕ). record_at c.args.delimiter.byte piece given.result ∷ csv_records c.args.delimiter.byte (drop n piece)) (sym c.new-in-Err.ensures.at),
      given.ensures.split,
    )

pub pass_line_ends-requires : goal.pass_line_ends-requires
pass_line_ends-requires c = omega (arith, c.requires.low, c.requires.high)

pub returns-then-self-piece-clause-shows : goal.returns-then-self-piece-clause-shows
returns-then-self-piece-clause-shows c = c.pass_line_ends.ensures.shows c.args.delimiter.byte c.requires

pub bounds-piece-self : goal.bounds-piece-self
bounds-piece-self c =
    let shows = c.pass_line_ends.ensures.shows c.args.delimiter.byte c.requires in
    omega (arith, shows.low, shows.high, c.if-self-piece.false)

pub split_plain-requires-clause-begins : goal.split_plain-requires-clause-begins
split_plain-requires-clause-begins c =
    let shows = c.pass_line_ends.ensures.shows c.args.delimiter.byte c.requires in
    let at = c.pass_line_ends.new.self.at in
    let some : 0 < length (drop at c.args.piece.now) = omega (arith, shows.low, shows.high, c.if-self-piece.false, length-drop at c.args.piece.now) in
    record { some = some; begins = c.pass_line_ends.ensures.after.begins some }

pub split_plain-requires-clause-shows : goal.split_plain-requires-clause-shows
split_plain-requires-clause-shows c = c.pass_line_ends.ensures.shows c.args.delimiter.byte c.requires
