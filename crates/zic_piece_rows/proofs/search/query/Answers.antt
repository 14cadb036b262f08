use Rattle.std.proofs.Common.{◌∙◌, FitsSigned, rules, sym, to_z-of_z}
use Rattle.std.specs.Int.{w128}
use Rattle.zic_piece_rows.specs.code.Batch.{record_of}
use Rattle.zic_piece_rows.proofs.RowFaults.{no_fault, open_wrong, out_of_range, right_counted, row_may, stray_wrong, too_long, unkept, untimed, wrong_quotes, zone_missing}
use Rattle.zic_piece_rows.proofs.search.query.Goals.{then-given-eq0-via-then-given-eq0, then-given-eq0-via-else-given-eq0+then-not-admits_stray}
use Rattle.zic_piece_rows.proofs.search.query.Goals as goal

pub returns-in_default : goal.returns-in_default
returns-in_default c =
    let short = rw c.of.ensures at (sym c.if-not-may_have.ensures) in
    let right = right_counted c.args.piece.now.layout.now.quotes c.args.piece.now.layout.now.delimiter (record_of c.args.piece.now c.args.given.now) _ (λ none. c.if-given-eq0.false (c.requires.split.count ∙ none)) c.requires.split.stray (sym c.admits_stray.ensures ∙ c.if-not-admits_stray.false) in
    let admits = sym (rw c.requires.split.count at c.if-not-admits.ensures) in
    (zone_missing c.args.piece.now c.args.number c.args.given.now c.if-piece-number.false short right admits (sym c.requires.file ∙ c.in_default.is), tt)

pub returns-in-Err : goal.returns-in-Err
returns-in-Err c =
    let short = rw c.of.ensures at (sym c.if-not-may_have.ensures) in
    let right = right_counted c.args.piece.now.layout.now.quotes c.args.piece.now.layout.now.delimiter (record_of c.args.piece.now c.args.given.now) _ (λ none. c.if-given-eq0.false (c.requires.split.count ∙ none)) c.requires.split.stray (sym c.admits_stray.ensures ∙ c.if-not-admits_stray.false) in
    let admits = sym (rw c.requires.split.count at c.if-not-admits.ensures) in
    let file_is = sym c.requires.file ∙ c.in-Some.is in
    untimed c.args.piece.now c.args.number c.args.given.now c.if-piece-number.false short right admits c.in-Some.file file_is c.in-Err.fault (rw c.in-Err.is at c.requires.times)

pub returns-then-not-is_in_range : goal.returns-then-not-is_in_range
returns-then-not-is_in_range c =
    let short = rw c.of.ensures at (sym c.if-not-may_have.ensures) in
    let right = right_counted c.args.piece.now.layout.now.quotes c.args.piece.now.layout.now.delimiter (record_of c.args.piece.now c.args.given.now) _ (λ none. c.if-given-eq0.false (c.requires.split.count ∙ none)) c.requires.split.stray (sym c.admits_stray.ensures ∙ c.if-not-admits_stray.false) in
    let admits = sym (rw c.requires.split.count at c.if-not-admits.ensures) in
    let count = c.in-Ok.counts.count in
    let row_record : FitsSigned w128 count = search rules in
    let counts = rw c.in-Ok.is at c.requires.times in (
      out_of_range c.args.piece.now c.args.number c.args.given.now c.if-piece-number.false short right admits c.in-Some.file (sym c.requires.file ∙ c.in-Some.is)
          (unkept c.args.piece.now c.args.given.now _ counts.input_is) count counts.time (sym (rw (to_z-of_z row_record) at c.if-not-is_in_range.ensures)),
      tt,
    )

pub returns : goal.returns
returns c =
    let piece = c.args.piece.now in
    let given = c.args.given.now in
    let count = c.in-Ok.counts.count in
    let short = rw c.of.ensures at (sym c.if-not-may_have.ensures) in
    let right = right_counted c.args.piece.now.layout.now.quotes c.args.piece.now.layout.now.delimiter (record_of c.args.piece.now c.args.given.now) _ (λ none. c.if-given-eq0.false (c.requires.split.count ∙ none)) c.requires.split.stray (sym c.admits_stray.ensures ∙ c.if-not-admits_stray.false) in
    let admits = sym (rw c.requires.split.count at c.if-not-admits.ensures) in
    let row_record : FitsSigned w128 count = search rules in
    let file_is = sym c.requires.file ∙ c.in-Some.is in
    let counts = rw c.in-Ok.is at c.requires.times in
    let in_range = sym (rw (to_z-of_z row_record) at c.if-not-is_in_range.ensures) in
    let may = row_may _ in_range in
    record {
      sound = no_fault piece c.args.number given c.if-piece-number.false short right admits c.in-Some.file file_is (unkept piece given _ counts.input_is) count counts.time in_range;
      is = record { file = file_is; counts = counts; may = may };
    }

pub returns-then-given-eq0 : goal.returns-then-given-eq0
returns-then-given-eq0 c =
    let short = rw c.of.ensures at (sym c.if-not-may_have.ensures) in
    let quotes = c.args.piece.now.layout.now.quotes in
    let delimiter = c.args.piece.now.layout.now.delimiter in
    let row_record = record_of c.args.piece.now c.args.given.now in (
      wrong_quotes c.args.piece.now c.args.number c.args.given.now c.if-piece-number.false short (elim c.then-given-eq0.branch [
        | then-given-eq0-via-then-given-eq0 w ↦ open_wrong quotes delimiter row_record (sym c.requires.split.count ∙ w.if-given-eq0.true)
        | then-given-eq0-via-else-given-eq0+then-not-admits_stray w ↦ stray_wrong quotes delimiter row_record _ c.requires.split.stray (sym w.admits_stray.ensures ∙ w.if-not-admits_stray.true)
      ]),
      tt,
    )

pub returns-then-not-may_have : goal.returns-then-not-may_have
returns-then-not-may_have c = (too_long c.args.piece.now c.args.number c.args.given.now c.if-piece-number.false (rw c.of.ensures at (sym c.if-not-may_have.ensures)), tt)
