use Rattle.std.proofs.Common.{◌≡◌, ◌∙◌, ◌++◌, ℕ, List, ap, arith, length, length-append, subst, sym}
use Rattle.std.specs.Prelude.{IfOk}
use Rattle.zic_columns.specs.Own.{CsvRecord}
use Rattle.zic_piece_rows.specs.code.Pairs.{pairs_of}
use Rattle.zic_piece_rows.specs.code.Piece.{AreNextRows}
use Rattle.zic_piece_rows.specs.code.Row.{by_both, files_of}
use Rattle.zic_piece_rows.proofs.PlainPairs.{pairs_counted}
use Rattle.zic_piece_rows.proofs.row.Rows.add_next.Goals as goal

pub add_pairs-requires-clause-pairs : goal.add_pairs-requires-clause-pairs
add_pairs-requires-clause-pairs c = c.next_pairs-count.ensures.pairs c.if-count-gt0.true

pub add_pairs-requires-clause-fits : goal.add_pairs-requires-clause-fits
add_pairs-requires-clause-fits c =
    let next = c.next_pairs-count in
    let piece = c.args.piece.now in
    let pairs = next.new.pairs in
    omega (arith, c.requires.fits, ap length next.ensures.parts, length-append (pairs_of piece pairs next.result) next.new.splitter.left, pairs_counted piece pairs next.result next.ensures.few next.ensures.long)

pub returns-then-count-gt0-clause-next : goal.returns-then-count-gt0-clause-next
returns-then-count-gt0-clause-next c =
    let next = c.next_pairs-count in
    let piece = c.args.piece.now in
    let pairs = next.new.pairs in
    let added = c.in_ok-add_pairs.ensures in
    record {
      next = pairs_of piece pairs next.result;
      parts = next.ensures.parts;
      long = pairs_counted piece pairs next.result next.ensures.few next.ensures.long;
      rows = added.rows;
      counted = added.count;
    }

pub add_records-requires-clause-fits : goal.add_records-requires-clause-fits
add_records-requires-clause-fits c =
    let next = c.next_pairs-count in
    let zero : next.result ≡ 0 = omega (arith, c.if-count-gt0.false) in
    let same : c.args.splitter.now.left ≡ next.new.splitter.left = next.ensures.parts ∙ ap (λ (n : ℕ). pairs_of c.args.piece.now next.new.pairs n ++ next.new.splitter.left) zero in
    omega (arith, c.requires.fits, ap length same)

pub returns-clause-next : goal.returns-clause-next
returns-clause-next c =
    let next = c.next_pairs-count in
    let piece = c.args.piece.now in
    let zero : next.result ≡ 0 = omega (arith, c.if-count-gt0.false) in
    let same : c.args.splitter.now.left ≡ next.new.splitter.left = next.ensures.parts ∙ ap (λ (n : ℕ). pairs_of piece next.new.pairs n ++ next.new.splitter.left) zero in
    let records = c.add_records in
    subst (λ (left : List CsvRecord). IfOk records.result (AreNextRows piece (by_both piece (files_of c.args.other.now)) c.args.self.now records.new.self left records.new.splitter.left)) (sym same) records.ensures.next
