use Rattle.std.proofs.Common.{◌∙◌, ◌++◌, List, ap, refl, take}
use Rattle.std.proofs.lemmas.Simd.{map-map}
use Rattle.zic_columns.specs.Own.{CsvRecord}
use Rattle.zic_piece_rows.specs.code.Batch.{record_of}
use Rattle.zic_columns.specs.Record.{pair_record}
use Rattle.zic_piece_rows.proofs.PlainPairs.{are_split}
use Rattle.zic_piece_rows.proofs.piece.next_pairs.Goals as goal

pub returns-clause-parts : goal.returns-clause-parts
returns-clause-parts c =
    let fill = c.fill_pairs.ensures in
    let pairs = c.fill_pairs.new.pairs in
    let split = rw (c.requires.delimiter_is, c.requires.piece_is) at fill.split in
    split ∙ ap (λ (l : List CsvRecord). l ++ c.fill_pairs.new.self.left) (map-map (record_of c.args.piece.now) pair_record (take c.fill_pairs.result pairs))

pub returns-clause-pairs : goal.returns-clause-pairs
returns-clause-pairs c = λ some.
    let fill = c.fill_pairs.ensures in
    are_split c.args.piece.now c.fill_pairs.new.pairs c.fill_pairs.result (c.if-not-is_of_pairs.ensures refl) fill.few fill.long (rw (c.requires.delimiter_is, c.requires.piece_is, c.requires.wanted_is) at fill.each) (rw (c.requires.delimiter_is, c.requires.piece_is) at fill.bare)
