use Rattle.std.proofs.Common.{◌∙◌, ℕ, arith}
use Rattle.std.proofs.lemmas.List.{length-set}
use Rattle.zic_piece_rows.specs.code.Pairs.{IfFile, pair_in}
use Rattle.zic_piece_rows.proofs.Columns.{more_is}
use Rattle.zic_piece_rows.proofs.pairs.find_other_files.Goals as goal

pub find_file-number-requires-clause-pair : goal.find_file-number-requires-clause-pair
find_file-number-requires-clause-pair c = c.requires.are c.loop-i.i c.loop-i-test.true

pub loop-i-preserved : goal.loop-i-preserved
loop-i-preserved c =
    let l = c.loop-i in
    record {
      long = length-set l.files l.i _ ∙ l.invariant.long;
      found = more_is 0 (λ (j file : ℕ). IfFile c.args.other.now (pair_in c.args.pairs.now j) file)
          l.i l.files _ (omega (arith, l.invariant.long, c.requires.few, c.loop-i-test.true)) l.invariant.found c.find_file-number.ensures;
    }
