use Rattle.std.proofs.Common.{ℕ, drop, subst, arith, length-set}
use Rattle.zic_columns.specs.code.Line.{IsAfterLineEnds}
use Rattle.zic_columns.proofs.PairMarks.{pairs_more, pairs_none}
use Rattle.zic_columns.proofs.pairs.split_pairs.Goals as goal

pub loop-count-init : goal.loop-count-init
loop-count-init c =
    let piece = c.args.piece.now in
    let from = c.args.from in
    let begun = c.new-cursor in
    let d = c.args.delimiter.byte in
    let shows = c.pass_line_ends.ensures.shows d (begun.ensures.shows d piece c.requires) in
    let after = subst (λ (n : ℕ). IsAfterLineEnds (drop n piece) (drop c.pass_line_ends.new.self.at piece)) begun.ensures.at c.pass_line_ends.ensures.after in
    record {
      few = omega arith;
      room = c.told-pairs;
      are = pairs_none c.args.delimiter.can piece from c.pass_line_ends.new.self.at after (omega (arith, shows.low, shows.high));
    }

pub loop-count-preserved : goal.loop-count-preserved
loop-count-preserved c =
    let l = c.loop-count in
    let before = l.invariant in
    record {
      few = omega (arith, c.loop-count-test.true);
      room = omega (arith, before.room, length-set l.pairs l.count c.in-Some.found.pair);
      are = pairs_more c.args.delimiter.can c.args.piece.now c.args.from l.at l.pairs l.count (omega (arith, c.loop-count-test.true, before.room)) before.are c.in-Some.found c.in-Some.ensures;
    }
