use Rattle.std.proofs.Common.{inr, refl, arith}
use Rattle.zic_columns.proofs.Scanned.{lines_up_to_quote, lines_without_quote}
use Rattle.zic_columns.proofs.csv_scan.lines_before_quote.Goals as goal

pub returns-in-Some : goal.returns-in-Some
returns-in-Some c = lines_up_to_quote c.args.bytes.now c.in-Some.at c.split_lines.result.0.now c.split_lines.result.1.now c.in-Some.ensures c.split_lines.ensures

pub returns-in-None : goal.returns-in-None
returns-in-None c = lines_without_quote c.args.bytes.now c.split_lines-in-None.result.0.now c.split_lines-in-None.result.1.now c.in-None.ensures c.split_lines-in-None.ensures

pub returns-then-bytes-eq34 : goal.returns-then-bytes-eq34
returns-then-bytes-eq34 c = record {
  within = omega arith;
  plain = λ k d lt. absurd (omega (arith, lt));
  whole = λ last end. absurd (omega (arith, end));
  then = inr (record { some = omega (arith, c.if-bytes-eq34.true); begins = rw c.if-bytes-eq34.true refl });
}
