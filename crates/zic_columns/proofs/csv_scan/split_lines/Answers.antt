use Rattle.zic_columns.proofs.LineCuts.{lines_found, lines_none}
use Rattle.zic_columns.proofs.csv_scan.split_lines.Goals as goal

pub returns-in-Some : goal.returns-in-Some
returns-in-Some c = rw (c.split_at.ensures.front, c.split_at.ensures.back) (lines_found c.args.bytes.now c.in-Some.last c.in-Some.ensures)

pub returns-in-None : goal.returns-in-None
returns-in-None c = lines_none c.args.bytes.now c.in-None.ensures
