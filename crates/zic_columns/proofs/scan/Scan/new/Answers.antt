use Rattle.zic_columns.proofs.LineScans.{lines_none}
use Rattle.zic_columns.proofs.Scanned.{scanned_none}
use Rattle.zic_columns.proofs.scan.Scan.new.Goals as goal

pub returns-in-Csv-clause-scanned : goal.returns-in-Csv-clause-scanned
returns-in-Csv-clause-scanned c = scanned_none

pub returns-in-Lines-clause-scanned : goal.returns-in-Lines-clause-scanned
returns-in-Lines-clause-scanned c = lines_none
