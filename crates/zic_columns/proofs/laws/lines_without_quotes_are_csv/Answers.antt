use Rattle.zic_columns.proofs.ClosedLines.{without_quotes}
use Rattle.zic_columns.proofs.laws.lines_without_quotes_are_csv.Goals as goal

pub returns : goal.returns
returns c = λ d bytes can. without_quotes can bytes
