use Rattle.zic_columns.proofs.FirstRecords.{alone_by, line_ended, of_closed}
use Rattle.zic_columns.proofs.ClosedLines.{open_unended}
use Rattle.zic_columns.proofs.laws.first_record_is_alone.Goals as goal

pub returns : goal.returns
returns c = record { same = λ mode d bytes can. alone_by can mode bytes; ended = line_ended; closed = λ d line can. of_closed can line; opened = λ d line can. open_unended can line }
