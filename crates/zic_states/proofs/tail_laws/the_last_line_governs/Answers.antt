use Rattle.zic_states.proofs.TailLine.{governs_from_start, governs_from_end}
use Rattle.zic_states.proofs.tail_laws.the_last_line_governs.Goals as goal

pub returns : goal.returns
returns c = record { from_start = governs_from_start; from_end = governs_from_end }
