use Rattle.std.proofs.Common.{◌-◌, length}
use Rattle.zic_columns.specs.code.Ends.{ShowsEnds}
use Rattle.zic_columns.specs.code.Plain.{record_of}
use Rattle.zic_columns.specs.code.Walk.{HasWalked}
use Rattle.zic_columns.proofs.plain.split_fields.Given as goal

abbrev pub invariant-reading : goal.invariant-reading
invariant-reading l = record {
  walked : HasWalked l.delimiter.byte l.piece l.start l.wanted (record_of l.start l.start l.begun.fields) l.begun.at;
  shows : ShowsEnds l.delimiter.byte l.piece l.begun.at l.next;
}

abbrev pub decreases-reading : goal.decreases-reading
decreases-reading l = length l.piece - l.next.seen
