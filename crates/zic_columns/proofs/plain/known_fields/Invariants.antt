use Rattle.std.proofs.Common.{◌≡◌, ◌-◌, length}
use Rattle.zic_columns.specs.code.Ends.{ShowsEnds}
use Rattle.zic_columns.specs.code.Plain.{record_of}
use Rattle.zic_columns.specs.code.Walk.{HasWalked}
use Rattle.zic_columns.proofs.plain.known_fields.Given as goal

abbrev pub invariant-known : goal.invariant-known
invariant-known l = record {
  walked : HasWalked l.delimiter.byte l.piece l.start l.fn.wanted (record_of l.start l.start l.fields) l.at;
  shows : ShowsEnds l.delimiter.byte l.piece l.at l.ends;
  seen : l.ends.seen ≡ l.fn.ends.seen;
}

abbrev pub decreases-known : goal.decreases-known
decreases-known l = length l.piece - l.at
