use Rattle.std.proofs.Common.{◌+◌, drop}
use Rattle.zic_source.specs.code.Lines.{no_lines, source_lines}
use Rattle.zic_source.specs.Event.{events_of}
use Rattle.zic_source.specs.Texts.{texts_of}
use Rattle.zic_source.specs.code.Reader.{Tracks}
use Rattle.zic_source.proofs.events.Leads.{IsSoFar}
use Rattle.zic_source.proofs.events.Loops.{texts_from}
use Rattle.zic_source.proofs.reader.read_texts.Given as goal

abbrev pub invariant-loop-index : goal.invariant-loop-index
invariant-loop-index l = record {
  so_far : IsSoFar no_lines (events_of (texts_of l.texts)) (texts_from (l.index + 1) (drop l.index (texts_of l.texts))) (source_lines l.reader.lines);
  tracks : Tracks l.reader;
}
