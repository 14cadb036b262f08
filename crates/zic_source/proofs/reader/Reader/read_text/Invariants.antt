use Rattle.std.proofs.Common.{◌+◌, ◌≤◌, ◌++◌, ◌∷◌, [], length}
use Rattle.zic_lines.specs.Line.{lines_of}
use Rattle.zic_source.specs.Event.{End, text_events}
use Rattle.zic_source.specs.code.Lines.{source_lines}
use Rattle.zic_source.specs.code.Reader.{Tracks}
use Rattle.zic_source.proofs.events.Leads.{IsSoFar}
use Rattle.zic_source.proofs.events.Loops.{lines_from}
use Rattle.zic_source.proofs.reader.Reader.read_text.Given as goal

abbrev pub invariant-loop-rest : goal.invariant-loop-rest
invariant-loop-rest l = record {
  so_far : IsSoFar (source_lines l.fn.self.lines) (text_events l.number l.text) (lines_from l.number (l.line + 1) (lines_of l.rest) ++ End ∷ []) (source_lines l.self.lines);
  tracks : Tracks l.self;
  counted : l.line + length l.rest ≤ length l.text;
}

abbrev pub decreases-loop-rest : goal.decreases-loop-rest
decreases-loop-rest l = length l.rest
