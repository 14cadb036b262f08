use Rattle.std.specs.Prelude.{is_none, count_by}
use Rattle.zic_source.specs.code.Lines.{source_lines}
use Rattle.zic_source.proofs.links.Walks.{IsWalk}
use Rattle.zic_source.proofs.chains.follow.Given as goal

abbrev pub invariant-loop-ends : goal.invariant-loop-ends
invariant-loop-ends l = IsWalk l.names (source_lines l.lines) l.start l.fn.ends l.ends l.path.items l.link

abbrev pub decreases-loop-ends : goal.decreases-loop-ends
decreases-loop-ends l = count_by is_none l.ends
