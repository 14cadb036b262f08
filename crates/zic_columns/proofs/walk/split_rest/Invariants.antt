use Rattle.std.proofs.Common.{◌-◌, length}
use Rattle.zic_columns.specs.code.Walk.{HasWalked}
use Rattle.zic_columns.proofs.walk.split_rest.Given as goal

abbrev pub invariant-loop-wanted : goal.invariant-loop-wanted
invariant-loop-wanted l = HasWalked l.delimiter.byte l.piece l.fn.begun.given.own.start l.wanted l.given l.at

abbrev pub decreases-loop-wanted : goal.decreases-loop-wanted
decreases-loop-wanted l = length l.piece - l.at
