use Rattle.std.proofs.Common.{sym}
use Rattle.zic_explain.proofs.Names.{without_one_more, without_all}
use Rattle.zic_explain.proofs.explain.entry_named.Goals as goal

pub loop-entry-preserved : goal.loop-entry-preserved
loop-entry-preserved c =
    without_one_more c.args.entries.now c.args.name.now c.loop-entry.entry-index _ c.loop-entry-test.true
    (sym c.if-eq.ensures) c.loop-entry.invariant

pub returns-clause-none : goal.returns-clause-none
returns-clause-none c =
    without_all c.args.entries.now c.args.name.now c.loop-entry.entry-index c.loop-entry-test.false c.loop-entry.invariant
