use Rattle.std.proofs.Common.{◌<◌, take, arith}
use Rattle.zic_columns.specs.declared.splits.TheConstants.{BATCH}
use Rattle.zic_zones.proofs.Pieces.{batch_done, piece_done}
use Rattle.zic_zones.proofs.tree_zones.TreeZones.learn_piece.Goals as goal

pub loop-count-preserved : goal.loop-count-preserved
loop-count-preserved g c =
    let l = c.loop-count in
    let fill = c.fill-count in
    let facts = c.in_ok-learn_records.ensures in
    batch_done g.T.ZoneTree.replied c.args.self.now c.args.delimiter.now c.args.piece.now c.args.index l.self l.splitter l.count l.invariant c.learn_records.new.self fill.new.self fill.result
    (take fill.result fill.new.records) fill.ensures.delimiter fill.ensures.piece fill.ensures.wanted fill.ensures.split fill.ensures.each fill.ensures.few fill.ensures.end facts.grown facts.known

pub returns-clause-known : goal.returns-clause-known
returns-clause-known g c =
    let l = c.loop-count in
    let few = l.invariant.few in
    let lt : l.count < BATCH = omega (arith, few, c.loop-count-test.false) in
    piece_done g.T.ZoneTree.replied c.args.self.now c.args.delimiter.now c.args.piece.now c.args.index l.self l.splitter l.count l.invariant lt
