use Rattle.std.proofs.Common.{List, ℕ, map, subst, arith}
use Rattle.std.specs.Prelude.{All}
use Rattle.std.proofs.lemmas.List.{take_all}
use Rattle.zic_columns.specs.Round.{records_of}
use Rattle.zic_files.specs.Tree.{IsKnown}
use Rattle.zic_zones.specs.Zones.{field_at}
use Rattle.zic_zones.proofs.Pieces.{next_piece}
use Rattle.zic_zones.proofs.tree_zones.TreeZones.learn_round.Goals as goal

pub loop-number-preserved : goal.loop-number-preserved
loop-number-preserved g c =
    let l = c.loop-number in
    let facts = c.in_ok-learn_piece.ensures in
    next_piece g.T.ZoneTree.replied c.args.self.now c.args.delimiter.now c.args.index c.args.round.now l.self c.learn_piece.new.self l.number c.piece.result.now c.piece.ensures l.invariant facts.grown facts.known

pub returns-clause-known : goal.returns-clause-known
returns-clause-known g c =
    let l = c.loop-number in
    let all = take_all l.number c.args.round.now (omega (arith, c.loop-number-test.false, c.len-number-end.ensures)) in
    subst (λ (pieces : List (List ℕ)). All (IsKnown l.self.learnt) (map (λ (fields : List (List ℕ)). field_at fields c.args.index) (records_of c.args.delimiter.now pieces))) all l.invariant.known
