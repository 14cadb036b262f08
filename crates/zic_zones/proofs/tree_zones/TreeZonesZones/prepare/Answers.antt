use Rattle.std.proofs.Common.{List, ℕ, subst}
use Rattle.std.specs.Prelude.{All, OnOk}
use Rattle.std.proofs.lemmas.Result.{on_ok_weaker}
use Rattle.zic_columns.specs.Round.{records_of}
use Rattle.zic_files.specs.Tree.{IsKnown}
use Rattle.zic_zones.proofs.Pieces.{zones_of_fields, zones_of_name}
use Rattle.zic_zones.proofs.tree_zones.TreeZonesZones.prepare.Goals as goal

pub returns-in-Field-clause-settled : goal.returns-in-Field-clause-settled
returns-in-Field-clause-settled g c =
    let learnt = c.learn_round.new.self.learnt in
    rw c.in-Field.is
    (subst (λ (names : List (List ℕ)). OnOk c.learn_round.result (All (IsKnown learnt) names)) (zones_of_fields c.in-Field.index (records_of c.args.delimiter.now c.args.round.now)) c.learn_round.ensures.known)

pub returns-in-Name-clause-settled : goal.returns-in-Name-clause-settled
returns-in-Name-clause-settled g c =
    let learnt = c.learn.new.self.learnt in
    let known = subst (λ (name : List ℕ). OnOk c.learn.result (IsKnown learnt name)) c.as_bytes.ensures.value c.learn.ensures.settled in
    rw c.in-Name.is (on_ok_weaker c.learn.result (zones_of_name (IsKnown learnt) c.in-Name.name (records_of c.args.delimiter.now c.args.round.now)) known)
