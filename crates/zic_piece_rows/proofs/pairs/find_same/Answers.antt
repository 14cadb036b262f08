use Rattle.std.proofs.Common.{◌≡◌, ◌∙◌, ℕ, Bool, true, false, arith, rules}
use Rattle.std.proofs.lemmas.List.{get_or-replicate, length-set}
use Rattle.zic_zones.specs.declared.slot.TheConstants.{UNKNOWN}
use Rattle.zic_piece_rows.specs.code.Pairs.{AreSameStates}
use Rattle.zic_piece_rows.specs.declared.pairs.TheConstants.{KEPT}
use Rattle.zic_piece_rows.proofs.Columns.{more_is}
use Rattle.zic_piece_rows.proofs.pairs.find_same.Goals as goal

pub loop-i-init : goal.loop-i-init
loop-i-init c = record {
  long = search rules;
  alike = λ i lt known. absurd (known (get_or-replicate KEPT i UNKNOWN 0 lt));
  found = λ i lt. absurd (omega (arith, lt));
}

pub find_alike-requires-clause-number : goal.find_alike-requires-clause-number
find_alike-requires-clause-number c = c.requires.numbers c.loop-i.i c.loop-i-test.true

pub find_alike-requires-clause-other : goal.find_alike-requires-clause-other
find_alike-requires-clause-other c = c.requires.others c.loop-i.i c.loop-i-test.true

pub loop-i-preserved : goal.loop-i-preserved
loop-i-preserved c =
    let l = c.loop-i in
    record {
      long = length-set l.same l.i _ ∙ l.invariant.long;
      alike = c.find_alike.ensures.alike;
      found = more_is false (λ (j : ℕ) (same : Bool). same ≡ true → AreSameStates c.args.shown.now c.args.others.now j)
          l.i l.same _ (omega (arith, l.invariant.long, c.requires.few, c.loop-i-test.true)) l.invariant.found c.find_alike.ensures.same;
    }
