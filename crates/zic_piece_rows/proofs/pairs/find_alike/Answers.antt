use Rattle.std.proofs.Common.{◌≡◌, ◌≢◌, ◌∙◌, ◌<◌, ℕ, arith, length, rules, subst, sym}
use Rattle.std.specs.Prelude.{slice_get, slice_index_or}
use Rattle.zic_zones.specs.declared.slot.TheConstants.{UNKNOWN}
use Rattle.zic_piece_rows.specs.declared.pairs.TheConstants.{KEPT}
use Rattle.zic_piece_rows.proofs.Columns.{all_stay}
use Rattle.zic_piece_rows.proofs.pairs.find_alike.Goals as goal

pub returns-then-alike-first-clause-same : goal.returns-then-alike-first-clause-same
returns-then-alike-first-clause-same c = λ same.
    let shown = c.args.shown.now in
    let others = c.args.others.now in
    let number = slice_index_or shown.numbers c.args.place 0 in
    let lt : number < KEPT = omega (arith, c.if-first-ge-KEPT.false) in
    record {
      known = c.if-number.false;
      other = c.if-other.false;
      same = subst (λ (k : ℕ). slice_get shown.states.states number ≡ slice_get others.states.states k) c.if-alike-first.true
          (c.requires.alike number lt (λ unknown. c.if-other.false (sym c.if-alike-first.true ∙ unknown)));
    }

pub returns-clause-same : goal.returns-clause-same
returns-clause-same c = λ same. c.is_same-2.ensures c.if-not-is_same.false

pub returns-clause-alike : goal.returns-clause-alike
returns-clause-alike c =
    let shown = c.args.shown.now in
    let others = c.args.others.now in
    let number = slice_index_or shown.numbers c.args.place 0 in
    let same = c.is_same-2.ensures c.if-not-is_same.false in
    let long : length c.args.alike.now ≡ KEPT = search rules in
    let lt : number < KEPT = omega (arith, c.if-first-ge-KEPT.false) in
    all_stay 0 (λ (j k : ℕ). k ≢ UNKNOWN → slice_get shown.states.states j ≡ slice_get others.states.states k) number KEPT c.args.alike.now _ (omega (arith, lt, long)) c.requires.alike (λ known. same.same)
