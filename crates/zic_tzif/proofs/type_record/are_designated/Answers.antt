use Rattle.std.proofs.Common.{◌≡◌, ℕ, List, true, false, take, sym, ap, subst, ◌∙◌, ◌-◌, ◌+◌, ◌*◌, ◌≤◌, length, get_or, arith}
use Rattle.std.specs.List.{list_all}
use Rattle.zic_tzif.specs.Designation.{is_designated}
use Rattle.zic_tzif.specs.Block.{pieces, type_in}
use Rattle.zic_tzif.proofs.ReadPieces.{enough_left, all_more, all_stops}
use Rattle.zic_tzif.proofs.type_record.are_designated.Goals as goal

pub returns-then-not-places-record : goal.returns-then-not-places-record
returns-then-not-places-record c =
    let p = λ (r : List ℕ). is_designated c.args.names.now (type_in r).place in
    let place = get_or c.split_at.result.0.now 5 0 in
    let fails : p (take 6 c.loop.rest.now) ≡ false = ap p (sym c.split_at.ensures.front) ∙ sym (c.designated_places-places.ensures place (omega arith)) ∙ c.if-not-places-record.true in
    all_stops p 6 c.args.count c.loop.counter c.loop.rest.now (list_all p (pieces 6 c.args.count c.args.records.now)) c.loop-test.true fails c.loop.invariant.left

pub loop-preserved : goal.loop-preserved
loop-preserved c =
    let p = λ (r : List ℕ). is_designated c.args.names.now (type_in r).place in
    let total = list_all p (pieces 6 c.args.count c.args.records.now) in
    let left = c.args.count - (c.loop.counter + 1) in
    let place = get_or c.split_at.result.0.now 5 0 in
    let passes : p (take 6 c.loop.rest.now) ≡ true = ap p (sym c.split_at.ensures.front) ∙ sym (c.designated_places-places.ensures place (omega arith)) ∙ c.if-not-places-record.false in
    record {
      enough = subst (λ (xs : List ℕ). left * 6 ≤ length xs) (sym c.split_at.ensures.back) (enough_left 6 c.args.count c.loop.counter c.loop.rest.now c.loop-test.true c.loop.invariant.enough);
      left = subst (λ (xs : List ℕ). list_all p (pieces 6 left xs) ≡ total) (sym c.split_at.ensures.back) (all_more p 6 c.args.count c.loop.counter c.loop.rest.now total c.loop-test.true passes c.loop.invariant.left);
    }
