use Rattle.std.proofs.Common.{◌≡◌, ℕ, List, true, false, take, sym, ap, subst, ◌∙◌, ◌-◌, ◌+◌, ◌*◌, ◌≤◌, length}
use Rattle.std.specs.List.{list_all}
use Rattle.zic_tzif.specs.Block.{pieces, is_type_record}
use Rattle.zic_tzif.proofs.ReadPieces.{enough_left, all_more, all_stops}
use Rattle.zic_tzif.proofs.type_record.are_type_records.Goals as goal

pub returns-then-not-is_type_record : goal.returns-then-not-is_type_record
returns-then-not-is_type_record c =
    let fails : is_type_record (take 6 c.loop.rest.now) ≡ false = ap is_type_record (sym c.split_at.ensures.front) ∙ sym c.is_type_record.ensures ∙ c.if-not-is_type_record.true in
    all_stops is_type_record 6 c.args.count c.loop.counter c.loop.rest.now (list_all is_type_record (pieces 6 c.args.count c.args.records.now)) c.loop-test.true fails c.loop.invariant.left

pub loop-preserved : goal.loop-preserved
loop-preserved c =
    let total = list_all is_type_record (pieces 6 c.args.count c.args.records.now) in
    let left = c.args.count - (c.loop.counter + 1) in
    let passes : is_type_record (take 6 c.loop.rest.now) ≡ true = ap is_type_record (sym c.split_at.ensures.front) ∙ sym c.is_type_record.ensures ∙ c.if-not-is_type_record.false in
    record {
      enough = subst (λ (xs : List ℕ). left * 6 ≤ length xs) (sym c.split_at.ensures.back) (enough_left 6 c.args.count c.loop.counter c.loop.rest.now c.loop-test.true c.loop.invariant.enough);
      left = subst (λ (xs : List ℕ). list_all is_type_record (pieces 6 left xs) ≡ total) (sym c.split_at.ensures.back) (all_more is_type_record 6 c.args.count c.loop.counter c.loop.rest.now total c.loop-test.true passes c.loop.invariant.left);
    }
