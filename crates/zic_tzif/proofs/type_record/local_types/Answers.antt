use Rattle.std.proofs.Common.{◌≡◌, ℕ, List, [], ◌∷◌, ◌++◌, map, take, drop, sym, ap, subst, ◌∙◌, ◌-◌, ◌+◌, ◌*◌, ◌≤◌, length}
use Rattle.zic_tzif.specs.declared.content.LocalType.{LocalType}
use Rattle.zic_tzif.specs.Block.{pieces, type_in}
use Rattle.zic_tzif.proofs.ReadPieces.{enough_left, made_more, all_made}
use Rattle.zic_tzif.proofs.type_record.local_types.Goals as goal

pub loop-preserved : goal.loop-preserved
loop-preserved c =
    let total = map type_in (pieces 6 c.args.count c.args.records.now) in
    let left = c.args.count - (c.loop.counter + 1) in
    let one : c.push.new.self.items ≡ c.loop.types.items ++ type_in (take 6 c.loop.rest.now) ∷ [] =
    c.in_ok-push.ensures.items ∙ ap (λ (t : LocalType). c.loop.types.items ++ t ∷ []) (c.local_type.ensures ∙ ap type_in c.split_at.ensures.front) in
    let so_far = made_more type_in c.loop.types.items 6 c.args.count c.loop.counter c.loop.rest.now total c.loop-test.true c.loop.invariant.left in
    record {
      enough = subst (λ (xs : List ℕ). left * 6 ≤ length xs) (sym c.split_at.ensures.back) (enough_left 6 c.args.count c.loop.counter c.loop.rest.now c.loop-test.true c.loop.invariant.enough);
      left = subst (λ (xs : List ℕ). c.push.new.self.items ++ map type_in (pieces 6 left xs) ≡ total) (sym c.split_at.ensures.back)
          (ap (λ (ts : List LocalType). ts ++ map type_in (pieces 6 left (drop 6 c.loop.rest.now))) one ∙ so_far);
    }

pub returns : goal.returns
returns c = all_made type_in c.loop.types.items 6 c.args.count c.loop.counter c.loop.rest.now (map type_in (pieces 6 c.args.count c.args.records.now)) c.loop-test.false c.loop.invariant.left
