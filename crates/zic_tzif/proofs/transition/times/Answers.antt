use Rattle.std.proofs.Common.{◌≡◌, ℕ, ℤ, List, [], ◌∷◌, ◌++◌, map, take, drop, sym, ap, subst, ◌∙◌, ◌-◌, ◌+◌, ◌*◌, ◌≤◌, length, w64, rules}
use Rattle.std.proofs.lemmas.Int.{to_z-of_z}
use Rattle.zic_tzif.specs.Block.{pieces, time_in}
use Rattle.zic_tzif.proofs.ReadPieces.{enough_left, made_more, all_made}
use Rattle.zic_tzif.proofs.transition.times.Goals as goal

pub loop-preserved : goal.loop-preserved
loop-preserved c =
    let total = map time_in (pieces 8 c.args.count c.args.octets.now) in
    let left = c.args.count - (c.loop.counter + 1) in
    let instant = to_z-of_z w64 c.time_in.result (search rules) ∙ c.time_in.ensures ∙ ap time_in c.split_at.ensures.front in
    let one : c.push.new.self.items ≡ c.loop.times.items ++ time_in (take 8 c.loop.rest.now) ∷ [] =
    c.in_ok-push.ensures.items ∙ ap (λ (t : ℤ). c.loop.times.items ++ t ∷ []) instant in
    let so_far = made_more time_in c.loop.times.items 8 c.args.count c.loop.counter c.loop.rest.now total c.loop-test.true c.loop.invariant.left in
    record {
      enough = subst (λ (xs : List ℕ). left * 8 ≤ length xs) (sym c.split_at.ensures.back) (enough_left 8 c.args.count c.loop.counter c.loop.rest.now c.loop-test.true c.loop.invariant.enough);
      left = subst (λ (xs : List ℕ). c.push.new.self.items ++ map time_in (pieces 8 left xs) ≡ total) (sym c.split_at.ensures.back)
          (ap (λ (ts : List ℤ). ts ++ map time_in (pieces 8 left (drop 8 c.loop.rest.now))) one ∙ so_far);
    }

pub returns : goal.returns
returns c = all_made time_in c.loop.times.items 8 c.args.count c.loop.counter c.loop.rest.now (map time_in (pieces 8 c.args.count c.args.octets.now)) c.loop-test.false c.loop.invariant.left
