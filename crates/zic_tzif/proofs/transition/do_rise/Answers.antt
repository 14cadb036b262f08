use Rattle.std.proofs.Common.{rules, ◌≡◌, ◌-◌, ◌+◌, ◌*◌, ◌≤◌, ◌∷◌, List, ℕ, take, map, sym, ap, subst, ◌∙◌, length, arith, w64, to_z, of_z}
use Rattle.std.proofs.lemmas.Int.{to_z-of_z}
use Rattle.zic_tzif.specs.Block.{pieces, time_in, do_rise}
use Rattle.zic_tzif.proofs.ReadPieces.{enough_left}
use Rattle.zic_tzif.proofs.ReadTransitions.{rise_first, rise_more, rise_stops}
use Rattle.zic_tzif.proofs.transition.do_rise.Goals as goal

pub loop-init : goal.loop-init
loop-init c =
    let times = c.args.times.now in
    let total = do_rise (map time_in (pieces 8 c.args.count times)) in
    let last = to_z w64 (of_z w64 c.time_in-last.result) in
    let is : last ≡ time_in (take 8 times) = to_z-of_z w64 c.time_in-last.result (search rules) ∙ c.time_in-last.ensures ∙ ap time_in c.split_at.ensures.front in
    record {
      enough = let back = c.split_at.ensures.back_len in omega arith;
      left = subst (λ (xs : List ℕ). do_rise (last ∷ map time_in (pieces 8 (c.args.count - 1) xs)) ≡ total) (sym c.split_at.ensures.back) (rise_first c.args.count times last (omega arith) is);
    }

pub returns-then-time-last : goal.returns-then-time-last
returns-then-time-last c =
    let rest = c.loop.rest.now in
    let time = to_z w64 (of_z w64 c.time_in-time.result) in
    let is : time ≡ time_in (take 8 rest) = to_z-of_z w64 c.time_in-time.result (search rules) ∙ c.time_in-time.ensures ∙ ap time_in c.split_at-in-loop.ensures.front in
    rise_stops c.args.count c.loop.counter rest (to_z w64 c.loop.last-bits) time (do_rise (map time_in (pieces 8 c.args.count c.args.times.now))) c.loop-test.true is c.if-time-last.true c.loop.invariant.left

pub loop-preserved : goal.loop-preserved
loop-preserved c =
    let rest = c.loop.rest.now in
    let total = do_rise (map time_in (pieces 8 c.args.count c.args.times.now)) in
    let left = c.args.count - (c.loop.counter + 1) in
    let time = to_z w64 (of_z w64 c.time_in-time.result) in
    let is : time ≡ time_in (take 8 rest) = to_z-of_z w64 c.time_in-time.result (search rules) ∙ c.time_in-time.ensures ∙ ap time_in c.split_at-in-loop.ensures.front in
    let so_far = rise_more c.args.count c.loop.counter rest (to_z w64 c.loop.last-bits) time total c.loop-test.true is c.if-time-last.false c.loop.invariant.left in
    record {
      enough = subst (λ (xs : List ℕ). left * 8 ≤ length xs) (sym c.split_at-in-loop.ensures.back) (enough_left 8 c.args.count c.loop.counter rest c.loop-test.true c.loop.invariant.enough);
      left = subst (λ (xs : List ℕ). do_rise (time ∷ map time_in (pieces 8 left xs)) ≡ total) (sym c.split_at-in-loop.ensures.back) so_far;
    }

pub returns : goal.returns
returns c = search rules
