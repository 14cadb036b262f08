use Rattle.std.proofs.Common.{◌-◌, rules, sym, subst, arith}
use Rattle.zic_pieces.specs.code.Rule.{Sat, IsBetweenCalls}
use Rattle.zic_pieces.proofs.Steps.{split_allowed}
use Rattle.zic_pieces.proofs.BetweenCalls.{between_left}
use Rattle.zic_pieces.proofs.claims.Claims.split.Goals as goal

pub split_seat-seat-requires : goal.split_seat-seat-requires
split_seat-seat-requires c = let n = c.if-pass-eq0.false in (search rules, omega arith, split_allowed _ _ _ (omega arith))

pub invariant_of-pass : goal.invariant_of-pass
invariant_of-pass c =
    let n = c.if-pass-eq0.false in
    subst (λ (m : Sat). IsBetweenCalls m (c.pass.inside.room - 1) c.pass.inside.ended c.pass.inside.given) (sym c.split_seat-seat.ensures.2) (between_left _ _ _ _ c.pass.invariant (omega arith))

pub returns : goal.returns
returns c = search rules
