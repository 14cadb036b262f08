use Rattle.std.proofs.Common.{◌≡◌, ◌+◌, ◌∙◌, ◌||◌, rules, sym, ap, subst, arith}
use Rattle.zic_pieces.specs.Core.{both}
use Rattle.zic_pieces.specs.Passes.{Shared, Held, IsSound}
use Rattle.zic_pieces.specs.code.Rule.{Sat, IsBetweenCalls}
use Rattle.zic_pieces.proofs.Steps.{join_allowed, learn_allowed}
use Rattle.zic_pieces.proofs.BetweenCalls.{between_both, given_fits}
use Rattle.zic_pieces.proofs.claims.Claims.join.Goals as goal

pub join_seat-requires : goal.join_seat-requires
join_seat-requires c =
    let p : c.first.inside.seat.me.0.pieces ≡ c.second.inside.seat.me.0.pieces =
    ap (λ (h : Held). h.known.pieces) c.first.view_is ∙ (c.requires.first.1 ∙ (sym c.requires.second.1 ∙ sym (ap (λ (h : Held). h.known.pieces) c.second.view_is))) in
    (search rules, search rules, search rules, omega arith, join_allowed _ _ _ _ _ (omega arith) (omega arith) p)

pub load-requires : goal.load-requires
load-requires c =
    let some_parts : c.join_seat.new.seat.me.0.parts ≡ c.first.inside.seat.me.0.parts + c.second.inside.seat.me.0.parts = ap (λ (m : Sat). m.0.parts) c.join_seat.ensures.2 in
    (search rules, omega arith, learn_allowed _ _ _ _ (omega arith))

all_between : (c : goal.After-struct_known-3-1) → IsBetweenCalls c.load.new.seat.me (c.first.inside.room + c.second.inside.room + 1) (c.first.inside.ended || c.second.inside.ended) (c.first.inside.given + c.second.inside.given)
all_between c =
    let p : c.first.inside.seat.me.0.pieces ≡ c.second.inside.seat.me.0.pieces =
    ap (λ (h : Held). h.known.pieces) c.first.view_is ∙ (c.requires.first.1 ∙ (sym c.requires.second.1 ∙ sym (ap (λ (h : Held). h.known.pieces) c.second.view_is))) in
    let is : c.load.new.seat.me ≡ (both c.first.inside.seat.me.0 c.second.inside.seat.me.0, c.first.inside.seat.me.1) = c.load.ensures.2.0 ∙ c.join_seat.ensures.2 in
    let sound : IsSound (both c.first.inside.seat.me.0 c.second.inside.seat.me.0) = subst (λ (m : Sat). IsSound m.0) c.join_seat.ensures.2 c.load.ensures.2.1 in
    subst (λ (m : Sat). IsBetweenCalls m (c.first.inside.room + c.second.inside.room + 1) (c.first.inside.ended || c.second.inside.ended) (c.first.inside.given + c.second.inside.given)) (sym is)
    (between_both _ _ _ _ _ _ _ _ c.first.invariant c.second.invariant p sound)

pub overflow_add-result-3 : goal.overflow_add-result-3
overflow_add-result-3 c =
    let k = all_between c in
    let f = given_fits c.load.new.seat.me.0 k.5 in
    let count = k.3 in
    let q : c.load.new.seat.me.0.pieces ≡ c.first.inside.seat.me.0.pieces = ap (λ (m : Sat). m.0.pieces) (c.load.ensures.2.0 ∙ c.join_seat.ensures.2) in
    let p : c.first.inside.seat.me.0.pieces ≡ c.self.inside.pieces = ap (λ (h : Held). h.known.pieces) c.first.view_is ∙ (c.requires.first.1 ∙ sym (ap (λ (s : Shared). s.pieces) c.self.view_is)) in
    omega arith

pub invariant_of-result : goal.invariant_of-result
invariant_of-result c = all_between c

pub returns-clause-joined : goal.returns-clause-joined
returns-clause-joined c = search rules

pub returns-clause-sound : goal.returns-clause-sound
returns-clause-sound c = search rules
