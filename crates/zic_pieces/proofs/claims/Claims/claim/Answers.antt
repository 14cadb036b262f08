use Rattle.std.proofs.Common.{◌≡◌, ◌+◌, rules, sym, ap, ◌∙◌, arith}
use Rattle.zic_pieces.specs.declared.pass.Known.{Known}
use Rattle.zic_pieces.specs.Core.{glanced}
use Rattle.zic_pieces.specs.Passes.{Shared, Held}
use Rattle.zic_pieces.proofs.Steps.{draws_allowed, glance_allowed}
use Rattle.zic_pieces.proofs.BetweenCalls.{between_end, between_skip, between_do, given_fits}
use Rattle.zic_pieces.proofs.claims.Claims.claim.Goals as goal

pub fetch_add-i-requires : goal.fetch_add-i-requires
fetch_add-i-requires c = (
  search rules,
  omega arith,
  draws_allowed _ _ _ _ (omega arith) (omega arith) (c.pass.invariant.2 ∙ c.if-pass.false),
)

pub invariant_of-pass : goal.invariant_of-pass
invariant_of-pass c =
    let p : c.pass.inside.seat.me.0.pieces ≡ c.self.inside.pieces = ap (λ (h : Held). h.known.pieces) c.pass.view_is ∙ (c.requires.1 ∙ sym (ap (λ (s : Shared). s.pieces) c.self.view_is)) in
    let d = c.fetch_add-i.ensures.2 in
    between_end c.pass.inside.seat.me c.fetch_add-i.new.seat.me c.pass.inside.room c.pass.inside.given c.pass.inside.ended c.pass.invariant c.fetch_add-i.result (omega arith) d.0 d.2 d.3

pub load-least-requires : goal.load-least-requires
load-least-requires c =
    let d = c.fetch_add-i.ensures.2 in
    let some_parts : c.fetch_add-i.new.seat.me.0.parts ≡ c.pass.inside.room + 1 = ap (λ (u : Known). u.parts) d.0 ∙ c.pass.invariant.1 in
    (search rules, omega arith, glance_allowed _ _ _ _ (omega arith))

pub invariant_of-pass-then-least-i : goal.invariant_of-pass-then-least-i
invariant_of-pass-then-least-i c =
    let p : c.pass.inside.seat.me.0.pieces ≡ c.self.inside.pieces = ap (λ (h : Held). h.known.pieces) c.pass.view_is ∙ (c.requires.1 ∙ sym (ap (λ (s : Shared). s.pieces) c.self.view_is)) in
    let d = c.fetch_add-i.ensures.2 in
    let l = c.load-least.ensures.2 in
    between_skip c.pass.inside.seat.me c.load-least.new.seat.me c.pass.inside.room c.pass.inside.given c.pass.inside.ended c.pass.invariant c.fetch_add-i.result c.load-least.result (omega arith) c.if-pass.false
    (l.0 ∙ ap (glanced c.load-least.result) d.0) l.2 (l.3 ∙ d.3) (omega arith)

pub invariant_of-pass-2 : goal.invariant_of-pass-2
invariant_of-pass-2 c =
    let p : c.pass.inside.seat.me.0.pieces ≡ c.self.inside.pieces = ap (λ (h : Held). h.known.pieces) c.pass.view_is ∙ (c.requires.1 ∙ sym (ap (λ (s : Shared). s.pieces) c.self.view_is)) in
    let d = c.fetch_add-i.ensures.2 in
    let l = c.load-least.ensures.2 in
    between_do c.pass.inside.seat.me c.load-least.new.seat.me c.pass.inside.room c.pass.inside.given c.pass.inside.ended c.pass.invariant c.fetch_add-i.result c.load-least.result (omega arith) c.if-pass.false
    (l.0 ∙ ap (glanced c.load-least.result) d.0) l.2 (l.3 ∙ d.3) (omega arith)

pub overflow_add-pass : goal.overflow_add-pass
overflow_add-pass c =
    let p : c.pass.inside.seat.me.0.pieces ≡ c.self.inside.pieces = ap (λ (h : Held). h.known.pieces) c.pass.view_is ∙ (c.requires.1 ∙ sym (ap (λ (s : Shared). s.pieces) c.self.view_is)) in
    let d = c.fetch_add-i.ensures.2 in
    let l = c.load-least.ensures.2 in
    let v = c.load-least.new.seat.me.0 in
    let same : v.pieces ≡ c.pass.inside.seat.me.0.pieces = ap (λ (u : Known). u.pieces) (l.0 ∙ ap (glanced c.load-least.result) d.0) in
    let k = between_do c.pass.inside.seat.me c.load-least.new.seat.me c.pass.inside.room c.pass.inside.given c.pass.inside.ended c.pass.invariant c.fetch_add-i.result c.load-least.result (omega arith) c.if-pass.false
    (l.0 ∙ ap (glanced c.load-least.result) d.0) l.2 (l.3 ∙ d.3) (omega arith) in
    let f = given_fits v l.2 in
    let count = k.3 in
    omega arith

pub returns-clause-whose : goal.returns-clause-whose
returns-clause-whose c = search rules

pub returns-clause-answer : goal.returns-clause-answer
returns-clause-answer c = search rules

pub returns-clause-sound : goal.returns-clause-sound
returns-clause-sound c = search rules
