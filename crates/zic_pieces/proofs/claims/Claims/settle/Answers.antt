use Rattle.std.proofs.Common.{◌≡◌, ℕ, true, sym, ap, ◌∙◌, subst, rules}
use Rattle.zic_pieces.specs.declared.pass.Known.{Known}
use Rattle.zic_pieces.specs.code.Whole.{is_whole}
use Rattle.zic_pieces.specs.Passes.{Shared, Held}
use Rattle.zic_pieces.proofs.Settles.{Facts, settles}
use Rattle.zic_pieces.proofs.claims.Claims.settle.Goals as goal

facts : (c : goal.After-free) → Facts c.args.self.pieces c.args.pass.known c.word-least.result
facts c =
    let k : c.self.inside.table.shared.key ≡ c.args.self.pieces = c.self.invariant.2 ∙ ap (λ (s : Shared). s.pieces) c.self.view_is in
    let v : c.pass.inside.seat.me.0 ≡ c.args.pass.known = ap (λ (h : Held). h.known) c.pass.view_is in
    let same : c.pass.inside.seat.me.0.pieces ≡ c.self.inside.table.shared.key = ap (λ (u : Known). u.pieces) v ∙ (c.requires.whose.1 ∙ sym k) in
    let whole : is_whole c.self.inside.table.shared.key c.pass.inside.seat.me.0.events ≡ true = subst (λ n. is_whole n c.pass.inside.seat.me.0.events ≡ true) same c.pass.invariant.4 in
    let all : c.pass.inside.seat.me.0.parts ≡ 1024 = ap (λ (u : Known). u.parts) v ∙ c.requires.all in
    let f = settles c.self.inside.table.shared.key c.pass.inside.seat.id c.pass.inside.seat.me.0 c.word-least.result _ _ c.close_with-closed.ensures.values.2 c.word-least.ensures all whole in
    subst (λ (p : ℕ × Known). Facts p.0 p.1 c.word-least.result) (λ i. (k i, v i)) f

pub returns-clause-draws : goal.returns-clause-draws
returns-clause-draws c = (facts c).below

pub returns-clause-glances : goal.returns-clause-glances
returns-clause-glances c = (facts c).reports

pub returns-clause-least : goal.returns-clause-least
returns-clause-least c = (facts c).is_least

over : (c : goal.After-free) → c.pass.inside.ended ≡ true → c.args.pass.known.ended ≡ true
over c e = sym (ap (λ (h : Held). h.known.ended) c.pass.view_is) ∙ (c.pass.invariant.2 ∙ e)

pub returns-clause-all : goal.returns-clause-all
returns-clause-all c = λ e. (facts c).drawn (over c e)

pub returns-clause-each : goal.returns-clause-each
returns-clause-each c = λ e. (facts c).once (over c e)

pub returns-clause-skipped : goal.returns-clause-skipped
returns-clause-skipped c = (facts c).none

pub returns-clause-given : goal.returns-clause-given
returns-clause-given c = search rules

pub returns-clause-ended : goal.returns-clause-ended
returns-clause-ended c = search rules
