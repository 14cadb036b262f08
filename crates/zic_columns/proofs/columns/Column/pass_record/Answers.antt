use Rattle.std.proofs.Common.{◌≡◌, ◌∙◌, ℕ, false, ap, length, rules, sym}
use Rattle.std.specs.Vec.{vec_len}
use Rattle.zic_columns.specs.Round.{may_have, unread}
use Rattle.zic_columns.proofs.Passing.{own_too_long}
use Rattle.zic_columns.proofs.columns.Column.pass_record.Goals as goal

pub returns-clause-long : goal.returns-clause-long
returns-clause-long g c = λ _.
    let old = c.args.self.now in
    let own = c.in_ok-own.own in
    let size : length own.items ≡ vec_len own = search rules in
    let over : may_have c.args.longest (length own.items) ≡ false =
    ap (λ (n : ℕ). may_have c.args.longest n) (size ∙ sym c.len.ensures) ∙ sym c.may_have.ensures ∙ c.if-may_have.false in
    own_too_long old.delimiter c.args.longest old.by own.items (unread g.R.Read.remaining old) c.in_ok-own.ensures.own over
