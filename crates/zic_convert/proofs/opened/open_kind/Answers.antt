use Rattle.std.proofs.Common.{le-leb, refl, sym}
use Rattle.std.proofs.lemmas.Bool.{lt-leb}
use Rattle.zic_convert.proofs.opened.open_kind.Goals as goal

pub returns-then-most-number : goal.returns-then-most-number
returns-then-most-number c = λ files. rw (lt-leb c.args.number c.args.most c.if-most-number.true) refl

pub returns : goal.returns
returns c = λ files. rw (le-leb c.args.number c.args.most c.if-most-number.false, sym c.if-not-may_have.ensures) refl

pub returns-then-not-may_have : goal.returns-then-not-may_have
returns-then-not-may_have c = λ files. rw (le-leb c.args.number c.args.most c.if-most-number.false, sym c.if-not-may_have.ensures) refl
