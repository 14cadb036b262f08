use Rattle.std.proofs.Common.{◌∙◌, ap, sym}
use Rattle.zic_columns.proofs.QuoteFacts.{strays_anew, strays_on}
use Rattle.zic_columns.proofs.quote.next_place.Goals as goal

pub returns-in-Some : goal.returns-in-Some
returns-in-Some c = sym c.in-Some.ensures.1 ∙ c.if-read.true

pub returns-in-Some-2 : goal.returns-in-Some-2
returns-in-Some-2 c =
    let is = c.in-Some.ensures in
    strays_on c.args.delimiter.can c.args.place c.in-Some.read.next c.args.byte (sym is.1 ∙ c.if-read.false) (ap (λ p. p.0) is.0)

pub returns-in-None : goal.returns-in-None
returns-in-None c = strays_anew c.args.delimiter.can c.args.place c.args.byte c.in-None.ensures
