use Rattle.std.proofs.Common.{◌∙◌, Some, ap, sym}
use Rattle.zic_piece_rows.proofs.pairs.is_same.Goals as goal

pub returns : goal.returns
returns c = λ same. record {
  known = c.if-number.false;
  other = c.if-other.false;
  same = c.text-text.ensures ∙ ap Some (c.is_same.ensures.0 same) ∙ sym c.text.ensures;
}
