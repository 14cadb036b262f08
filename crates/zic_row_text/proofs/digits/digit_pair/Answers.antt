use Rattle.std.proofs.Common.{refl}
use Rattle.zic_row_text.proofs.DigitPairs.{pairs_at}
use Rattle.zic_row_text.proofs.digits.digit_pair.Goals as goal

pub returns : goal.returns
returns c = let pair = pairs_at c.args.n c.requires in rw (pair.0, pair.1) refl
