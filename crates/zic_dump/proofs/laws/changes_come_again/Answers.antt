use Rattle.std.proofs.Common.{refl, arith}
use Rattle.std.proofs.lemmas.Int.{ints}
use Rattle.zic_dump.proofs.Forever.{never}
use Rattle.zic_dump.proofs.laws.changes_come_again.Goals as goal

pub returns : goal.returns
returns c = λ content t past same change after. never content t past t _ (omega (arith, ints)) refl same change after
