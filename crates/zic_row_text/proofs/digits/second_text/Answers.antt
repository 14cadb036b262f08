use Rattle.std.proofs.Common.{◌-◌, ◌*◌, ◌∙◌, arith, drop, take}
use Rattle.std.proofs.lemmas.List.{take-take}
use Rattle.zic_row_text.specs.declared.digits.TheConstants.{SECOND_TEXTS}
use Rattle.zic_row_text.proofs.ClockTexts.{second_text_at}
use Rattle.zic_row_text.proofs.digits.second_text.Goals as goal

pub returns : goal.returns
returns c =
    let at = 8 * c.args.n in
    take-take 2 8 (take (480 - at) (drop at SECOND_TEXTS)) (omega arith) ∙ take-take 2 (480 - at) (drop at SECOND_TEXTS) (omega (arith, c.requires)) ∙ second_text_at c.args.n c.requires
