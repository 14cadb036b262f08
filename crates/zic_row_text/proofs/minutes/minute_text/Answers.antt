use Rattle.std.proofs.Common.{◌-◌, ◌*◌, ◌∙◌, arith, drop, take}
use Rattle.std.proofs.lemmas.List.{take-take}
use Rattle.zic_row_text.specs.declared.minutes.TheConstants.{MINUTE_TEXTS}
use Rattle.zic_row_text.proofs.ClockTexts.{minute_text_at}
use Rattle.zic_row_text.proofs.minutes.minute_text.Goals as goal

pub returns : goal.returns
returns c =
    let at = 8 * c.args.minute in
    take-take 6 8 (take (11520 - at) (drop at MINUTE_TEXTS)) (omega arith) ∙ take-take 6 (11520 - at) (drop at MINUTE_TEXTS) (omega (arith, c.requires)) ∙ minute_text_at c.args.minute c.requires
