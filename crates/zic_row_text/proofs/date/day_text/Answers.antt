use Rattle.std.proofs.Common.{◌-◌, ◌*◌, ◌∙◌, arith, drop, take}
use Rattle.std.proofs.lemmas.List.{take-take}
use Rattle.zic_row_text.specs.declared.date.TheConstants.{DAY_TEXTS}
use Rattle.zic_row_text.proofs.DayTexts.{text_at}
use Rattle.zic_row_text.proofs.date.day_text.Goals as goal

pub returns : goal.returns
returns c =
    let at = 8 * c.args.day in
    take-take 7 8 (take (2928 - at) (drop at DAY_TEXTS)) (omega arith) ∙ take-take 7 (2928 - at) (drop at DAY_TEXTS) (omega (arith, c.requires)) ∙ text_at c.args.day c.requires
