use Rattle.std.proofs.Common.{◌∙◌, ℕ, ap, drop, take}
use Rattle.std.proofs.lemmas.List.{drop_min, take_min}
use Rattle.zic_row_text.proofs.date_time.split.Goals as goal

pub returns-clause-front : goal.returns-clause-front
returns-clause-front c =
    let text = c.args.text.now in
    rw c.min.ensures at c.split_at.ensures.front ∙ take_min c.fraction_place.result text ∙ ap (λ (n : ℕ). take n text) c.fraction_place.ensures

pub returns-clause-back : goal.returns-clause-back
returns-clause-back c =
    let text = c.args.text.now in
    rw c.min.ensures at c.split_at.ensures.back ∙ drop_min c.fraction_place.result text ∙ ap (λ (n : ℕ). drop n text) c.fraction_place.ensures
