use Rattle.std.proofs.Common.{sym, ⊎_elim, ◌∙◌}
use Rattle.std.proofs.lemmas.Bool.{cases_Bool, le-leb, not-true, not_from_false}
use Rattle.zic_columns.proofs.MarkFacts.{mark_shown, not_shown, shown}
use Rattle.zic_columns.proofs.mark.shows_mark.Goals as goal

pub returns-then-bytes-ge3 : goal.returns-then-bytes-ge3
returns-then-bytes-ge3 c = ((λ _ rest. mark_shown c.args.bytes.now rest c.if-bytes-ge3.true), λ _. le-leb 3 _ c.if-bytes-ge3.true)

pub returns-else-bytes-ge3 : goal.returns-else-bytes-ge3
returns-else-bytes-ge3 c = (
  λ is. shown c.args.bytes.now c.if-bytes-ge3.false (sym c.starts_with.ensures.value ∙ not-true c.starts_with.result is),
  λ shows. ⊎_elim
      (λ begins. absurd (not_shown c.args.bytes.now c.if-bytes-ge3.false (sym c.starts_with.ensures.value ∙ begins) shows))
      (λ none. not_from_false c.starts_with.result none)
      (cases_Bool c.starts_with.result),
)
