use Rattle.zic_rules.specs.code.Shown.{shown_by}
use Rattle.zic_rules.proofs.changes.lacks_letter_at.Goals as goal

pub returns-in-Ok-clause-has : goal.returns-in-Ok-clause-has
returns-in-Ok-clause-has c _ = (shown_by c.in-Ok.field-0, c.in-Ok.ensures.ok)
