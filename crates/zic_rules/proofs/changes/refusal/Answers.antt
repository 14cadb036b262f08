use Rattle.zic_rules.specs.code.Period.{the_zone}
use Rattle.zic_rules.proofs.TimelineFaults.{fault_of_letter, fault_of_unnamed}
use Rattle.zic_rules.proofs.changes.refusal.Goals as goal

pub returns-then-lacks_letter : goal.returns-then-lacks_letter
returns-then-lacks_letter c =
    fault_of_letter (the_zone c.args.zone) c.args.all.now c.requires.periods (c.lacks_letter.ensures.lacks c.if-lacks_letter.true)

pub returns-else-lacks_letter : goal.returns-else-lacks_letter
returns-else-lacks_letter c =
    fault_of_unnamed (the_zone c.args.zone) c.args.all.now c.requires.periods c.args.kind (c.lacks_letter.ensures.has c.if-lacks_letter.false) c.requires.unnamed
