use Rattle.std.proofs.Common.{None}
use Rattle.zic_rules.specs.code.Period.{the_zone}
use Rattle.zic_rules.proofs.TimelineStates.{held_first, unnamed_from}
use Rattle.zic_rules.proofs.compile.first_of.Goals as goal

pub state_at-requires-clause-held : goal.state_at-requires-clause-held
state_at-requires-clause-held c = held_first (the_zone c.args.zone) c.args.all.now c.requires.periods.periods

pub refusal-requires-clause-unnamed : goal.refusal-requires-clause-unnamed
refusal-requires-clause-unnamed c =
    let zone = the_zone c.args.zone in
    unnamed_from zone 0 None c.in-Err.kind (held_first zone c.args.all.now c.requires.periods.periods) c.in-Err.ensures.err
