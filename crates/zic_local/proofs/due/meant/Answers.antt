use Rattle.std.proofs.Common.{ℤ, MatchOption, to_z-of_z, sym, subst}
use Rattle.zic_local.specs.Choice.{IsFirst}
use Rattle.zic_local.specs.Due.{IsMeant}
use Rattle.zic_local.specs.declared.schedule.Policy.{Policy}
use Rattle.zic_local.proofs.due.meant.Goals as goal

pub returns-in-Skip : goal.returns-in-Skip
returns-in-Skip c =
    let content = c.args.zone.now in
    let found = c.first_shown.result in
    let first = subst (λ (local : ℤ). MatchOption found ((t : ℤ) → IsFirst content local t → ⊥) (IsFirst content local)) (to_z-of_z c.ranges.local)
    c.first_shown.ensures in
    subst (λ (how : Policy). MatchOption found ((t : ℤ) → IsMeant content c.args.local how t → ⊥) (IsMeant content c.args.local how)) (sym c.in-Skip.is)
    first
