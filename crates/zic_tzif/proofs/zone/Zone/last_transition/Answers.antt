use Rattle.std.proofs.Common.{◌≡◌, ℕ, ◌+◌, ◌-◌, ◌<◌, ℤ, pos, List, length, get_or, FitsSigned, w64, to_z-of_z, ap, subst, sym, ◌∙◌, arith, rules}
use Rattle.zic_tzif.specs.declared.content.Change.{Change}
use Rattle.zic_tzif.specs.Content.{Content}
use Rattle.zic_tzif.specs.LastTransition.{IsLastTransitionAt}
use Rattle.zic_tzif.proofs.LastTransitions.{last_at_end}
use Rattle.zic_tzif.proofs.zone.Zone.last_transition.Goals as goal

pub returns : goal.returns
returns c =
    let content = c.args.self.now in
    let times = c.self.inside.times.times.items in
    let numbers = c.self.inside.numbers.items in
    let read = c.as_slice-times.result.now in
    let same : read ≡ times = c.as_slice-times.ensures.value in
    let count = length read in
    let some = c.if-count-eq0.false in
    let changes = ap (λ (content : Content). content.changes) c.self.view_is in
    let long = ap (λ (xs : List ℤ). length xs) same in
    let is : length times ≡ (count - 1) + 1 = omega (arith, some, long) in
    let last = last_at_end content times numbers (count - 1) c.self.invariant.as_many changes c.self.invariant.sound_content.rising is in
    let within : count - 1 < length read = omega (arith, some) in
    let fits : FitsSigned w64 (get_or read (count - 1) (pos 0)) = search rules in
    rw (to_z-of_z fits) (subst (λ (xs : List ℤ). IsLastTransitionAt content (get_or xs (count - 1) (pos 0))) (sym same) last)
