use Rattle.std.proofs.Common.{◌≡◌, ℤ, FitsSigned, to_z-of_z, w64, ◌∙◌, sym, subst, rules}
use Rattle.std.specs.Option.{unwrap_or}
use Rattle.zic_tzif.specs.Answer.{IsUnspecified}
use Rattle.zic_local.specs.code.Search.{EndsAt}
use Rattle.zic_local.proofs.Ends.{ends_at_bound, ends_open}
use Rattle.zic_local.proofs.next.search_end.Goals as goal

pub returns-in-Known : goal.returns-in-Known
returns-in-Known c =
    subst (λ (end : ℤ). EndsAt c.args.zone.now c.args.until end) (sym (to_z-of_z c.ranges.until))
    (ends_at_bound c.args.zone.now c.requires c.args.until)

pub returns-in-Unspecified : goal.returns-in-Unspecified
returns-in-Unspecified c =
    let content = c.args.zone.now in
    let until = c.args.until in
    let fits : FitsSigned w64 c.unwrap_or.result = search rules in
    let opens : IsUnspecified content until = subst (λ (t : ℤ). IsUnspecified content t) (to_z-of_z c.ranges.until) c.in-Unspecified.ensures in
    let is : c.unwrap_or.result ≡ unwrap_or c.last_transition.result until = simp (to_z-of_z, c.ranges.until) at c.unwrap_or.ensures in
    subst (λ (end : ℤ). EndsAt content until end) (sym (to_z-of_z fits ∙ is))
    (ends_open content c.requires until opens c.last_transition.result c.last_transition.ensures)
