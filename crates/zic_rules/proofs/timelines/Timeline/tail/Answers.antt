use Rattle.std.proofs.Common.{◌≡◌, ◌≤◌, pos, ◌+ℤ◌, ◌-ℤ◌, List, length, sym, ap, subst, ◌∙◌, arith, rules, to_z, of_z, w32, w64}
use Rattle.std.proofs.lemmas.Int.{ints}
use mir.Val.{SFits}
use Rattle.zic_base.specs.State.{shown}
use Rattle.zic_base.specs.declared.fault.Kind.TheVariants as kind
use Rattle.zic_lines.specs.declared.zone_line.ZoneLine.{ZoneLine}
use Rattle.zic_states.specs.End.{IsEnd}
use Rattle.zic_states.specs.Zone.{Zone, Shows}
use Rattle.zic_rules.specs.code.Period.{the_zone}
use Rattle.zic_rules.specs.Tail.{IsConstantTail, IsRulesTail}
use Rattle.zic_rules.specs.Timeline.{IsWholeZone}
use Rattle.zic_rules.specs.declared.tail.TailRule.{TailRule}
use Rattle.zic_rules.specs.code.Shown.{shown_by}
use Rattle.zic_rules.proofs.TailConstant.{constant_tail}
use Rattle.zic_rules.proofs.TailHeld.{one_last}
use Rattle.zic_rules.proofs.TailLines.{set_line}
use Rattle.zic_rules.proofs.TailTurns.{rules_tail}
use Rattle.zic_rules.proofs.TimelineFields.{whole_zone}
use Rattle.zic_rules.proofs.TailYear.{begins_own, begun_in_years, named_in_range}
use Rattle.zic_rules.proofs.timelines.Timeline.tail.Goals as goal

pub returns-then-len-lt-FEWEST_RULES-clause-tail : goal.returns-then-len-lt-FEWEST_RULES-clause-tail
returns-then-len-lt-FEWEST_RULES-clause-tail c =
    let t = c.self.inside in
    let zone = the_zone t.zone in
    let in_force = c.self.invariant.before_end in
    let state = shown_by c.last_state.result.now in
    let few : length t.rules.items ≤ 1 = search (rules, c.len.ensures, c.if-len-lt-FEWEST_RULES.true) in
    let shows = subst (λ (z : Zone). Shows z (t.end -ℤ pos 1) state) (sym c.self.view_is)
    (c.last_state.ensures t.end (subst (λ (z : Zone). IsEnd z t.end) c.self.view_is in_force.is_end)) in
    subst (λ (z : Zone). IsConstantTail z (shown c.state_of.result)) c.self.view_is
    (subst (IsConstantTail zone) (sym c.state_of.ensures)
    (constant_tail zone in_force.orderly t.end in_force.is_end t.rules.items in_force.is_zone (in_force.sound kind.NoLetter) c.self.invariant.tail few state shows))

pub returns-then-len-lt-FEWEST_RULES-clause-whole : goal.returns-then-len-lt-FEWEST_RULES-clause-whole
returns-then-len-lt-FEWEST_RULES-clause-whole c = subst IsWholeZone c.self.view_is (whole_zone _ _ _ _ c.self.invariant.before_end)

pub returns-clause-whole : goal.returns-clause-whole
returns-clause-whole c = subst IsWholeZone c.self.view_is (whole_zone _ _ _ _ c.self.invariant.before_end)

pub year_of-requires : goal.year_of-requires
year_of-requires c =
    let t = c.self.inside in
    let zone = the_zone t.zone in
    let in_force = c.self.invariant.before_end in
    let two : 2 ≤ length t.rules.items = search (rules, c.len.ensures, c.if-len-lt-FEWEST_RULES.false) in
    let of = set_line zone in_force.orderly t.end in_force.is_end t.rules.items c.self.invariant.tail two in
    let range = named_in_range zone of.number of.name of.year in_force.orderly.sets.sound of.tail.last_year in
    let fits : SFits w64 t.end = search rules in
    let same : to_z w64 (of_z w64 t.end) ≡ t.end = omega (arith, ints, fits) in
    begun_in_years (to_z w64 (of_z w64 t.end)) (of.year +ℤ pos 3) (same ∙ of.end_is) (omega (arith, ints, range)) (omega (arith, ints, range))

pub returns-clause-tail : goal.returns-clause-tail
returns-clause-tail c =
    let t = c.self.inside in
    let zone = the_zone t.zone in
    let in_force = c.self.invariant.before_end in
    let two : 2 ≤ length t.rules.items = search (rules, c.len.ensures, c.if-len-lt-FEWEST_RULES.false) in
    let of = set_line zone in_force.orderly t.end in_force.is_end t.rules.items c.self.invariant.tail two in
    let fits : SFits w64 t.end = search rules in
    let same : to_z w64 (of_z w64 t.end) ≡ t.end = omega (arith, ints, fits) in
    let year : pos c.year_of.result ≡ of.year +ℤ pos 3 = begins_own (to_z w64 (of_z w64 t.end)) (of.year +ℤ pos 3) (pos c.year_of.result) (same ∙ of.end_is) c.year_of.ensures in
    let range = named_in_range zone of.number of.name of.year in_force.orderly.sets.sound of.tail.last_year in
    let line = c.last_line.result.now in
    let within = c.last_line.ensures.sound.offset in
    let is_line = one_last zone in_force.orderly of.number of.line of.tail.is_last c.last_line.ensures.last.0 line c.last_line.ensures.last.1 in
    let offset : to_z w32 (of_z w32 line.offset) ≡ line.offset = omega (arith, ints, within) in
    let standard = to_z w32 (of_z w32 line.offset) in
    let standard_is : standard ≡ of.line.offset = offset ∙ ap (λ (l : ZoneLine). l.offset) is_line.1 in
    let first = to_z w64 (of_z w64 (to_z w64 (of_z w64 c.from.result) -ℤ pos 2)) in
    let first_is : first ≡ of.year +ℤ pos 1 = omega (arith, ints, c.from.ensures, year, range) in
    subst (λ (z : Zone). IsRulesTail z standard first c.deref.result.now) c.self.view_is
    (subst (λ (ts : List TailRule). IsRulesTail zone standard first ts) (sym c.deref.ensures.value)
    (rules_tail zone in_force.orderly t.end in_force.is_end t.rules.items of two standard first standard_is first_is))
