use Rattle.std.proofs.Common.{length, sym, ap, subst, ◌∙◌, arith}
use Rattle.zic_tzif.specs.Content.{Content}
use Rattle.zic_tzif.specs.code.StoredContent.{IsSoundContent}
use Rattle.zic_tzif.proofs.Search.{stored_footer, stored_none}
use Rattle.zic_tzif.proofs.States.{states_of_some, states_of_none, has_daylight, states_without_footer, states_with_footer}
use Rattle.zic_tzif.proofs.zone.Zone.state_count.Goals as goal

pub returns-in-Some : goal.returns-in-Some
returns-in-Some c =
    let content = c.args.self.now in
    let footer = c.self.inside.footer in
    let f = c.in-Some.footer in
    let sound_content = subst (λ (content : Content). IsSoundContent content footer) c.self.view_is c.self.invariant.sound_content in
    let types = ap (λ (content : Content). length content.types) c.self.view_is in
    let states = states_of_some f.dst (sym (has_daylight c.daylight_state.result f.dst c.daylight_state.ensures) ∙ sym c.is_some.ensures ∙ c.if-is_some.true) in
    states_with_footer content f _ (stored_footer content footer f sound_content.footer_is c.in-Some.is).spells (omega (arith, c.len-types.ensures, types, states))

pub returns-in-Some-2 : goal.returns-in-Some-2
returns-in-Some-2 c =
    let content = c.args.self.now in
    let footer = c.self.inside.footer in
    let f = c.in-Some.footer in
    let sound_content = subst (λ (content : Content). IsSoundContent content footer) c.self.view_is c.self.invariant.sound_content in
    let types = ap (λ (content : Content). length content.types) c.self.view_is in
    let states = states_of_none f.dst (sym (has_daylight c.daylight_state.result f.dst c.daylight_state.ensures) ∙ sym c.is_some.ensures ∙ c.if-is_some.false) in
    states_with_footer content f _ (stored_footer content footer f sound_content.footer_is c.in-Some.is).spells (omega (arith, c.len-types.ensures, types, states))

pub returns-in-None : goal.returns-in-None
returns-in-None c =
    let content = c.args.self.now in
    let footer = c.self.inside.footer in
    let sound_content = subst (λ (content : Content). IsSoundContent content footer) c.self.view_is c.self.invariant.sound_content in
    let types = ap (λ (content : Content). length content.types) c.self.view_is in
    states_without_footer content c.len-types.result (stored_none content footer sound_content.footer_is c.in-None.is) (omega (arith, c.len-types.ensures, types))
