use Rattle.std.proofs.Common.{◌≡◌, ◌≤◌, ◌⊎◌, inl, inr, length, None, ap, subst, arith}
use Rattle.zic_tzif.specs.Content.{Content}
use Rattle.zic_tzif.specs.code.StoredContent.{IsSoundContent}
use Rattle.zic_tzif.proofs.Search.{stored_footer, stored_none}
use Rattle.zic_tzif.proofs.States.{within_types, standard_numbered, daylight_numbered}
use Rattle.zic_tzif.proofs.zone.Zone.state.Goals as goal
use Rattle.zic_tzif.proofs.zone.Zone.state.Goals.{in_default-via-in-Some+else-number-types, in_default-via-in_default, in_default-daylight_state-via-in-Some-daylight_state+else-number-types-2, in_default-daylight_state-via-in_default-daylight_state}

pub returns-in-Some-daylight_state : goal.returns-in-Some-daylight_state
returns-in-Some-daylight_state c =
    let content = c.args.self.now in
    let footer = c.self.inside.footer in
    let f = c.in-Some.footer in
    let sound_content = subst (λ (content : Content). IsSoundContent content footer) c.self.view_is c.self.invariant.sound_content in
    let spells = (stored_footer content footer f sound_content.footer_is c.in-Some.is).spells in
    let types = ap (λ (content : Content). length content.types) c.self.view_is in
    let after = c.if-number-types-2.true in
    daylight_numbered content f c.args.number spells c.requires c.daylight_state.result c.daylight_state.ensures c.in-Some-daylight_state.state
    (omega (arith, after, c.len-types.ensures, types)) c.in-Some-daylight_state.is

pub returns-in_default-daylight_state : goal.returns-in_default-daylight_state
returns-in_default-daylight_state c =
    let content = c.args.self.now in
    let footer = c.self.inside.footer in
    let f = c.in-Some.footer in
    let sound_content = subst (λ (content : Content). IsSoundContent content footer) c.self.view_is c.self.invariant.sound_content in
    let spells = (stored_footer content footer f sound_content.footer_is c.in-Some.is).spells in
    let types = ap (λ (content : Content). length content.types) c.self.view_is in
    let from = c.if-number-types.true in
    let to : (c.args.number ≤ length content.types) ⊎ (c.daylight_state.result ≡ None) = elim c.in_default-daylight_state.branch [
      | in_default-daylight_state-via-in-Some-daylight_state+else-number-types-2 w ↦ let to = w.if-number-types-2.false in inl (omega (arith, to, c.len-types.ensures, types))
      | in_default-daylight_state-via-in_default-daylight_state w ↦ inr w.in_default-daylight_state.is
    ] in
    standard_numbered content f c.args.number spells c.requires c.daylight_state.result c.daylight_state.ensures _ (omega (arith, from, c.len-types.ensures, types)) to c.standard_state.ensures

pub state_of-requires : goal.state_of-requires
state_of-requires c =
    let content = c.args.self.now in
    let footer = c.self.inside.footer in
    let types = ap (λ (content : Content). length content.types) c.self.view_is in
    elim c.in_default.branch [
      | in_default-via-in-Some+else-number-types w ↦ let below = w.if-number-types.false in omega (arith, below, c.len-types.ensures, types)
      | in_default-via-in_default w ↦
          let sound_content = subst (λ (content : Content). IsSoundContent content footer) c.self.view_is c.self.invariant.sound_content in
          within_types content c.args.number (stored_none content footer sound_content.footer_is w.in_default.is) c.requires
    ]
