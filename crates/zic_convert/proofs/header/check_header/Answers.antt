use Rattle.std.proofs.Common.{◌∙◌, ◌∷◌, [], ℕ, List, refl, sym, ap, subst}
use Rattle.std.specs.Prelude.{All, map}
use Rattle.zic_columns.specs.Round.{records_of}
use Rattle.zic_zones.specs.Zones.{zone_in}
use Rattle.zic_zones.specs.declared.zones.Releases.{Releases}
use Rattle.zic_convert.specs.Header.{header_fault}
use Rattle.zic_convert.specs.code.Progress.{records_left}
use Rattle.zic_convert.proofs.Delimited.{can_delimit}
use Rattle.zic_convert.proofs.HeaderFaults.{own_same}
use Rattle.zic_convert.proofs.header.check_header.Goals as goal

pub returns-in-None-clause-none : goal.returns-in-None-clause-none
returns-in-None-clause-none g c = λ releases may of.
    let layout = c.args.by.now.layout.now in
    let own = c.args.own.now in
    let zones = c.prepare.new.self in
    let all = subst (λ (p : List (List ℕ)). All (g.Z.Zones.settled zones) (map (zone_in layout.zone) (records_of layout.delimiter p))) (c.round.ensures ∙ ap (λ (o : List ℕ). o ∷ []) c.new-one.ensures) c.in_ok-prepare.ensures.settled in
    sym c.in-None.is ∙ c.in_ok-header_fault.ensures of ∙ ap (λ (r : Releases). header_fault layout r.zones (records_left layout own)) c.ready-releases.ensures
    ∙ own_same c.first_record_is_alone.ensures layout (can_delimit layout.delimiter c.byte.ensures.sound) (g.Z.Zones.settled zones) (g.Z.Zones.known zones) releases (g.met.Z.Zones.agrees zones releases may) own all of

pub returns-in-Some-clause-halt : goal.returns-in-Some-clause-halt
returns-in-Some-clause-halt g c = (
  refl,
  c.in_ok-prepare.ensures.grown,
  λ releases may of.
      let layout = c.args.by.now.layout.now in
      let own = c.args.own.now in
      let zones = c.prepare.new.self in
      let all = subst (λ (p : List (List ℕ)). All (g.Z.Zones.settled zones) (map (zone_in layout.zone) (records_of layout.delimiter p))) (c.round.ensures ∙ ap (λ (o : List ℕ). o ∷ []) c.new-one.ensures) c.in_ok-prepare.ensures.settled in
      sym c.in-Some.is ∙ c.in_ok-header_fault.ensures of ∙ ap (λ (r : Releases). header_fault layout r.zones (records_left layout own)) c.ready-releases.ensures
      ∙ own_same c.first_record_is_alone.ensures layout (can_delimit layout.delimiter c.byte.ensures.sound) (g.Z.Zones.settled zones) (g.Z.Zones.known zones) releases (g.met.Z.Zones.agrees zones releases may) own all of,
)
