use Rattle.std.proofs.Common.{◌≡◌, ◌<◌, length, Option, Some, sym, ap, subst, refl, arith}
use Rattle.std.specs.Prelude.{IfSome, slice_get}
use Rattle.std.proofs.lemmas.Option.{slice_get_read}
use Rattle.zic_source.specs.Source.{SourceLines, ZoneLines, zone_at, lines_of_zone}
use Rattle.zic_source.specs.Sound.{IsSoundZone, IsSoundLine}
use Rattle.zic_base.proofs.Elements.{all_got}
use Rattle.zic_source.proofs.source.Source.line.Goals as goal

pub line-requires : goal.line-requires
line-requires c =
    let lines = c.self.inside.lines in
    let within : c.args.zone < length lines.zones.items = omega (arith, c.requires.zone, ap (λ (s : SourceLines). length s.zones) c.self.view_is) in
    c.requires.line c.index.result.now (subst (λ (s : SourceLines). zone_at s c.args.zone ≡ Some c.index.result.now) c.self.view_is
    (slice_get_read lines.zones.items _ c.args.zone c.index.result.now refl within c.index.ensures))

pub returns-clause-line : goal.returns-clause-line
returns-clause-line c =
    let lines = c.self.inside.lines in
    let within : c.args.zone < length lines.zones.items = omega (arith, c.requires.zone, ap (λ (s : SourceLines). length s.zones) c.self.view_is) in
    let at = slice_get_read lines.zones.items _ c.args.zone c.index.result.now refl within c.index.ensures in
    subst (λ (s : SourceLines). IfSome (zone_at s c.args.zone) (λ z. slice_get (lines_of_zone z) c.args.line ≡ Some c.line.result.now)) c.self.view_is
    (subst (λ (o : Option ZoneLines). IfSome o (λ z. slice_get (lines_of_zone z) c.args.line ≡ Some c.line.result.now)) (sym at) c.line.ensures)

pub returns-clause-sound : goal.returns-clause-sound
returns-clause-sound c =
    let lines = c.self.inside.lines in
    let within : c.args.zone < length lines.zones.items = omega (arith, c.requires.zone, ap (λ (s : SourceLines). length s.zones) c.self.view_is) in
    let zone : IsSoundZone lines.rules.items c.index.result.now =
    all_got (IsSoundZone lines.rules.items) lines.zones.items c.args.zone c.index.result.now c.self.invariant.sound.zones (slice_get_read lines.zones.items _ c.args.zone c.index.result.now refl within c.index.ensures) in
    subst (λ (s : SourceLines). IsSoundLine s.rules c.line.result.now) c.self.view_is
    (all_got (IsSoundLine lines.rules.items) (lines_of_zone c.index.result.now) c.args.line c.line.result.now zone.lines c.line.ensures)
