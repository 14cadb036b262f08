use Rattle.std.proofs.Common.{◌<◌, length, ap, refl, arith}
use Rattle.std.proofs.lemmas.Option.{slice_get_read}
use Rattle.zic_source.specs.Source.{SourceLines}
use Rattle.zic_source.specs.code.Lines.{source_lines}
use Rattle.zic_base.proofs.Elements.{got}
use Rattle.zic_source.proofs.links.Ways.{ends_within}
use Rattle.zic_source.proofs.source.Source.link_zone.Goals as goal

pub returns-clause-within : goal.returns-clause-within
returns-clause-within c =
    let lines = c.self.inside.lines in
    let zones = c.self.inside.link_zones in
    let right = c.self.invariant.zones_right in
    let within : c.args.link < length lines.links.items = omega (arith, ap (λ (s : SourceLines). length s.links) c.self.view_is) in
    let there : c.args.link < length zones.items = omega (arith, right.long) in
    let link = got lines.links.items c.args.link within in
    let below : c.index.result.now < length lines.zones.items = ends_within (source_lines lines) link.0 c.index.result.now
    (right.ends c.args.link c.index.result.now (slice_get_read zones.items _ c.args.link c.index.result.now refl there c.index.ensures) link.0 link.1) in
    omega (arith, ap (λ (s : SourceLines). length s.zones) c.self.view_is)
