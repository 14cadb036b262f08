use Rattle.std.proofs.Common.{◌≡◌, ◌+◌, ◌-◌, ◌∷◌, [], ◌++◌, List, length, ap, ◌∙◌, arith}
use Rattle.zic_lines.specs.declared.zone_line.ZoneLine.{ZoneLine}
use Rattle.zic_source.specs.Source.{ZoneLines}
use Rattle.zic_source.proofs.lookups.LastZone.{continued_is}
use Rattle.zic_source.proofs.entries.Entries.continue_zone.Goals as goal

pub returns : goal.returns
returns c =
    let zones = c.args.self.now.zones in
    let zone = c.zone.inside in
    let last : length zones.items ≡ (c.len-last.result - 1) + 1 = omega (arith, zones.ok.0) in
    let same = continued_is c.args.line zones.items (c.len-last.result - 1) c.index_mut-zone.result.now _ last c.index_mut-zone.ensures.value
    (ap (λ (lines : List ZoneLine). record { name = zone.name; first = zone.first; continuations = lines }) c.in_ok-push.ensures.items
    ∙ ap (λ (z : ZoneLines). record z { continuations = z.continuations ++ c.args.line ∷ [] }) c.zone.view_is) in
    ap (λ (zs : List ZoneLines). record { rules = c.args.self.now.rules.items; zones = zs; links = c.args.self.now.links.items }) same
