use Rattle.std.proofs.Common.{◌≡◌, ◌<◌, length, ap, subst, refl, Some, arith}
use Rattle.std.specs.Prelude.{slice_get}
use Rattle.std.proofs.lemmas.Option.{slice_get_read}
use Rattle.zic_source.specs.Source.{SourceLines}
use Rattle.zic_source.specs.Sound.{IsSoundLink}
use Rattle.zic_source.specs.code.Lines.{source_lines}
use Rattle.zic_base.proofs.Elements.{all_got}
use Rattle.zic_source.proofs.source.Source.link.Goals as goal

pub returns-clause-link : goal.returns-clause-link
returns-clause-link c =
    let lines = c.self.inside.lines in
    let within : c.args.link < length lines.links.items = omega (arith, c.requires, ap (λ (s : SourceLines). length s.links) c.self.view_is) in
    subst (λ (s : SourceLines). slice_get s.links c.args.link ≡ Some c.index.result.now) c.self.view_is
    (slice_get_read lines.links.items _ c.args.link c.index.result.now refl within c.index.ensures)

pub returns-clause-sound : goal.returns-clause-sound
returns-clause-sound c =
    let lines = c.self.inside.lines in
    let within : c.args.link < length lines.links.items = omega (arith, c.requires, ap (λ (s : SourceLines). length s.links) c.self.view_is) in
    subst (λ (s : SourceLines). IsSoundLink s c.index.result.now) c.self.view_is
    (all_got (IsSoundLink (source_lines lines)) lines.links.items c.args.link c.index.result.now c.self.invariant.sound.links (slice_get_read lines.links.items _ c.args.link c.index.result.now refl within c.index.ensures))
