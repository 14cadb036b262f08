use Rattle.std.proofs.Common.{◌≡◌, ◌<◌, length, ap, subst, refl, Some, arith}
use Rattle.std.specs.Prelude.{slice_get}
use Rattle.std.proofs.lemmas.Option.{slice_get_read}
use Rattle.zic_source.specs.Source.{SourceLines}
use Rattle.zic_source.specs.Sound.{IsSoundRule}
use Rattle.zic_base.proofs.Elements.{all_got}
use Rattle.zic_source.proofs.source.Source.rule.Goals as goal

pub returns-clause-rule : goal.returns-clause-rule
returns-clause-rule c =
    let lines = c.self.inside.lines in
    let within : c.args.rule < length lines.rules.items = omega (arith, c.requires, ap (λ (s : SourceLines). length s.rules) c.self.view_is) in
    subst (λ (s : SourceLines). slice_get s.rules c.args.rule ≡ Some c.index.result.now) c.self.view_is
    (slice_get_read lines.rules.items _ c.args.rule c.index.result.now refl within c.index.ensures)

pub returns-clause-sound : goal.returns-clause-sound
returns-clause-sound c =
    let lines = c.self.inside.lines in
    let within : c.args.rule < length lines.rules.items = omega (arith, c.requires, ap (λ (s : SourceLines). length s.rules) c.self.view_is) in
    all_got IsSoundRule lines.rules.items c.args.rule c.index.result.now c.self.invariant.sound.rules (slice_get_read lines.rules.items _ c.args.rule c.index.result.now refl within c.index.ensures)
