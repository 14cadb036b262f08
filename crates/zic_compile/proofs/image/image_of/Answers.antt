use Rattle.std.proofs.Common.{◌≡◌, ℕ, subst, rules, Some}
use Rattle.std.specs.Prelude.{slice_get, IfSome, IfOk}
use Rattle.zic_base.specs.Fault.{fault_of}
use Rattle.zic_lines.specs.declared.zone_line.ZoneLine.{ZoneLine}
use Rattle.zic_source.specs.Source.{SourceLines, zone_at, lines_of_zone}
use Rattle.zic_states.specs.Zone.{Zone}
use Rattle.zic_states.proofs.Outcomes.{refusal_from}
use Rattle.zic_rules.specs.Timeline.{zone_of}
use Rattle.zic_compile.specs.Image.{IsImageOf, ReadsAs}
use Rattle.zic_compile.proofs.zone_images.Faults.{fault_of_image}
use Rattle.zic_compile.proofs.zone_images.Wants.{may_want, at_states, want_from}
use Rattle.zic_compile.proofs.image.image_of.Goals as goal

at_line : (s t : SourceLines) (zone : ℕ) (line : ZoneLine) → s ≡ t → IfSome (zone_at s zone) (λ z. slice_get (lines_of_zone z) 0 ≡ Some line) → IfSome (zone_at t zone) (λ z. slice_get (lines_of_zone z) 0 ≡ Some line)
at_line s t zone line same is = subst (λ (x : SourceLines). IfSome (zone_at x zone) (λ z. slice_get (lines_of_zone z) 0 ≡ Some line)) same is

pub returns-in_err-states-clause-memory : goal.returns-in_err-states-clause-memory
returns-in_err-states-clause-memory c =
    let by = at_states (fault_of c.in_err-states.field-0.0) (zone_of c.args.source.now c.args.zone) c.in_err-states.ensures.memory c.in_err-states.ensures.fixed in
    search (rules, by, c.from_residual.ensures)

pub returns-clause-ok : goal.returns-clause-ok
returns-clause-ok c =
    subst (λ (z : Zone). IfOk c.image_of_states-image.result (IsImageOf z)) c.in_ok-states.ensures.ok c.image_of_states-image.ensures.ok

pub returns-clause-reads : goal.returns-clause-reads
returns-clause-reads c =
    subst (λ (z : Zone). IfOk c.image_of_states-image.result (ReadsAs z)) c.in_ok-states.ensures.ok c.image_of_states-image.ensures.reads

pub returns-clause-err : goal.returns-clause-err
returns-clause-err c =
    let source = c.args.source.now in
    let first = at_line c.source-lines.result.now source c.args.zone c.line.result.now c.source-lines.ensures c.line.ensures.line in
    refusal_from fault_of c.image_of_states-image.result c.image_of_states-image.ensures.err
    (fault_of_image source c.args.zone c.line.result.now c.requires first c.in_ok-states.states c.in_ok-states.ensures.ok c.in_ok-states.ensures.sound)

pub returns-clause-memory : goal.returns-clause-memory
returns-clause-memory c =
    want_from fault_of c.image_of_states-image.result c.image_of_states-image.ensures.memory
    (λ made. may_want c.in_ok-states.states (zone_of c.args.source.now c.args.zone) c.in_ok-states.ensures.ok c.in_ok-states.ensures.sound made.0 made.1)
