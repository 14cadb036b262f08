use Rattle.std.proofs.Common.{◌≡◌, ◌<◌, ◌+◌, ℕ, List, length, Option, Some, refl, sym, ap, subst, ◌∙◌, arith}
use Rattle.std.specs.Prelude.{slice_get, IsSome}
use Rattle.std.specs.Global.{Vec}
use Rattle.std.proofs.lemmas.List.{take_all}
use Rattle.std.proofs.lemmas.Option.{slice_get_read, get_or_from_slice_get}
use Rattle.zic_lines.specs.declared.link.Link.{Link}
use Rattle.zic_source.specs.declared.chains.End.{End}
use Rattle.zic_source.specs.Links.{EndsAtZone}
use Rattle.zic_source.specs.code.Lines.{source_lines}
use Rattle.zic_source.specs.code.Faults.{LinkHas, IsFirstOf}
use Rattle.zic_source.specs.code.Chains.{EndsAs, IsFound}
use Rattle.zic_source.proofs.faults.OfLinks.{AreFound, none_found, one_zone, one_fault}
use Rattle.zic_source.proofs.whole.link_zones.Goals as goal
use Rattle.zic_source.proofs.whole.link_zones.Goals.{in-Ok+in_ok-push-in-Ok, in-Err}

pub unwrap-requires : goal.unwrap-requires
unwrap-requires c =
    let within : c.loop-link.link < length c.in_ok-ends.ends.items = omega (arith, c.loop-link-test.true, c.len-link-end.ensures, c.in_ok-ends.ensures.long) in
    let end = c.in_ok-ends.ensures.found c.loop-link.link within in
    let is : c.index-in-loop-link.result.now ≡ Some end.0 = c.index-in-loop-link.ensures ∙ get_or_from_slice_get c.in_ok-ends.ends.items c.loop-link.link (Some end.0) c.index-in-loop-link.result.now end.1 in
    subst (λ (o : Option End). IsSome o) (sym is) refl

pub loop-link-init : goal.loop-link-init
loop-link-init c = none_found (source_lines c.args.lines.now) c.new-zones.result.items c.new-zones.ensures.items

pub loop-link-preserved : goal.loop-link-preserved
loop-link-preserved c =
    let source = source_lines c.args.lines.now in
    let here : c.loop-link.link < length c.args.lines.now.links.items = omega (arith, c.loop-link-test.true, c.len-link-end.ensures) in
    let within : c.loop-link.link < length c.in_ok-ends.ends.items = omega (arith, c.in_ok-ends.ensures.long) in
    let at : slice_get c.args.lines.now.links.items c.loop-link.link ≡ Some c.index.result.now = slice_get_read c.args.lines.now.links.items _ c.loop-link.link c.index.result.now refl here c.index.ensures in
    let known : IsFound c.in_ok-ends.ends.items c.loop-link.link c.unwrap.result =
    slice_get_read c.in_ok-ends.ends.items _ c.loop-link.link c.index-in-loop-link.result.now refl within c.index-in-loop-link.ensures ∙ ap (λ (o : Option End). Some o) c.unwrap.ensures in
    let ends : EndsAs source c.index.result.now c.unwrap.result = c.in_ok-ends.ensures.right c.loop-link.link c.unwrap.result known c.index.result.now at in
    elim c.match-link_zone.branch [
      | in-Ok+in_ok-push-in-Ok w ↦ subst (AreFound source (c.loop-link.link + 1) c.match-link_zone.zones.items) (sym w.fault-is)
          (one_zone c.args.names.now source c.requires c.loop-link.link c.index.result.now at c.loop-link.zones.items c.loop-link.fault c.loop-link.invariant
          w.in-Ok.zone c.match-link_zone.zones.items (w.in-Ok.ensures source ends) (ap (λ (v : Vec ℕ). v.items) w.zones-is ∙ w.in_ok-push-in-Ok.ensures.items))
      | in-Err w ↦ subst (λ (v : Vec ℕ). AreFound source (c.loop-link.link + 1) v.items c.match-link_zone.fault) (sym w.zones-is)
          (subst (AreFound source (c.loop-link.link + 1) c.loop-link.zones.items) (sym w.fault-is)
          (one_fault c.args.names.now source c.requires c.loop-link.link c.index.result.now at c.loop-link.zones.items c.loop-link.fault c.loop-link.invariant
          w.in-Err.other w.earlier-fault.result (w.in-Err.ensures source ends) w.earlier-fault.ensures))
    ]

pub returns-clause-fault : goal.returns-clause-fault
returns-clause-fault c = subst (λ (links : List Link). IsFirstOf (EndsAtZone (source_lines c.args.lines.now)) (LinkHas (source_lines c.args.lines.now)) links c.loop-link.fault)
    (take_all c.loop-link.link c.args.lines.now.links.items (omega (arith, c.loop-link-test.false, c.len-link-end.ensures)))
    c.loop-link.invariant.first

pub returns-clause-zones : goal.returns-clause-zones
returns-clause-zones c = λ none. record {
  long = omega (arith, c.loop-link.invariant.long none, c.loop-link-test.false, c.len-link-end.ensures);
  ends = c.loop-link.invariant.ends none;
}
