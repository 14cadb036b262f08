use Rattle.std.proofs.Common.{◌≡◌, Some, None, refl, sym, ap, ◌∙◌, arith}
use Rattle.std.specs.Prelude.{slice_get}
use Rattle.std.proofs.lemmas.Option.{slice_get_read}
use Rattle.zic_source.specs.declared.chains.End.TheVariants as ends
use Rattle.zic_source.specs.declared.owners.Owner.{Owner}
use Rattle.zic_source.specs.declared.owners.Owner.TheVariants as named
use Rattle.zic_source.specs.code.Lines.{source_lines}
use Rattle.zic_source.specs.code.Owners.{who}
use Rattle.zic_source.specs.code.Chains.{IsFound, ChainEnds}
use Rattle.zic_source.proofs.links.Ways.{ends_nowhere, ends_at_zone}
use Rattle.zic_source.proofs.links.Walks.{walk_begins, walk_stops_at, walk_stops_after, walk_on, of_number, found_read}
use Rattle.zic_source.proofs.chains.follow.Goals as goal

pub loop-ends-init : goal.loop-ends-init
loop-ends-init c = walk_begins c.args.names.now (source_lines c.args.lines.now) c.args.start c.args.ends.now c.args.path.now.items c.requires.long c.requires.start c.requires.right c.requires.empty

pub returns-in-Some : goal.returns-in-Some
returns-in-Some c =
    let known : IsFound c.loop-ends.ends c.loop-ends.link c.in-Some.end = found_read c.loop-ends.ends c.loop-ends.link _ c.in-Some.end (omega (arith, c.loop-ends.invariant.long, c.loop-ends.invariant.here)) c.in-Some.is in
    let over = walk_stops_at c.requires.names c.loop-ends.invariant c.in-Some.end known in
    record { within = over.within; right = over.right; others = over.others; found = over.found }

pub returns-in-None : goal.returns-in-None
returns-in-None c =
    let at : slice_get c.args.lines.now.links.items c.loop-ends.link ≡ Some c.index.result.now = slice_get_read c.args.lines.now.links.items _ c.loop-ends.link c.index.result.now refl c.loop-ends.invariant.here c.index.ensures in
    let to : who c.args.names.now c.index.result.now.target ≡ None = sym c.in-None.ensures in
    let end : ChainEnds (source_lines c.args.lines.now) c.loop-ends.link ends.Nowhere = of_number (source_lines c.args.lines.now) c.loop-ends.link c.index.result.now ends.Nowhere at (ends_nowhere c.args.names.now (source_lines c.args.lines.now) c.requires.names c.index.result.now to) in
    let over = walk_stops_after c.requires.names c.loop-ends.invariant ends.Nowhere _ c.in_ok-push.ensures.items end in
    record { within = over.within; right = over.right; others = over.others; found = over.found }

pub returns-in-Some-Zone : goal.returns-in-Some-Zone
returns-in-Some-Zone c =
    let at : slice_get c.args.lines.now.links.items c.loop-ends.link ≡ Some c.index.result.now = slice_get_read c.args.lines.now.links.items _ c.loop-ends.link c.index.result.now refl c.loop-ends.invariant.here c.index.ensures in
    let to : who c.args.names.now c.index.result.now.target ≡ Some (named.Zone c.in-Some-Zone.zone) = sym c.in-Some-Zone.ensures ∙ ap (λ (n : Owner). Some n) c.in-Some-Zone.field-0-is in
    let end : ChainEnds (source_lines c.args.lines.now) c.loop-ends.link (ends.Zone c.in-Some-Zone.zone) = of_number (source_lines c.args.lines.now) c.loop-ends.link c.index.result.now (ends.Zone c.in-Some-Zone.zone) at (ends_at_zone c.args.names.now (source_lines c.args.lines.now) c.requires.names c.index.result.now c.in-Some-Zone.zone to) in
    let over = walk_stops_after c.requires.names c.loop-ends.invariant (ends.Zone c.in-Some-Zone.zone) _ c.in_ok-push.ensures.items end in
    record { within = over.within; right = over.right; others = over.others; found = over.found }

pub loop-ends-preserved : goal.loop-ends-preserved
loop-ends-preserved c =
    let at : slice_get c.args.lines.now.links.items c.loop-ends.link ≡ Some c.index.result.now = slice_get_read c.args.lines.now.links.items _ c.loop-ends.link c.index.result.now refl c.loop-ends.invariant.here c.index.ensures in
    let to : who c.args.names.now c.index.result.now.target ≡ Some (named.Link c.in-Some-Link.next) = sym c.in-Some-Link.ensures ∙ ap (λ (n : Owner). Some n) c.in-Some-Link.field-0-is in
    walk_on c.requires.names c.loop-ends.invariant c.index.result.now c.in-Some-Link.next _ c.in_ok-push.ensures.items at to
