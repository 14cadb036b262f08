use Rattle.std.proofs.Common.{arith}
use Rattle.zic_compile.proofs.Entries.{zone_more, link_more, zone_within, link_within, all_entries}
use Rattle.zic_compile.proofs.entry.entries_of.Goals as goal
use Rattle.zic_compile.proofs.entry.entries_of.Goals.{then-is_zone_next+in_ok-zone_entry+in_ok-push, else-is_zone_next+in_ok-link_entry+in_ok-push-2}

pub loop-preserved : goal.loop-preserved
loop-preserved c =
    let source = c.args.source.now in
    let zone = c.loop.zone in
    let link = c.loop.link in
    let items = c.loop.entries.items in
    let inv = c.loop.invariant in
    let in_order = c.zones.ensures.sound.in_order in
    elim c.if-is_zone_next.branch [
      | then-is_zone_next+in_ok-zone_entry+in_ok-push w ↦
          let next = c.is_zone_next.ensures.zone w.if-is_zone_next.true in
          record {
            count = omega (arith, w.zone-is, w.link-is, inv.count);
            zone = omega (arith, w.zone-is, zone_within source zone link next);
            link = omega (arith, w.link-is, inv.link);
            so_far = rw (w.entries-is, w.zone-is, w.link-is, w.in_ok-push.ensures.items)
                (zone_more source zone link items w.in_ok-zone_entry.field-0 in_order inv.so_far next w.in_ok-zone_entry.ensures);
          }
      | else-is_zone_next+in_ok-link_entry+in_ok-push-2 w ↦
          let next = c.is_zone_next.ensures.link w.if-is_zone_next.false in
          record {
            count = omega (arith, w.zone-is, w.link-is, inv.count);
            zone = omega (arith, w.zone-is, inv.zone);
            link = omega (arith, w.link-is, link_within source zone link next);
            so_far = rw (w.entries-is, w.zone-is, w.link-is, w.in_ok-push-2.ensures.items)
                (link_more source zone link items w.in_ok-link_entry.field-0 in_order inv.so_far next w.in_ok-link_entry.ensures);
          }
    ]

pub returns-clause-ok : goal.returns-clause-ok
returns-clause-ok c =
    let inv = c.loop.invariant in
    all_entries c.args.source.now c.loop.zone c.loop.link c.loop.entries.items inv.so_far
    (omega (arith, inv.count, inv.zone, inv.link, c.loop-test.false, c.zones.ensures.count, c.links.ensures.count))
    (omega (arith, inv.count, inv.zone, inv.link, c.loop-test.false, c.zones.ensures.count, c.links.ensures.count))
