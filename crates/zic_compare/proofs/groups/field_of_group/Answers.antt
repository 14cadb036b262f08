use Rattle.std.proofs.Common.{arith}
use Rattle.zic_compare.proofs.GroupLemmas.{first_name, later_field, one_name_more, whole_field}
use Rattle.zic_compare.proofs.groups.field_of_group.Goals as goal

pub returns-then-not-is_first : goal.returns-then-not-is_first
returns-then-not-is_first c =
    later_field c.args.own.now c.args.others.now c.args.file c.len-count.ensures.sound.names_differ c.if-not-is_first.ensures

pub loop-link-init : goal.loop-link-init
loop-link-init c = first_name c.args.own.now c.args.others.now c.args.file c.name.result.now c.in_ok-field.field.items c.name.ensures.name c.in_ok-field.ensures.items

pub loop-link-preserved : goal.loop-link-preserved
loop-link-preserved c =
    let count = c.len-count.ensures.count in
    one_name_more c.args.own.now c.args.others.now c.args.file c.loop-link.link c.loop-link.field.items c.push_link.new.field.items
    (omega (arith, c.loop-link.auto.link)) (omega (arith, count, c.loop-link-test.true)) c.loop-link.invariant c.in_ok-push_link.ensures

pub returns : goal.returns
returns c =
    let count = c.len-count.ensures.count in
    whole_field c.args.own.now c.args.others.now c.args.file c.loop-link.link c.loop-link.field.items
    (omega (arith, count, c.loop-link-test.false, c.loop-link.auto.link-end)) c.if-not-is_first.ensures c.loop-link.invariant
