use Rattle.std.proofs.Common.{List, ◌++◌, pos, false, get_or, take, ap, sym, ◌∙◌}
use Rattle.std.proofs.lemmas.List.{flat_map_more, take_more, take_all}
use Rattle.std.specs.List.{flat_map}
use Rattle.zic_tzif.specs.declared.content.LocalType.{LocalType}
use Rattle.zic_tzif.specs.Writing.{type_octets}
use Rattle.zic_tzif.proofs.writer.put_types.Goals as goal

pub loop-local_type-preserved : goal.loop-local_type-preserved
loop-local_type-preserved c =
    let front = c.args.out.now.items in
    let i = c.loop-local_type.local_type-index in
    let none : LocalType = record { offset = pos 0; daylight = false; place = 0 } in
    rw (c.in_ok-put_type.ensures, c.loop-local_type.invariant) (
    flat_map_more type_octets front (take i c.args.types.now) (get_or c.args.types.now i none)
    ∙ ap (λ (types : List LocalType). front ++ flat_map type_octets types) (sym (take_more c.args.types.now i none c.loop-local_type-test.true))
    )

pub returns : goal.returns
returns c =
    c.loop-local_type.invariant
    ∙ ap (λ (types : List LocalType). c.args.out.now.items ++ flat_map type_octets types) (take_all c.loop-local_type.local_type-index c.args.types.now c.loop-local_type-test.false)
