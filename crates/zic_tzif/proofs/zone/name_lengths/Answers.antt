use Rattle.std.proofs.Common.{ℕ, pos, false, List, [], ◌∷◌, ◌++◌, length, map, get_or, ap, sym, ◌∙◌, arith}
use Rattle.std.proofs.lemmas.List.{map_more, take_all}
use Rattle.std.proofs.lemmas.List.Elements.{All-get_or}
use Rattle.zic_tzif.specs.declared.content.LocalType.{LocalType}
use Rattle.zic_tzif.specs.Content.{IsLocalType}
use Rattle.zic_tzif.specs.code.StoredContent.{name_length}
use Rattle.zic_tzif.proofs.ReadContent.{place_inside}
use Rattle.zic_tzif.proofs.zone.name_lengths.Goals as goal

abbrev none : LocalType
none = record { offset = pos 0; daylight = false; place = 0 }

pub designation-requires : goal.designation-requires
designation-requires c =
    let names = c.args.names.now in
    let t = get_or c.args.types.now c.loop-local_type.local_type-index none in
    let is = All-get_or (IsLocalType names) c.args.types.now c.loop-local_type.local_type-index none c.loop-local_type-test.true c.requires in
    let inside = place_inside names t.place is.designation in
    omega (arith, inside)

pub loop-local_type-preserved : goal.loop-local_type-preserved
loop-local_type-preserved c =
    let names = c.args.names.now in
    let i = c.loop-local_type.local_type-index in
    let t = get_or c.args.types.now i none in
    c.in_ok-push.ensures.items
    ∙ ap (λ (text : List ℕ). c.loop-local_type.lengths.items ++ length text ∷ []) c.designation.ensures
    ∙ ap (λ (lengths : List ℕ). lengths ++ name_length names t ∷ []) c.loop-local_type.invariant
    ∙ sym (map_more (name_length names) c.args.types.now i none c.loop-local_type-test.true)

pub returns : goal.returns
returns c =
    c.loop-local_type.invariant
    ∙ ap (map (name_length c.args.names.now)) (take_all c.loop-local_type.local_type-index c.args.types.now c.loop-local_type-test.false)
