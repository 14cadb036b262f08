use Rattle.std.proofs.Common.{List, ◌++◌, pos, w64, SFits, to_z-of_z, rules, get_or, take, ap, sym, ◌∙◌}
use Rattle.std.proofs.lemmas.List.{flat_map_more, take_more, take_all}
use Rattle.std.specs.List.{flat_map}
use Rattle.zic_tzif.specs.declared.content.Change.{Change}
use Rattle.zic_tzif.specs.Writing.{time_octets}
use Rattle.zic_tzif.proofs.writer.put_times.Goals as goal

pub loop-change-preserved : goal.loop-change-preserved
loop-change-preserved c =
    let front = c.args.out.now.items in
    let i = c.loop-change.change-index in
    let none : Change = record { instant = pos 0; number = 0 } in
    let change : Change = get_or c.args.changes.now i none in
    let fits : SFits w64 change.instant = search rules in
    rw (c.in_ok-put_time.ensures, to_z-of_z fits, c.loop-change.invariant) (
    flat_map_more time_octets front (take i c.args.changes.now) change
    ∙ ap (λ (changes : List Change). front ++ flat_map time_octets changes) (sym (take_more c.args.changes.now i none c.loop-change-test.true))
    )

pub returns : goal.returns
returns c =
    c.loop-change.invariant
    ∙ ap (λ (changes : List Change). c.args.out.now.items ++ flat_map time_octets changes) (take_all c.loop-change.change-index c.args.changes.now c.loop-change-test.false)
