use Rattle.std.proofs.Common.{rules, ◌≡◌, refl, arith, to_z, of_z, w64}
use Rattle.std.specs.Prelude.{FitsSigned}
use Rattle.std.proofs.lemmas.Int.{ints}
use Rattle.std.proofs.lemmas.List.Elements.{All-nil}
use Rattle.zic_base.specs.State.{shown}
use Rattle.zic_rules.specs.Timeline.{change_of}
use Rattle.zic_tzif.specs.declared.content.Change.{Change}
use Rattle.zic_table.proofs.NumberedChanges.{more_transitions, too_many, all_transitions}
use Rattle.zic_table.proofs.transitions.transitions.Goals as goal

pub loop-i-init : goal.loop-i-init
loop-i-init c =
    let (changes, are, count) = c.len-count.ensures in
    rw (c.in_ok-numbering.ensures, c.in_ok-changes.ensures.items)
    (record { first = shown c.args.first; changes = changes; are_changes = are; is_first = c.requires.first; are_states = refl; are_transitions = refl; fit = All-nil (λ (x : Change). FitsSigned w64 x.instant) })

pub returns-in_default-clause-err : goal.returns-in_default-clause-err
returns-in_default-clause-err c =
    let many = rw c.in_default.is at c.in_ok-number.ensures in
    (refl, too_many c.args.t.now c.requires.whole.orderly c.loop-i.i c.loop-i.numbering c.loop-i.changes.items c.loop-i.invariant (change_of c.change-instant.result) c.change-instant.ensures many)

pub loop-i-preserved : goal.loop-i-preserved
loop-i-preserved c =
    let instant : to_z w64 (of_z w64 c.change-instant.result.0) ≡ c.change-instant.result.0 = omega (arith, ints) in
    let is = rw c.in-Some.is at c.in_ok-number.ensures in
    rw (c.in_ok-push.ensures.items, instant)
    (more_transitions c.args.t.now c.requires.whole.orderly c.loop-i.i c.loop-i.numbering c.loop-i.changes.items c.loop-i.invariant (change_of c.change-instant.result) c.number.new.self c.in-Some.number c.change-instant.ensures (search rules) is)

pub returns-clause-ok : goal.returns-clause-ok
returns-clause-ok c =
    let (changes, are, count) = c.len-count.ensures in
    all_transitions c.args.t.now c.requires.whole.orderly c.loop-i.i c.loop-i.numbering c.loop-i.changes.items c.loop-i.invariant changes are (omega arith)
