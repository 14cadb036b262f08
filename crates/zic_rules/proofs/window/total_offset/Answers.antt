use Rattle.std.proofs.Common.{◌≡◌, arith, ◌+ℤ◌, to_z, of_z, w64}
use Rattle.std.proofs.lemmas.Int.{ints}
use Rattle.zic_states.specs.Observance.{in_force}
use Rattle.zic_rules.proofs.Windows.{saving_within}
use Rattle.zic_rules.proofs.window.total_offset.Goals as goal

pub returns : goal.returns
returns c =
    let rules = c.args.source.now.rules in
    let line = c.args.line.now in
    let saving = saving_within rules line.rules c.args.rule (in_force c.observance_by.result) c.requires.sound.rules c.requires.line.rules_known c.observance_by.ensures in
    let same : to_z w64 (of_z w64 (to_z w64 (of_z w64 c.from.result) +ℤ to_z w64 (of_z w64 c.from-2.result))) ≡ line.offset +ℤ c.observance_by.result.saving =
    omega (arith, ints, c.from.ensures, c.from-2.ensures, saving, c.requires.line.offset) in
    record { in_force = in_force c.observance_by.result; is_in_force = c.observance_by.ensures; is = same; within = omega (arith, ints, same, saving, c.requires.line.offset) }
