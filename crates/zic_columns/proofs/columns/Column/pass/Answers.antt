use Rattle.std.proofs.Common.{◌≡◌, arith, length, ap, rules, ◌∙◌}
use Rattle.std.specs.Vec.{vec_len}
use Rattle.std.proofs.lemmas.List.{length-take-le}
use Rattle.zic_columns.specs.code.Window.{held_bytes, taken_bytes}
use Rattle.zic_columns.proofs.Buffered.{part_shorter}
use Rattle.zic_columns.proofs.columns.Column.pass.Goals as goal

pub invariant_of-self : goal.invariant_of-self
invariant_of-self g c =
    let held = held_bytes c.self.inside.window in
    let size : length (taken_bytes c.take.new.self) ≡ c.args.count = ap length c.take.ensures.taken
    ∙ length-take-le c.args.count held (rw (← c.self.view_is) at c.requires.within) in
    rw (size, c.take.ensures.held) (c.requires.ranges, rw c.held.ensures at c.rest-scan.ensures.scanned)

pub returns-clause-held : goal.returns-clause-held
returns-clause-held g c =
    let window = c.take.new.self in
    let size : length window.bytes.items ≡ vec_len window.bytes = search rules in
    omega (arith, part_shorter window.bytes.items window.start window.end, size)
