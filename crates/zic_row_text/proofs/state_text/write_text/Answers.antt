use Rattle.std.proofs.Common.{◌≡◌, ◌∙◌, length, refl, arith, length-take-le, FitsSigned, w32, rules}
use Rattle.std.proofs.lemmas.Int.{to_z-of_z}
use Rattle.zic_row_text.proofs.RowTexts.{state_written}
use Rattle.zic_row_text.proofs.state_text.write_text.Goals as goal

pub returns : goal.returns
returns c =
    let fits : FitsSigned w32 c.args.state.now.offset = search rules in
    let front = simp to_z-of_z at c.before_name.ensures in
    let octets = c.args.octets.now in
    let long : length octets ≡ 32 = search rules in
    let may = c.requires in
    let few = may.name in
    let written = c.copy_from_slice.ensures in
    let front_long = written.len ∙ length-take-le 13 octets (omega arith) in
    let text = state_written c.args.state.now octets c.copy_from_slice.new.self c.copy_from_slice-2.new.self (length c.args.state.now.name.now) may long (written.after ∙ front) front_long c.copy_from_slice-2.ensures.after refl in
    record { text = text; fits = omega arith }
