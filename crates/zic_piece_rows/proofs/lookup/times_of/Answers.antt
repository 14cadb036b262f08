use Rattle.std.proofs.Common.{FitsSigned, Err, Ok, refl, rules, to_z-of_z}
use Rattle.std.specs.Int.{w128}
use Rattle.zic_piece_rows.proofs.Meant.{time_meant}
use Rattle.zic_piece_rows.proofs.lookup.times_of.Goals as goal

pub returns-in_ok-count-in-Local-Some : goal.returns-in_ok-count-in-Local-Some
returns-in_ok-count-in-Local-Some c =
    let piece = c.args.piece.now in
    let input = c.in-Some.input in
    let count = c.in_ok-count-in-Local-Some.count in
    let n = c.in-Local-Some.file in
    let input_fits : FitsSigned w128 input = search rules in
    let count_fits : FitsSigned w128 count = search rules in
    let within = rw c.in-Local-Some.is-1 at c.requires.file in
    let sound = rw c.in-Some.is at c.requires.sound in
    let meant = rw (to_z-of_z input_fits) at c.in_ok-count-in-Local-Some.ensures in
    rw (to_z-of_z input_fits, to_z-of_z count_fits, c.in-Some.is, c.in-Local-Some.is-1) (record {
      input_is = refl;
      sound = sound;
      time = time_meant piece.layout.now piece.zones.now n input c.in-Local-Some.choice (Ok count) c.in-Local-Some.is-0 within meant;
    })

pub returns-in_err-count-in-Local-Some : goal.returns-in_err-count-in-Local-Some
returns-in_err-count-in-Local-Some c =
    let piece = c.args.piece.now in
    let input = c.in-Some.input in
    let input_fits : FitsSigned w128 input = search rules in
    let within = rw c.in-Local-Some.is-1 at c.requires.file in
    let meant = rw (to_z-of_z input_fits) at c.in_err-count-in-Local-Some.ensures in
    let is = time_meant piece.layout.now piece.zones.now c.in-Local-Some.file input c.in-Local-Some.choice (Err c.in_err-count-in-Local-Some.field-0.0) c.in-Local-Some.is-0 within meant in
    rw (c.in-Some.is, c.in-Local-Some.is-1) (search (rules, is, c.from_residual.ensures))
