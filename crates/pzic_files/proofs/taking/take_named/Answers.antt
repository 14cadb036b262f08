use Rattle.std.proofs.Common.{◌∙◌}
use Rattle.pzic_files.proofs.FilesTaken.{is-left-out, is-taken}
use Rattle.pzic_files.proofs.taking.take_named.Goals as goal

pub returns-in_ok-add-in-Ok : goal.returns-in_ok-add-in-Ok
returns-in_ok-add-in-Ok c =
    let image = c.in-Ok.image in
    let same = c.in-Ok.ensures.octets ∙ c.in_ok-from_slice.ensures.items in
    is-taken c.args.files.now c.add.new.self c.args.name c.args.octets.now image c.requires same c.in-Ok.ensures.read c.in-Ok.ensures.fit c.in_ok-add-in-Ok.ensures.ok

pub returns-in_ok-status-in-Err : goal.returns-in_ok-status-in-Err
returns-in_ok-status-in-Err c =
    let why = rw c.in_ok-from_slice.ensures.items at c.in-Err.ensures.err in
    is-left-out c.args.files.now c.args.name c.args.octets.now c.in-Err.unfit c.in_ok-status-in-Err.status c.requires why c.in_ok-status-in-Err.ensures
