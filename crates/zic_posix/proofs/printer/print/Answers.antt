use Rattle.std.proofs.Common.{◌≡◌, append_assoc, rules}
use Rattle.zic_posix.specs.Printing.{printed}
use Rattle.zic_posix.proofs.PrintLemmas.{printed_spells}
use Rattle.zic_posix.proofs.printer.print.Goals as goal
use Rattle.zic_posix.proofs.printer.print.Goals.{in-Some+in_ok-push_daylight, in_default}

pub returns-clause-spells : goal.returns-clause-spells
returns-clause-spells c =
    let whole : c.match-f.text.items ≡ printed c.args.f.now = search (rules, append_assoc) in
    rw whole (printed_spells c.args.f.now (rw c.f.view_is at c.f.invariant))
