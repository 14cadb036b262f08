use Rattle.std.proofs.Common.{[], refl, arith, rules}
use Rattle.zic_compare.proofs.VerifyLemmas.{finding_more, gains_none, has_files, whole}
use Rattle.zic_compare.proofs.verifying.verify.Goals as goal

pub loop-file-init : goal.loop-file-init
loop-file-init g c = record { replies = []; requested = record { names = refl; gained = gains_none (g.Z.ZoneTree.replied c.args.tree.now) }; are_lines = search rules }

pub loop-file-preserved : goal.loop-file-preserved
loop-file-preserved g c =
    finding_more c.args.files.now c.loop-file.file (g.Z.ZoneTree.replied c.args.tree.now) (g.Z.ZoneTree.replied c.loop-file.tree) (g.Z.ZoneTree.replied c.push_finding.new.tree)
    c.loop-file.lines.items c.push_finding.new.lines.items (omega arith) c.loop-file.invariant c.in_ok-push_finding.ensures

pub returns-clause-lines : goal.returns-clause-lines
returns-clause-lines g c =
    whole c.args.files.now c.loop-file.file (g.Z.ZoneTree.replied c.args.tree.now) (g.Z.ZoneTree.replied c.loop-file.tree) c.loop-file.lines.items (omega arith) c.loop-file.invariant

pub returns-clause-none : goal.returns-clause-none
returns-clause-none g c = λ none.
    let old = g.Z.ZoneTree.replied c.args.tree.now in
    let new = g.Z.ZoneTree.replied c.loop-file.tree in
    has_files c.args.files.now old new c.loop-file.lines.items (whole c.args.files.now c.loop-file.file old new c.loop-file.lines.items (omega arith) c.loop-file.invariant) none
