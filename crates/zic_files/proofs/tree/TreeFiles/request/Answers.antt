use Rattle.zic_files.proofs.Added.{if_err}
use Rattle.zic_files.proofs.Learning.{added_if_ok, requested_at_most, entries_if_ok, requested_if_err, fits_of}
use Rattle.zic_files.proofs.tree.TreeFiles.request.Goals as goal

pub returns-in_err-image-clause-err : goal.returns-in_err-image-clause-err
returns-in_err-image-clause-err g c = λ replies from.
    if_err c.from_residual.result _
    (requested_at_most replies c.args.self.now from c.args.name c.octets.ensures.name c.requires (g.T.ZoneTree.replied c.args.tree.now) (g.T.ZoneTree.replied c.image_of.new.tree) c.in_err-image.ensures.err)

pub keep-requires-clause-fit : goal.keep-requires-clause-fit
keep-requires-clause-fit g c = let facts = c.in_ok-image.ensures.ok in fits_of facts.0 c.in_ok-image.image facts.3

pub returns-clause-ok : goal.returns-clause-ok
returns-clause-ok g c = λ replies from.
    entries_if_ok replies c.args.self.now c.keep.new.self from c.args.name c.octets.ensures.name c.requires c.in_ok-image.image
    (g.T.ZoneTree.replied c.args.tree.now) (g.T.ZoneTree.replied c.image_of.new.tree) c.in_ok-image.ensures.ok c.keep.result c.keep.ensures.requested c.keep.ensures.files c.keep.ensures.sound

pub returns-clause-err : goal.returns-clause-err
returns-clause-err g c = λ replies from.
    requested_if_err replies c.args.self.now c.keep.new.self from c.args.name c.octets.ensures.name c.requires c.in_ok-image.image
    (g.T.ZoneTree.replied c.args.tree.now) (g.T.ZoneTree.replied c.image_of.new.tree) c.in_ok-image.ensures.ok c.keep.result

pub returns-clause-added : goal.returns-clause-added
returns-clause-added g c =
    added_if_ok c.args.self.now c.keep.new.self c.args.name c.octets.ensures.name c.requires c.in_ok-image.image c.keep.result c.keep.ensures.requested c.keep.ensures.files
