use Rattle.std.proofs.Common.{◌∙◌, [], sym}
use Rattle.std.proofs.lemmas.List.{append-nil}
use Rattle.zic_files.proofs.SameBytes.{got_last}
use Rattle.zic_files.proofs.images.Images.add.Goals as goal

pub returns-in_err-push-clause-grown : goal.returns-in_err-push-clause-grown
returns-in_err-push-clause-grown c = ([], c.in_err-push.ensures.items ∙ c.self.view_is ∙ sym (append-nil c.args.self.now))

pub returns-clause-number : goal.returns-clause-number
returns-clause-number c =
    let list = c.self.inside.list in
    got_last list.items c.note.new.self c.args.image c.len-number.result (c.len-number.ensures ∙ list.ok.0) (c.in_ok-note.ensures ∙ c.in_ok-push.ensures.items)
