use Rattle.std.proofs.Common.{◌++◌, ap, sym, ◌∙◌, append-nil}
use Rattle.std.proofs.lemmas.Result.{IfOk-weaker}
use Rattle.zic_compare.specs.Files.{AreLinesOfNew, AreLinesOfOld, IsDiff, names_of}
use Rattle.zic_compare.specs.Refused.{none_refused}
use Rattle.zic_compare.specs.Text.{with_names}
use Rattle.zic_compare.proofs.FilesLemmas.{diff_of_both, lines_of_whole}
use Rattle.zic_compare.proofs.files.diff.Goals as goal

pub returns : goal.returns
returns c =
    let how = c.args.how.now in
    let old = c.args.old.now in
    let new = c.args.new.now in
    let of_old = lines_of_whole (AreLinesOfOld how old new) old c.in_ok-lines.lines.items (rw c.len.ensures.count at c.in_ok-lines.ensures) in
    let of_new = lines_of_whole (AreLinesOfNew how old new) new c.in_ok-of_new.of_new.items (rw c.len-2.ensures.count at c.in_ok-of_new.ensures) in
    let names = with_names (names_of how) in
    IfOk-weaker c.with_names.result _ (λ text. IsDiff how old new none_refused text.items)
    (λ text is. diff_of_both how old new none_refused c.in_ok-lines.lines.items c.in_ok-of_new.of_new.items text.items of_old of_new
    (is ∙ ap names (c.in_ok-append.ensures.items ∙ sym (append-nil (c.in_ok-lines.lines.items ++ c.in_ok-of_new.of_new.items)))))
    c.with_names.ensures
