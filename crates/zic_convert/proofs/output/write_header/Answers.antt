use Rattle.std.proofs.Common.{◌≡◌, ◌∙◌, List, ℕ, length, refl, sym, subst, rules}
use Rattle.std.proofs.lemmas.List.{nil_from_length}
use Rattle.std.proofs.lemmas.Result.{err_from_is_err_and}
use Rattle.csv.proofs.WriteFacts.{appends-none}
use Rattle.zic_counted.specs.Written.{FailsWithin}
use Rattle.zic_convert.specs.code.Written.{Wrote}
use Rattle.zic_convert.proofs.Heads.{head_unchanged, head_passed}
use Rattle.zic_convert.proofs.output.write_header.Goals as goal

pub returns-then-is_empty-clause-ok : goal.returns-then-is_empty-clause-ok
returns-then-is_empty-clause-ok g c =
    let size : length c.in-Ok.line.items ≡ 0 = search rules in
    let none = nil_from_length c.in-Ok.line.items size in
    subst (λ (l : List ℕ). Wrote g.W.Write.contents c.args.writer.now c.args.writer.now l) (sym none ∙ c.in-Ok.ensures) (appends-none (g.W.Write.contents c.args.writer.now.inner), refl)

pub returns-in_err-write_all-clause-err : goal.returns-in_err-write_all-clause-err
returns-in_err-write_all-clause-err g c =
    let failed = c.in_err-write_all.ensures.err in
    let p = err_from_is_err_and c.from_residual.result c.from_residual.ensures.1 in
    rw (p.1, p.2, failed.0) (subst (λ (l : List ℕ). FailsWithin g.W.Write.contents c.args.writer.now c.write_all.new.writer l) (c.deref.ensures.value ∙ c.in-Ok.ensures) failed.1)

pub returns-clause-ok : goal.returns-clause-ok
returns-clause-ok g c =
    let head = c.deref.ensures.value ∙ c.in-Ok.ensures in
    head_passed g.W.Write.contents c.args.writer.now c.write_all.new.writer c.flush.new.writer _ c.flush.result
    (subst (λ (l : List ℕ). Wrote g.W.Write.contents c.args.writer.now c.write_all.new.writer l) head c.in_ok-write_all.ensures.ok) c.flush.ensures.ok

pub returns-clause-err : goal.returns-clause-err
returns-clause-err g c =
    let head = c.deref.ensures.value ∙ c.in-Ok.ensures in
    head_unchanged g.W.Write.contents c.args.writer.now c.write_all.new.writer c.flush.new.writer _ c.flush.result
    (subst (λ (l : List ℕ). Wrote g.W.Write.contents c.args.writer.now c.write_all.new.writer l) head c.in_ok-write_all.ensures.ok) c.flush.ensures.err
