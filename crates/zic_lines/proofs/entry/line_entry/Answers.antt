use Rattle.std.proofs.Common.{List, ℕ, Some, refl, sym, ap, ◌∙◌}
use Rattle.std.proofs.lemmas.Result.{err_from_is_err_and}
use Rattle.zic_base.specs.Check.{first_failed}
use Rattle.zic_base.specs.declared.fault.Kind.{Kind}
use Rattle.zic_lines.specs.Checks.{numbered_checks}
use Rattle.zic_lines.proofs.Entries.{fields_pass, fields_fail}
use Rattle.zic_lines.proofs.entry.line_entry.Goals as goal

pub returns-in_err-entry-in-Ok-clause-memory : goal.returns-in_err-entry-in-Ok-clause-memory
returns-in_err-entry-in-Ok-clause-memory c =
    let p = err_from_is_err_and c.from_residual.result c.from_residual.ensures.1 in
    rw (p.1, p.2) (fields_pass c.args.awaited c.args.fields.now.texts (ap (λ (ts : List (List ℕ)). first_failed (numbered_checks c.args.awaited ts)) (sym c.texts.ensures) ∙ c.in-Ok.ensures.ok))

pub returns-in-Err-clause-fault : goal.returns-in-Err-clause-fault
returns-in-Err-clause-fault c = rw c.at.ensures (
  refl,
  fields_fail c.args.awaited c.args.fields.now.texts c.in-Err.fault (ap (λ (ts : List (List ℕ)). first_failed (numbered_checks c.args.awaited ts)) (sym c.texts.ensures) ∙ c.in-Err.ensures.fault)
      ∙ ap (λ (k : Kind). Some k) (sym c.kind.ensures),
)
