use Rattle.std.proofs.Common.{Err, ap, inl, inr, refl}
use Rattle.std.proofs.lemmas.Result.{err_from_is_err_and}
use Rattle.zic_convert.specs.Column.{names_line}
use Rattle.zic_convert.specs.Run.{run_of}
use Rattle.zic_convert.proofs.SameNames.{same_line}
use Rattle.zic_bulk.proofs.ConvertingLemmas.{log_fails, names_fail, rows_fail}
use Rattle.zic_bulk.proofs.column_command.convert.Goals as goal

pub returns-in_err-find_zone-clause-err : goal.returns-in_err-find_zone-clause-err
returns-in_err-find_zone-clause-err g c =
    let p = err_from_is_err_and c.from_residual.result c.from_residual.ensures.1 in
    rw (p.1, p.2) (inl (record {
      untouched = record { unread = refl; unwritten = refl; unnoted = refl };
      alone = c.in_err-find_zone.ensures.requested;
      of_zones = c.in_err-find_zone.ensures.err;
    }))

pub returns-in-Ok-clause-grown : goal.returns-in-Ok-clause-grown
returns-in-Ok-clause-grown g c = g.met.Z.Zones.then c.args.zones.now c.find_zone.new.zones c.convert_column.new.zones c.in_ok-find_zone.ensures.grown c.in-Ok.ensures.grown

pub returns-in-Ok-clause-ok : goal.returns-in-Ok-clause-ok
returns-in-Ok-clause-ok g c = λ releases may. record {
  has_zone = c.in_ok-find_zone.ensures.ok releases (g.met.Z.Zones.narrows c.find_zone.new.zones c.convert_column.new.zones releases c.in-Ok.ensures.grown may);
  rows = c.in-Ok.ensures.ok releases may;
}

pub returns-in-Err-clause-err : goal.returns-in-Err-clause-err
returns-in-Err-clause-err g c =
    let layout = c.args.conversion.now.layout.now in
    let zones = c.args.zones.now in
    let mid = c.find_zone.new.zones in
    let new = c.convert_column.new.zones in
    let run = run_of g.R.Read.remaining g.W.Write.contents g.L.RowLog.noted c.args.reader.now c.convert_column.new.reader c.args.writer.now c.convert_column.new.writer c.args.log.now
    c.convert_column.new.log in
    elim c.in-Err.ensures.err [
      | inl names ↦ inr (inl (names_fail g.Z.Zones.grown g.Z.Zones.broken g.Z.Zones.requests g.Z.Zones.may_be g.met.Z.Zones.then g.met.Z.Zones.narrows zones mid new c.in_ok-find_zone.ensures.grown layout c.in_ok-find_zone.ensures.requested
          c.in_ok-find_zone.ensures.ok run c.in-Err.stop c.run_failure.result c.run_failure.ensures _ c.args.conversion.now.plan.now.max_bytes c.in-Err.ensures.cause
          (names_line layout (g.Z.Zones.known mid).old) (λ releases may. same_line (g.met.Z.Zones.agrees mid releases may) layout) names))
      | inr rows ↦ inr (inr (rows_fail g.Z.Zones.grown g.Z.Zones.broken g.Z.Zones.requests g.Z.Zones.may_be g.met.Z.Zones.then g.met.Z.Zones.narrows zones mid new c.in_ok-find_zone.ensures.grown layout c.in_ok-find_zone.ensures.requested
          c.in_ok-find_zone.ensures.ok run c.in-Err.stop c.run_failure.result c.run_failure.ensures _ c.args.conversion.now.plan.now c.args.conversion.now.max_faults c.in-Err.ensures.cause rows))
    ]

pub returns-in_err-find_zone-clause-log : goal.returns-in_err-find_zone-clause-log
returns-in_err-find_zone-clause-log g c =
    let p = err_from_is_err_and c.from_residual.result c.from_residual.ensures.1 in
    rw (p.1, p.2) (λ list. absurd (c.in_err-find_zone.ensures.unlogged (ap Err (cc list))))

pub returns-in_err-find_zone-clause-began : goal.returns-in_err-find_zone-clause-began
returns-in_err-find_zone-clause-began g c =
    let p = err_from_is_err_and c.from_residual.result c.from_residual.ensures.1 in
    rw p.1 (inr (refl, refl, refl))

pub returns-in-Err-clause-log : goal.returns-in-Err-clause-log
returns-in-Err-clause-log g c =
    let run = run_of g.R.Read.remaining g.W.Write.contents g.L.RowLog.noted c.args.reader.now c.convert_column.new.reader c.args.writer.now c.convert_column.new.writer c.args.log.now
    c.convert_column.new.log in
    λ list. log_fails run c.in-Err.stop c.run_failure.result c.run_failure.ensures _ c.args.conversion.now.plan.now.max_bytes c.in-Err.ensures.cause (cc list)
