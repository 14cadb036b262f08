use Rattle.std.proofs.Common.{List, inl, inr, refl, subst, ℕ}
use Rattle.std.specs.Io.KnownBytes.{Appends}
use Rattle.std.proofs.lemmas.Result.{err_from_is_err_and}
use Rattle.zic_convert.specs.By.{by_of}
use Rattle.zic_convert.specs.Run.{EndsByZones}
use Rattle.zic_convert.specs.code.Progress.{EndsInColumn, output}
use Rattle.zic_convert.proofs.Below.{column_after_names, column_ends_after_names}
use Rattle.zic_convert.proofs.Ends.{cause_end, ok_end, zones_end}
use Rattle.zic_convert.proofs.Joining.{ok_both, on_err, on_ok}
use Rattle.zic_convert.proofs.SameNames.{same_line}
use Rattle.zic_convert.proofs.Rounds.{ends_from}
use Rattle.zic_convert.proofs.conversion.convert_column.Goals as goal

pub returns-in_err-write_names-clause-err : goal.returns-in_err-write_names-clause-err
returns-in_err-write_names-clause-err g c =
    let p = err_from_is_err_and c.from_residual.result c.from_residual.ensures.1 in
    let failed = c.in_err-write_names.ensures.err in
    rw (p.1, p.2, failed.0) (inl (record { is = refl; unread = refl; unnoted = refl; part = failed.1.part; starts = failed.1.starts; wrote = failed.1.wrote }, refl))

pub returns-in_err-write_names-clause-cause : goal.returns-in_err-write_names-clause-cause
returns-in_err-write_names-clause-cause g c =
    let p = err_from_is_err_and c.from_residual.result c.from_residual.ensures.1 in
    let failed = c.in_err-write_names.ensures.err in
    rw (p.1, p.2, failed.0) (inl failed.1.failed)

pub returns-clause-grown : goal.returns-clause-grown
returns-clause-grown g c = ok_end _ _ _ _ c.convert_rows-outcome.result c.ended.result _ c.ended.ensures c.convert_rows-outcome.ensures.grown

pub returns-clause-ok : goal.returns-clause-ok
returns-clause-ok g c =
    let grown = ok_end _ _ _ _ c.convert_rows-outcome.result c.ended.result _ c.ended.ensures c.convert_rows-outcome.ensures.grown in
    λ releases may. on_ok c.ended.result _ _
    (λ n both. column_after_names (by_of c.args.conversion.now.layout.now releases c.args.conversion.now.plan.now.max_rows c.args.conversion.now.max_faults) (g.R.Read.remaining c.args.reader.now.inner) (g.W.Write.contents c.args.writer.now.inner)
    (g.W.Write.contents c.write_names.new.writer.inner) (g.W.Write.contents c.convert_rows-outcome.new.writer.inner) (g.L.RowLog.noted c.args.log.now) (g.L.RowLog.noted c.convert_rows-outcome.new.log)
    (subst (λ (l : List ℕ). Appends (g.W.Write.contents c.args.writer.now.inner) (g.W.Write.contents c.write_names.new.writer.inner) l)
    (same_line (g.met.Z.Zones.agrees c.args.zones.now releases (g.met.Z.Zones.narrows c.args.zones.now c.convert_rows-outcome.new.zones releases both.0 may)) c.args.conversion.now.layout.now) c.in_ok-write_names.ensures.ok.0) n both.1)
    (ok_both c.ended.result _ _ grown (ok_end _ _ _ _ c.convert_rows-outcome.result c.ended.result _ c.ended.ensures (c.convert_rows-outcome.ensures.all releases may)))

pub returns-clause-within : goal.returns-clause-within
returns-clause-within g c = rw (c.taken-taken.ensures, c.max_bytes.ensures.bytes) at c.ended.ensures.within

pub returns-clause-unfailed : goal.returns-clause-unfailed
returns-clause-unfailed g c = rw c.failures-failures.ensures at c.ended.ensures.unfailed

pub returns-clause-flushed : goal.returns-clause-flushed
returns-clause-flushed g c =
    on_ok c.ended.result _ _ (λ n same. rw c.in_ok-write_names.ensures.ok.1 at same) (ok_end _ _ _ _ c.convert_rows-outcome.result c.ended.result _ c.ended.ensures c.convert_rows-outcome.ensures.flushed)

pub returns-clause-err : goal.returns-clause-err
returns-clause-err g c =
    let layout = c.args.conversion.now.layout.now in
    let most = c.args.conversion.now.plan.now.max_rows in
    let limit = c.args.conversion.now.max_faults in
    let known = g.R.Read.remaining c.args.reader.now.inner in
    let held = g.W.Write.contents c.args.writer.now.inner in
    let mid = g.W.Write.contents c.write_names.new.writer.inner in
    let now = g.W.Write.contents c.convert_rows-outcome.new.writer.inner in
    let log = g.L.RowLog.noted c.args.log.now in
    let last = g.L.RowLog.noted c.convert_rows-outcome.new.log in
    let zones = c.args.zones.now in
    let then = c.convert_rows-outcome.new.zones in
    on_err c.ended.result (λ why. EndsByZones g.Z.Zones.grown g.Z.Zones.broken g.Z.Zones.may_be zones then why (λ releases. EndsInColumn (by_of layout releases most limit) known why (output mid now log last))) _
    (λ why ends. inr (ends_from g.Z.Zones.grown g.Z.Zones.broken g.Z.Zones.may_be g.met.Z.Zones.then zones zones then (g.met.Z.Zones.same zones) why _ _
    (λ releases z grew may w. column_ends_after_names (by_of layout releases most limit) known held mid now log last
    (subst (λ (l : List ℕ). Appends held mid l) (same_line (g.met.Z.Zones.agrees zones releases (g.met.Z.Zones.narrows zones z releases grew may)) layout) c.in_ok-write_names.ensures.ok.0) why w) ends))
    (zones_end _ _ _ _ g.Z.Zones.grown g.Z.Zones.broken g.Z.Zones.may_be zones then layout most limit known (output mid now log last) c.convert_rows-outcome.result c.ended.result c.ended.ensures
    c.convert_rows-outcome.ensures.grown c.convert_rows-outcome.ensures.all c.convert_rows-outcome.ensures.halt)

pub returns-clause-cause : goal.returns-clause-cause
returns-clause-cause g c =
    let is = rw (c.failures-failures.ensures, c.taken-taken.ensures, c.max_bytes.ensures.bytes) at c.ended.ensures in
    on_err c.ended.result _ _ (λ why cause. rw c.in_ok-write_names.ensures.ok.1 at cause)
    (cause_end c.args.conversion.now.plan.now.max_bytes c.args.reader.now _ c.write_names.new.writer c.convert_rows-outcome.new.writer _ c.convert_rows-outcome.result c.ended.result is
    c.convert_rows-outcome.ensures.cause)
