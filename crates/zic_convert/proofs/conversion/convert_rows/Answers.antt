use Rattle.std.proofs.Common.{◌≡◌, inl, inr, refl}
use Rattle.std.specs.Prelude.{option_map}
use Rattle.std.proofs.lemmas.Result.{err_from_is_err_and}
use Rattle.zic_columns.specs.Round.{unread}
use Rattle.zic_columns.specs.Truncated.{truncated_known}
use Rattle.zic_convert.specs.Column.{read_by}
use Rattle.zic_convert.specs.code.Halt.{stop_of}
use Rattle.zic_convert.proofs.Heads.{began_as, converts_column, ends_at_head, ends_column}
use Rattle.zic_convert.proofs.Joining.{ok_both, on_err, on_ok}
use Rattle.zic_convert.proofs.Rounds.{ends_from}
use Rattle.zic_convert.proofs.Sounds.{agree_sound}
use Rattle.zic_convert.proofs.conversion.convert_rows.Goals as goal

pub returns-in_err-column-clause-halt : goal.returns-in_err-column-clause-halt
returns-in_err-column-clause-halt g c =
    let p = err_from_is_err_and c.from_residual.result c.from_residual.ensures.1 in
    let layout = c.args.conversion.now.by.layout.now in
    let known = g.R.Read.remaining c.args.reader in
    let short = c.new-short.result in
    let inside = truncated_known short.most short.room (g.R.Read.remaining short.inner) in
    let is : inside ≡ option_map (read_by layout) known = rw (c.new-short.ensures, c.read_of_lines.ensures) refl in
    let ends = c.in_err-column.ensures.halt in
    rw (p.1, p.2, c.begin_rows.ensures.noted) (record {
      then = ends.then;
      grown = ends.grown;
      ends = ends.ends;
      by = λ releases may.
          ends_at_head layout c.args.conversion.now.by.plan.now.max_rows c.args.conversion.now.max_faults known inside is g.W.Write.contents
          c.files_answer_once.ensures c.args.writer.now c.begin_rows.new.writer (g.L.RowLog.noted c.args.log.now) releases (agree_sound (g.met.Z.Zones.agrees ends.then releases may)) c.in_err-column.field-0.0
          (ends.by releases may);
    })

pub returns-in_err-column-clause-cause : goal.returns-in_err-column-clause-cause
returns-in_err-column-clause-cause g c =
    let p = err_from_is_err_and c.from_residual.result c.from_residual.ensures.1 in
    rw (p.1, p.2) (inl c.in_err-column.ensures.cause)

pub returns-clause-grown : goal.returns-clause-grown
returns-clause-grown g c =
    on_ok c.convert_rounds.result _ _ (λ n grown. g.met.Z.Zones.then c.args.zones.now c.begin_rows.new.zones c.convert_rounds.new.zones c.in_ok-column.ensures.grown grown) c.convert_rounds.ensures.grown

pub returns-clause-all : goal.returns-clause-all
returns-clause-all g c =
    let layout = c.args.conversion.now.by.layout.now in
    let most = c.args.conversion.now.by.plan.now.max_rows in
    let known = g.R.Read.remaining c.args.reader in
    let short = c.new-short.result in
    let inside = truncated_known short.most short.room (g.R.Read.remaining short.inner) in
    let is : inside ≡ option_map (read_by layout) known = rw (c.new-short.ensures, c.read_of_lines.ensures) refl in
    let left = unread (λ r. truncated_known r.most r.room (g.R.Read.remaining r.inner)) c.in_ok-column.column in
    λ releases may. on_ok c.convert_rounds.result _ _
    (λ n both. converts_column layout most c.args.conversion.now.max_faults known inside is releases left (g.W.Write.contents c.args.writer.now.inner)
    (g.W.Write.contents c.begin_rows.new.writer.inner) (g.W.Write.contents c.convert_rounds.new.writer.inner) (g.L.RowLog.noted c.args.log.now) (g.L.RowLog.noted c.convert_rounds.new.log)
    c.in_ok-column.ensures.begins (c.in_ok-column.ensures.head releases (g.met.Z.Zones.narrows c.begin_rows.new.zones c.convert_rounds.new.zones releases both.0 may)) n
    (c.in_ok-column.ensures.none releases (g.met.Z.Zones.narrows c.begin_rows.new.zones c.convert_rounds.new.zones releases both.0 may)) both.1)
    (ok_both c.convert_rounds.result _ _ c.convert_rounds.ensures.grown (rw c.begin_rows.ensures.noted at (c.convert_rounds.ensures.all releases may)))

pub returns-clause-halt : goal.returns-clause-halt
returns-clause-halt g c =
    let layout = c.args.conversion.now.by.layout.now in
    let most = c.args.conversion.now.by.plan.now.max_rows in
    let known = g.R.Read.remaining c.args.reader in
    let short = c.new-short.result in
    let inside = truncated_known short.most short.room (g.R.Read.remaining short.inner) in
    let is : inside ≡ option_map (read_by layout) known = rw (c.new-short.ensures, c.read_of_lines.ensures) refl in
    let left = unread (λ r. truncated_known r.most r.room (g.R.Read.remaining r.inner)) c.in_ok-column.column in
    on_err c.convert_rounds.result _ _
    (λ why ends. ends_from g.Z.Zones.grown g.Z.Zones.broken g.Z.Zones.may_be g.met.Z.Zones.then c.args.zones.now c.begin_rows.new.zones c.convert_rounds.new.zones c.in_ok-column.ensures.grown (stop_of why) _ _
    (λ releases then grown may w. ends_column layout most c.args.conversion.now.max_faults known inside is releases left (g.W.Write.contents c.args.writer.now.inner)
    (g.W.Write.contents c.begin_rows.new.writer.inner) (g.W.Write.contents c.convert_rounds.new.writer.inner) (g.L.RowLog.noted c.args.log.now) (g.L.RowLog.noted c.convert_rounds.new.log)
    c.in_ok-column.ensures.begins (c.in_ok-column.ensures.head releases (g.met.Z.Zones.narrows c.begin_rows.new.zones then releases grown may)) (stop_of why)
    (c.in_ok-column.ensures.none releases (g.met.Z.Zones.narrows c.begin_rows.new.zones then releases grown may)) w) ends)
    (rw c.begin_rows.ensures.noted at c.convert_rounds.ensures.halt)

pub returns-clause-cause : goal.returns-clause-cause
returns-clause-cause g c = on_err c.convert_rounds.result _ _ (λ why cause. rw c.in_ok-column.ensures.flushed at cause) c.convert_rounds.ensures.cause

pub returns-clause-began : goal.returns-clause-began
returns-clause-began g c =
    let layout = c.args.conversion.now.by.layout.now in
    let known = g.R.Read.remaining c.args.reader in
    let short = c.new-short.result in
    let inside = truncated_known short.most short.room (g.R.Read.remaining short.inner) in
    let is : inside ≡ option_map (read_by layout) known = rw (c.new-short.ensures, c.read_of_lines.ensures) refl in
    rw c.convert_rounds.ensures.began (elim c.in_ok-column.ensures.began [
      | inl began ↦ inl (began_as layout c.args.conversion.now.by.plan.now.max_rows c.args.conversion.now.max_faults known inside is
          (g.L.RowLog.began c.begin_rows.new.log) began)
      | inr unbegun ↦ absurd (cc unbegun.0)
    ])
