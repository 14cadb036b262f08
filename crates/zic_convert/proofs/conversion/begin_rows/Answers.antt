use Rattle.std.proofs.Common.{◌∙◌, List, None, ℕ, ap, inl, refl, subst}
use Rattle.std.specs.Io.KnownBytes.{Appends}
use Rattle.std.proofs.lemmas.Result.{err_from_is_err_and}
use Rattle.zic_zones.specs.declared.zones.Releases.{Releases}
use Rattle.zic_piece_rows.specs.LayoutRows.{ended}
use Rattle.zic_convert.specs.Column.{header_of, names_added}
use Rattle.zic_convert.specs.code.Written.{EndsAtHead}
use Rattle.zic_convert.proofs.Delimited.{can_delimit}
use Rattle.zic_convert.proofs.HeaderFaults.{began_head, check_halts, fault_in, kept_is}
use Rattle.zic_convert.proofs.Heads.{halts_before, halts_begun}
use Rattle.zic_convert.proofs.SameNames.{same_names}
use Rattle.zic_convert.proofs.Options.{for_some, if_some}
use Rattle.zic_convert.proofs.conversion.begin_rows.Goals as goal

pub returns-in_err-column-clause-halt : goal.returns-in_err-column-clause-halt
returns-in_err-column-clause-halt g c =
    let p = err_from_is_err_and c.from_residual.result c.from_residual.ensures.1 in
    rw (p.1, p.2) (record {
      then = c.args.zones.now;
      grown = g.met.Z.Zones.same c.args.zones.now;
      ends = inl refl;
      by = λ releases may.
          halts_begun g.W.Write.contents c.args.writer.now c.args.writer.now c.args.by.now.layout.now releases c.args.by.now.plan.now.max_rows (g.R.Read.remaining c.args.reader) c.in_err-column.field-0.0 c.in_err-column.ensures.halt refl;
    })

pub returns-in_err-check_header-clause-halt : goal.returns-in_err-check_header-clause-halt
returns-in_err-check_header-clause-halt g c =
    let p = err_from_is_err_and c.from_residual-in_err-check_header.result c.from_residual-in_err-check_header.ensures.1 in
    rw (p.1, p.2) (check_halts c.first_record_is_alone.ensures c.args.by.now.layout.now (can_delimit c.args.by.now.layout.now.delimiter c.byte.ensures.sound) (g.R.Read.remaining c.args.reader) c.in_ok-column.field-0.header.items c.in_ok-column.ensures.header
    g.W.Write.contents c.args.writer.now g.Z.Zones.grown g.Z.Zones.broken g.Z.Zones.may_be g.met.Z.Zones.same c.args.by.now.plan.now.max_rows c.args.zones.now c.check_header.new.zones c.in_err-check_header.field-0.0
    (rw c.deref.ensures.value at c.in_err-check_header.ensures.halt))

pub returns-in_err-write_header-clause-began : goal.returns-in_err-write_header-clause-began
returns-in_err-write_header-clause-began g c =
    inl (began_head c.first_record_is_alone.ensures c.args.by.now.layout.now (can_delimit c.args.by.now.layout.now.delimiter c.byte.ensures.sound) (g.R.Read.remaining c.args.reader) c.in_ok-column.field-0.header.items c.in_ok-column.ensures.header
    c.kept_of-header.result.items c.in_ok-own.own.items (g.L.RowLog.began c.begin.new.self) c.kept_of-header.ensures (rw c.deref-2.ensures.value at c.in_ok-own.ensures)
    (rw c.deref-3.ensures.value at c.begin.ensures.began))

pub returns-in_err-write_header-clause-halt : goal.returns-in_err-write_header-clause-halt
returns-in_err-write_header-clause-halt g c =
    let layout = c.args.by.now.layout.now in
    let known = g.R.Read.remaining c.args.reader in
    let p = err_from_is_err_and c.from_residual-in_err-write_header.result c.from_residual-in_err-write_header.ensures.1 in
    let kept = kept_is c.first_record_is_alone.ensures layout (can_delimit layout.delimiter c.byte.ensures.sound) known c.in_ok-column.field-0.header.items c.in_ok-column.ensures.header c.kept_of-header.result.items
    c.kept_of-header.ensures in
    rw (p.1, p.2) (record {
      then = c.check_header.new.zones;
      grown = c.in_ok-check_header.ensures.grown;
      ends = inl refl;
      by = λ releases may.
          halts_before g.W.Write.contents c.args.writer.now c.write_header.new.writer layout releases c.args.by.now.plan.now.max_rows known c.kept_of-header.result.items kept
          (fault_in c.first_record_is_alone.ensures layout (can_delimit layout.delimiter c.byte.ensures.sound) known c.in_ok-column.field-0.header.items c.in_ok-column.ensures.header releases.zones None
          (rw c.deref.ensures.value at (c.in_ok-check_header.ensures.none releases may)))
          c.in_err-write_header.field-0.0
          (subst (λ (l : List ℕ). EndsAtHead g.W.Write.contents c.args.writer.now c.write_header.new.writer (ended layout.line_end (header_of layout.start l c.kept_of-header.result.items)) c.in_err-write_header.field-0.0)
          (ap (λ (r : Releases). names_added layout r.old) c.ready-releases.ensures ∙ same_names (g.met.Z.Zones.agrees c.check_header.new.zones releases may) layout) c.in_err-write_header.ensures.err);
    })

pub returns-clause-began : goal.returns-clause-began
returns-clause-began g c =
    inl (began_head c.first_record_is_alone.ensures c.args.by.now.layout.now (can_delimit c.args.by.now.layout.now.delimiter c.byte.ensures.sound) (g.R.Read.remaining c.args.reader) c.in_ok-column.field-0.header.items c.in_ok-column.ensures.header
    c.kept_of-header.result.items c.in_ok-own.own.items (g.L.RowLog.began c.begin.new.self) c.kept_of-header.ensures (rw c.deref-2.ensures.value at c.in_ok-own.ensures)
    (rw c.deref-3.ensures.value at c.begin.ensures.began))

pub returns-clause-head : goal.returns-clause-head
returns-clause-head g c =
    let layout = c.args.by.now.layout.now in
    let known = g.R.Read.remaining c.args.reader in
    let kept = kept_is c.first_record_is_alone.ensures layout (can_delimit layout.delimiter c.byte.ensures.sound) known c.in_ok-column.field-0.header.items c.in_ok-column.ensures.header c.kept_of-header.result.items
    c.kept_of-header.ensures in
    λ releases may.
    let names = ap (λ (r : Releases). names_added layout r.old) c.ready-releases.ensures ∙ same_names (g.met.Z.Zones.agrees c.check_header.new.zones releases may) layout in
    if_some known _ (λ column e.
    subst (λ (l : List ℕ). Appends (g.W.Write.contents c.args.writer.now.inner) (g.W.Write.contents c.write_header.new.writer.inner) (ended layout.line_end (header_of layout.start (names_added layout releases.old) l)))
    (for_some known _ column kept e)
    (subst (λ (l : List ℕ). Appends (g.W.Write.contents c.args.writer.now.inner) (g.W.Write.contents c.write_header.new.writer.inner) (ended layout.line_end (header_of layout.start l c.kept_of-header.result.items))) names c.in_ok-write_header.ensures.ok.0))

pub returns-clause-none : goal.returns-clause-none
returns-clause-none g c = λ releases may.
    fault_in c.first_record_is_alone.ensures c.args.by.now.layout.now (can_delimit c.args.by.now.layout.now.delimiter c.byte.ensures.sound) (g.R.Read.remaining c.args.reader) c.in_ok-column.field-0.header.items c.in_ok-column.ensures.header releases.zones None
    (rw c.deref.ensures.value at (c.in_ok-check_header.ensures.none releases may))
