use Rattle.std.proofs.Common.{◌+◌, ◌-◌, ◌^◌, ◌≡◌, ◌∙◌, ◌++◌, ℕ, List, Option, Some, length, min, slice_get, ap, refl, subst, sym}
use Rattle.std.specs.Option.{option_or}
use Rattle.zic_base.specs.declared.row_fault.RowFault.{RowFault}
use Rattle.zic_layouts.specs.Noted.{RowNote}
use Rattle.zic_io.specs.Faults.{IsFaultLine, IsRecordLine, fault_of}
use Rattle.zic_layouts.specs.Layout.{line_end_bytes}
use Rattle.zic_io.specs.code.FaultList.{Gets, kept}
use Rattle.zic_io.proofs.FaultLemmas.{count_rises, file_grows, first_stays, records_grow}
use Rattle.zic_io.proofs.fault_list.FaultListRowLog.note.Goals as goal

pub invariant_of-self : goal.invariant_of-self
invariant_of-self g c =
    let contents = g.W.Write.contents in
    let old = c.self.inside in
    let noted = old.noted.faults in
    let row = c.args.row.now in
    let fault : c.row.inside.fault ≡ row.fault = ap (λ (r : RowNote). r.fault) c.row.view_is in
    let own : c.row.inside.own.items ≡ row.own = ap (λ (r : RowNote). r.own) c.row.view_is in
    let more = c.and-self-inside.ensures.0 in
    let same = c.and-self-inside.ensures.1 in
    let mid = c.push_header_at_first.new.list in
    let reject = c.push_record.new.list in
    let line_end = c.row.inside.line_end in
    let of_own = subst (λ (o : List ℕ). (line : List ℕ) × IsRecordLine o line × Gets contents line mid reject) (c.deref.ensures.value ∙ own) (c.deref.result.now ++ line_end_bytes line_end, (line_end, refl), c.push_record.ensures.grows) in
    let faults = file_grows contents (IsFaultLine old.fields) noted row old.noted.start old.faults c.push_fault.new.list c.self.invariant.1 c.push_fault.ensures.grows in
    let rejects = records_grow contents old.held.start (kept old.header) noted row old.first old.rejects mid reject c.self.invariant.0.is_first c.self.invariant.2 c.push_header_at_first.ensures.grows of_own in (
      record {
        is_first =
            c.or-self-inside.ensures ∙ ap (λ (f : Option RowFault). option_or f (Some c.row.inside.fault)) c.self.invariant.0.is_first
            ∙ ap (λ (f : RowFault). option_or (fault_of (slice_get noted 0)) (Some f)) fault ∙ first_stays noted row ∙ ap (λ (l : List RowNote). fault_of (slice_get l 0)) (sym more);
        is_count =
            c.saturating_add-self-inside.ensures ∙ ap (λ (n : ℕ). min (n + 1) (2 ^ 64 - 1)) c.self.invariant.0.is_count ∙ count_rises noted row (2 ^ 64 - 1)
            ∙ ap (λ (l : List RowNote). min (length l) (2 ^ 64 - 1)) (sym more);
      },
      rw (more, same) faults,
      rw more rejects,
    )
