use Rattle.std.proofs.Common.{◌≡◌, ◌∙◌, ℕ, ap, sym}
use Rattle.zic_columns.specs.Lines.{open_record}
use Rattle.zic_columns.specs.Own.{csv_records}
use Rattle.zic_layouts.specs.declared.layout.Layout.{Layout}
use Rattle.zic_convert.specs.Header.{header_kind}
use Rattle.zic_convert.proofs.Delimited.{can_delimit}
use Rattle.zic_convert.proofs.HeaderFaults.{empty_own, no_fault, open_by_mode, read_by_mode, some_own, unkept_fault}
use Rattle.zic_convert.proofs.header.header_fault.Goals as goal
use Rattle.zic_convert.proofs.header.header_fault.Goals.{then-is_open, else-is_open+in_ok-fault}

pub returns-then-is_empty : goal.returns-then-is_empty
returns-then-is_empty c = λ of. sym (no_fault c.args.layout.now c.args.releases.now.zones c.args.own.now (empty_own c.args.own.now c.if-is_empty.ensures))

pub returns : goal.returns
returns c = λ of.
    let law = c.first_record_is_alone.ensures in
    let layout = c.args.layout.now in
    let can = can_delimit layout.delimiter c.byte.ensures.sound in
    let files = c.args.releases.now.zones in
    let own = c.args.own.now in
    let some = some_own own c.if-is_empty.ensures in
    let other = c.in_ok-unkept.unkept in
    let is = c.in_ok-unkept.ensures in
    let delimiter : other.delimiter ≡ layout.delimiter = ap (λ (l : Layout). l.delimiter) is.2 in
    elim c.if-is_open.branch [
      | then-is_open w ↦ c.header_kind.ensures ∙ ap header_kind w.fault-is
          ∙ open_by_mode law layout can own files layout.records of.ended (sym (c.is_open.ensures of.ended) ∙ w.if-is_open.true) w.open_kind.result
          (sym (unkept_fault layout other is files 0 0 (open_record own)) ∙ w.open_kind.ensures files)
      | else-is_open+in_ok-fault w ↦ c.header_kind.ensures ∙ ap header_kind w.fault-is
          ∙ read_by_mode law layout can own files layout.records some of (sym (c.is_open.ensures of.ended) ∙ w.if-is_open.false) w.in_ok-fault.fault
          (λ given e. w.in_ok-fault.ensures given (ap (λ (d : ℕ). csv_records d own) delimiter ∙ e) ∙ unkept_fault layout other is files 0 0 given)
    ]
