use Rattle.std.proofs.Common.{◌≡◌, [], ℕ, List, inl, inr, Some, sym, subst, ◌∙◌}
use Rattle.std.proofs.lemmas.List.{nil_from_length}
use Rattle.std.proofs.lemmas.Result.{err_from_is_err_and}
use Rattle.zic_base.specs.Fault.{fault_of}
use Rattle.zic_lines.specs.Line.{PlacedLine}
use Rattle.zic_lines.specs.Grammar.{FieldsSay}
use Rattle.zic_source.specs.Grammar.{is_open}
use Rattle.zic_source.specs.FirstFault.{SaysNext}
use Rattle.zic_source.specs.code.Lines.{source_lines}
use Rattle.zic_source.proofs.events.Leads.{blank_leads, entry_leads, open_is, if_some_map, on_ok_map, refusal_map}
use Rattle.zic_source.proofs.events.Passes.{fields_fail}
use Rattle.zic_source.proofs.reader.Reader.read_line.Goals as goal

pub returns-then-len-eq0-clause-read : goal.returns-then-len-eq0-clause-read
returns-then-len-eq0-clause-read c =
    let none : c.take_line.new.self.texts ≡ [] = nil_from_length c.take_line.new.self.texts (sym c.len.ensures ∙ c.if-len-eq0.true) in
    blank_leads (source_lines c.args.self.now.lines) (record { place = c.args.place; bytes = c.args.line.now }) (c.in_ok-take_line.ensures.ok.0, sym c.in_ok-take_line.ensures.ok.1 ∙ none)

pub returns-then-len-eq0-clause-tracks : goal.returns-then-len-eq0-clause-tracks
returns-then-len-eq0-clause-tracks c = record { sets = c.requires.sets; names = c.requires.names; counted = c.requires.counted }

pub add-requires-clause-tracks : goal.add-requires-clause-tracks
add-requires-clause-tracks c = record { sets = c.requires.sets; names = c.requires.names; counted = c.requires.counted }

pub returns-clause-tracks : goal.returns-clause-tracks
returns-clause-tracks c = c.add.ensures.tracks

pub returns-in_err-entry-clause-fault : goal.returns-in_err-entry-clause-fault
returns-in_err-entry-clause-fault c =
    let p = err_from_is_err_and c.from_residual-in_err-entry.result c.from_residual-in_err-entry.ensures.1 in
    let awaited : c.is_some-awaited.result ≡ is_open (source_lines c.args.self.now.lines) = c.is_some-awaited.ensures ∙ open_is (source_lines c.args.self.now.lines) c.open_place.result c.open_place.ensures in
    rw (p.1, p.2) (if_some_map (fault_of c.in_err-entry.field-0.0) _ _
    (λ fault h. inl (h.0, fields_fail c.args.line.now c.take_line.new.self.texts c.is_some-awaited.result _ fault.kind c.in_ok-take_line.ensures.ok.0 c.in_ok-take_line.ensures.ok.1 awaited h.1)) c.in_err-entry.ensures.fault)

pub returns-clause-read : goal.returns-clause-read
returns-clause-read c =
    let source = source_lines c.args.self.now.lines in
    let line : PlacedLine = record { place = c.args.place; bytes = c.args.line.now } in
    let awaited : c.is_some-awaited.result ≡ is_open source = c.is_some-awaited.ensures ∙ open_is source c.open_place.result c.open_place.ensures in
    let says : SaysNext source line c.in_ok-entry.entry = (
      (c.in_ok-take_line.ensures.ok.0, subst (λ (fs : List (List ℕ)). FieldsSay c.args.place fs (Some c.in_ok-entry.entry)) c.in_ok-take_line.ensures.ok.1 c.in_ok-entry.ensures.says.0),
      c.in_ok-entry.ensures.says.1 ∙ awaited,
    ) in
    on_ok_map c.add.result _ _ (entry_leads source (source_lines c.add.new.self.lines) line c.in_ok-entry.entry says) c.add.ensures.added

pub returns-clause-fault : goal.returns-clause-fault
returns-clause-fault c =
    let source = source_lines c.args.self.now.lines in
    let line : PlacedLine = record { place = c.args.place; bytes = c.args.line.now } in
    let awaited : c.is_some-awaited.result ≡ is_open source = c.is_some-awaited.ensures ∙ open_is source c.open_place.result c.open_place.ensures in
    let says : SaysNext source line c.in_ok-entry.entry = (
      (c.in_ok-take_line.ensures.ok.0, subst (λ (fs : List (List ℕ)). FieldsSay c.args.place fs (Some c.in_ok-entry.entry)) c.in_ok-take_line.ensures.ok.1 c.in_ok-entry.ensures.says.0),
      c.in_ok-entry.ensures.says.1 ∙ awaited,
    ) in
    refusal_map c.add.result _ _ (λ fault h. inr (c.in_ok-entry.entry, says, h)) c.add.ensures.fault
