use Rattle.std.proofs.Common.{◌≡◌, ◌+◌, ◌∷◌, [], Option, sym, ap, ◌∙◌, arith}
use Rattle.std.specs.Prelude.{is_some}
use Rattle.std.proofs.lemmas.Bool.{eqb-true}
use Rattle.std.proofs.lemmas.List.{nil_from_length}
use Rattle.std.proofs.lemmas.Result.{err_from_is_err_and}
use Rattle.zic_base.specs.declared.fault.Place.{Place}
use Rattle.zic_base.specs.declared.fault.Kind.TheVariants.{NoContinuation}
use Rattle.zic_base.specs.Fault.{fault_at}
use Rattle.zic_source.specs.Event.{End, text_events}
use Rattle.zic_source.specs.code.Lines.{source_lines}
use Rattle.zic_source.proofs.events.Leads.{so_far_begins, open_is, end_fails}
use Rattle.zic_source.proofs.events.Loops.{line_on, line_fails, line_wants, end_on, end_fails_in}
use Rattle.zic_source.proofs.reader.Reader.read_text.Goals as goal

pub loop-rest-init : goal.loop-rest-init
loop-rest-init c = record {
  so_far = so_far_begins (source_lines c.args.self.now.lines) (text_events c.args.number c.args.text.now);
  tracks = c.requires;
  counted = omega arith;
}

pub returns-in_err-read_line-clause-fault : goal.returns-in_err-read_line-clause-fault
returns-in_err-read_line-clause-fault c = let p = err_from_is_err_and c.from_residual.result c.from_residual.ensures.1 in rw (p.1, p.2)
    (line_fails (source_lines c.args.self.now.lines) (source_lines c.loop-rest.self.lines) _ c.args.number (c.loop-rest.line + 1) c.loop-rest.rest.now c.first_line.result.0.now c.first_line.result.1.now (End ∷ [])
    c.first_line.ensures.line c.loop-rest.invariant.so_far c.in_err-read_line.field-0.0 c.in_err-read_line.ensures.fault)

pub returns-in_err-read_line-clause-memory : goal.returns-in_err-read_line-clause-memory
returns-in_err-read_line-clause-memory c = let p = err_from_is_err_and c.from_residual.result c.from_residual.ensures.1 in rw (p.1, p.2)
    (line_wants (source_lines c.args.self.now.lines) (source_lines c.loop-rest.self.lines) _ c.args.number (c.loop-rest.line + 1) c.loop-rest.rest.now c.first_line.result.0.now c.first_line.result.1.now (End ∷ [])
    c.first_line.ensures.line c.loop-rest.invariant.so_far c.in_err-read_line.field-0.0 c.in_err-read_line.ensures.memory)

pub loop-rest-preserved : goal.loop-rest-preserved
loop-rest-preserved c = record {
  so_far = line_on (source_lines c.args.self.now.lines) (source_lines c.loop-rest.self.lines) _ c.args.number (c.loop-rest.line + 1) c.loop-rest.rest.now c.first_line.result.0.now c.first_line.result.1.now (End ∷ [])
      c.first_line.ensures.line c.loop-rest.invariant.so_far (source_lines c.read_line.new.self.lines) c.in_ok-read_line.ensures.read;
  tracks = c.in_ok-read_line.ensures.tracks;
  counted = omega (arith, c.first_line.ensures.shorter, c.loop-rest.invariant.counted);
}

pub returns-in-None-clause-read : goal.returns-in-None-clause-read
returns-in-None-clause-read c =
    let now = source_lines c.loop-rest.self.lines in
    let none : c.loop-rest.rest.now ≡ [] = nil_from_length c.loop-rest.rest.now (eqb-true _ _ (sym c.loop-rest-test.ensures)) in
    end_on (source_lines c.args.self.now.lines) now _ c.args.number (c.loop-rest.line + 1) c.loop-rest.rest.now none c.loop-rest.invariant.so_far
    (sym (open_is now c.open_place.result c.open_place.ensures) ∙ ap (λ (o : Option Place). is_some o) c.in-None.is)

pub returns-in-Some-clause-fault : goal.returns-in-Some-clause-fault
returns-in-Some-clause-fault c =
    let now = source_lines c.loop-rest.self.lines in
    let none : c.loop-rest.rest.now ≡ [] = nil_from_length c.loop-rest.rest.now (eqb-true _ _ (sym c.loop-rest-test.ensures)) in
    rw c.at.ensures (end_fails_in (source_lines c.args.self.now.lines) now _ c.args.number (c.loop-rest.line + 1) c.loop-rest.rest.now none c.loop-rest.invariant.so_far
    (fault_at c.in-Some.place NoContinuation) (end_fails now c.in-Some.place (sym c.in-Some.is ∙ c.open_place.ensures)))
