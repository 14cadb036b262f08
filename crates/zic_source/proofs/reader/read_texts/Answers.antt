use Rattle.std.proofs.Common.{◌≤◌, ◌<◌, ◌+◌, length, sym, ap, subst, arith}
use Rattle.std.proofs.lemmas.List.{length-map, drop_all}
use Rattle.std.proofs.lemmas.Result.{err_from_is_err_and}
use Rattle.zic_source.specs.Event.{events_of}
use Rattle.zic_source.specs.code.Lines.{no_lines, source_lines}
use Rattle.zic_source.specs.Texts.{texts_of}
use Rattle.zic_source.proofs.events.Leads.{IsSoFar, so_far_begins, so_far_ends}
use Rattle.zic_source.proofs.events.Loops.{texts_from, text_at, texts_on, texts_fail, texts_want}
use Rattle.zic_source.proofs.reader.read_texts.Goals as goal

pub loop-index-init : goal.loop-index-init
loop-index-init c = record {
  so_far = subst (IsSoFar no_lines (events_of (texts_of c.args.texts.now)) (texts_from 1 (texts_of c.args.texts.now))) (sym c.new-reader.ensures.lines) (so_far_begins no_lines (events_of (texts_of c.args.texts.now)));
  tracks = c.new-reader.ensures.tracks;
}

pub returns-in_err-read_text-clause-fault : goal.returns-in_err-read_text-clause-fault
returns-in_err-read_text-clause-fault c =
    let p = err_from_is_err_and c.from_residual.result c.from_residual.ensures.1 in
    let within : c.loop-index.index < length (texts_of c.args.texts.now) = omega (arith, c.loop-index-test.true, length-map c.args.texts.now (λ text. text.items)) in
    rw (p.1, p.2) (texts_fail no_lines (source_lines c.loop-index.reader.lines) _ (texts_of c.args.texts.now) c.loop-index.index c.deref.result.now within
    (text_at c.args.texts.now c.loop-index.index c.index-texts-index.result c.deref.result.now c.loop-index-test.true c.index-texts-index.is c.deref.ensures.value)
    c.loop-index.invariant.so_far c.in_err-read_text.field-0.0 c.in_err-read_text.ensures.fault)

pub returns-in_err-read_text-clause-memory : goal.returns-in_err-read_text-clause-memory
returns-in_err-read_text-clause-memory c =
    let p = err_from_is_err_and c.from_residual.result c.from_residual.ensures.1 in
    let within : c.loop-index.index < length (texts_of c.args.texts.now) = omega (arith, c.loop-index-test.true, length-map c.args.texts.now (λ text. text.items)) in
    rw (p.1, p.2) (texts_want no_lines (source_lines c.loop-index.reader.lines) _ (texts_of c.args.texts.now) c.loop-index.index c.deref.result.now within
    (text_at c.args.texts.now c.loop-index.index c.index-texts-index.result c.deref.result.now c.loop-index-test.true c.index-texts-index.is c.deref.ensures.value)
    c.loop-index.invariant.so_far c.in_err-read_text.field-0.0 c.in_err-read_text.ensures.memory)

pub loop-index-preserved : goal.loop-index-preserved
loop-index-preserved c =
    let within : c.loop-index.index < length (texts_of c.args.texts.now) = omega (arith, c.loop-index-test.true, length-map c.args.texts.now (λ text. text.items)) in
    record {
      so_far = texts_on no_lines (source_lines c.loop-index.reader.lines) _ (texts_of c.args.texts.now) c.loop-index.index c.deref.result.now within
          (text_at c.args.texts.now c.loop-index.index c.index-texts-index.result c.deref.result.now c.loop-index-test.true c.index-texts-index.is c.deref.ensures.value)
          c.loop-index.invariant.so_far (source_lines c.read_text.new.self.lines) c.in_ok-read_text.ensures.read;
      tracks = c.in_ok-read_text.ensures.tracks;
    }

pub returns-clause-read : goal.returns-clause-read
returns-clause-read c =
    let past : length (texts_of c.args.texts.now) ≤ c.loop-index.index = omega (arith, c.loop-index-test.false, length-map c.args.texts.now (λ text. text.items)) in
    so_far_ends no_lines _ _ (source_lines c.loop-index.reader.lines) (ap (texts_from (c.loop-index.index + 1)) (drop_all c.loop-index.index (texts_of c.args.texts.now) past)) c.loop-index.invariant.so_far
