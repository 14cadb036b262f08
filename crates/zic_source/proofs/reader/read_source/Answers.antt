use Rattle.std.proofs.lemmas.Result.{err_from_is_err_and}
use Rattle.zic_source.specs.Texts.{texts_of}
use Rattle.zic_source.specs.Grammar.{IsSource}
use Rattle.zic_source.specs.code.Lines.{source_lines}
use Rattle.zic_source.proofs.sound.Sources.{source_is_sound}
use Rattle.zic_source.proofs.events.Loops.{all_read, reading_fails, reading_wants, whole_fails, whole_wants, never_refuses}
use Rattle.zic_source.proofs.reader.read_source.Goals as goal

pub returns-in_err-reader-clause-only : goal.returns-in_err-reader-clause-only
returns-in_err-reader-clause-only c = λ source is. let p = err_from_is_err_and c.from_residual.result c.from_residual.ensures.1 in rw (p.1, p.2)
    (never_refuses (texts_of c.args.texts.now) source is c.in_err-reader.field-0.0 (reading_fails (texts_of c.args.texts.now) c.in_err-reader.field-0.0 c.in_err-reader.ensures.fault))

pub returns-in_err-reader-clause-first : goal.returns-in_err-reader-clause-first
returns-in_err-reader-clause-first c = let p = err_from_is_err_and c.from_residual.result c.from_residual.ensures.1 in rw (p.1, p.2)
    (reading_fails (texts_of c.args.texts.now) c.in_err-reader.field-0.0 c.in_err-reader.ensures.fault)

pub returns-in_err-reader-clause-memory : goal.returns-in_err-reader-clause-memory
returns-in_err-reader-clause-memory c = let p = err_from_is_err_and c.from_residual.result c.from_residual.ensures.1 in rw (p.1, p.2)
    (reading_wants (texts_of c.args.texts.now) c.in_err-reader.field-0.0 c.in_err-reader.ensures.memory)

pub returns-in_err-link_zones-clause-only : goal.returns-in_err-link_zones-clause-only
returns-in_err-link_zones-clause-only c = λ source is. let p = err_from_is_err_and c.from_residual-in_err-link_zones.result c.from_residual-in_err-link_zones.ensures.1 in rw (p.1, p.2)
    (never_refuses (texts_of c.args.texts.now) source is c.in_err-link_zones.field-0.0
    (whole_fails (texts_of c.args.texts.now) (source_lines c.in_ok-reader.reader.lines) c.in_ok-reader.ensures.read c.in_err-link_zones.field-0.0 c.in_err-link_zones.ensures.first))

pub returns-in_err-link_zones-clause-first : goal.returns-in_err-link_zones-clause-first
returns-in_err-link_zones-clause-first c = let p = err_from_is_err_and c.from_residual-in_err-link_zones.result c.from_residual-in_err-link_zones.ensures.1 in rw (p.1, p.2)
    (whole_fails (texts_of c.args.texts.now) (source_lines c.in_ok-reader.reader.lines) c.in_ok-reader.ensures.read c.in_err-link_zones.field-0.0 c.in_err-link_zones.ensures.first)

pub returns-in_err-link_zones-clause-memory : goal.returns-in_err-link_zones-clause-memory
returns-in_err-link_zones-clause-memory c = let p = err_from_is_err_and c.from_residual-in_err-link_zones.result c.from_residual-in_err-link_zones.ensures.1 in rw (p.1, p.2)
    (whole_wants (texts_of c.args.texts.now) (source_lines c.in_ok-reader.reader.lines) c.in_ok-reader.ensures.read c.in_err-link_zones.field-0.0)

pub returns-clause-found : goal.returns-clause-found
returns-clause-found c = record { read = all_read (texts_of c.args.texts.now) (source_lines c.in_ok-reader.reader.lines) c.in_ok-reader.ensures.read; whole = c.in_ok-link_zones.ensures.whole }

pub invariant_of-result : goal.invariant_of-result
invariant_of-result c =
    let texts = texts_of c.args.texts.now in
    let source = source_lines c.in_ok-reader.reader.lines in
    let is : IsSource texts source = record { read = all_read texts source c.in_ok-reader.ensures.read; whole = c.in_ok-link_zones.ensures.whole } in
    record {
      says = (texts, is);
      sound = source_is_sound texts source is;
      sets_right = c.in_ok-reader.ensures.tracks.sets;
      zones_right = c.in_ok-link_zones.ensures.zones;
    }
