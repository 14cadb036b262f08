use Rattle.std.proofs.Common.{inl, sym, subst}
use Rattle.std.proofs.lemmas.Result.{err_from_is_err_and}
use Rattle.zic_base.proofs.MemoryLemmas.{on_want}
use Rattle.zic_tzif.specs.Reading.{IsFile, ReadNeedsMemory, reason_of}
use Rattle.zic_tzif.specs.code.Parts.{content_of}
use Rattle.zic_tzif.proofs.ReadFiles.{footer_fault, footer_memory, trails, is_file, sound_content, file_has_no_fault, never}
use Rattle.zic_tzif.proofs.reader.read.Goals as goal

pub zone_of-requires : goal.zone_of-requires
zone_of-requires c = sound_content c.args.octets.now c.in_ok-parts.parts c.in_ok-footer.footer c.in_ok-parts.ensures.1 c.in_ok-footer.ensures.ok

pub returns-in_err-footer-clause-err : goal.returns-in_err-footer-clause-err
returns-in_err-footer-clause-err c =
    let p = err_from_is_err_and c.from_residual-in_err-footer.result c.from_residual-in_err-footer.ensures.1 in
    rw (p.1, p.2) (footer_fault c.args.octets.now c.in_ok-parts.parts (reason_of c.in_err-footer.field-0.0) c.in_ok-parts.ensures.0 c.in_ok-parts.ensures.1 c.in_err-footer.ensures.err)

pub returns-in_err-footer-clause-memory : goal.returns-in_err-footer-clause-memory
returns-in_err-footer-clause-memory c =
    let p = err_from_is_err_and c.from_residual-in_err-footer.result c.from_residual-in_err-footer.ensures.1 in
    rw (p.1, p.2) (footer_memory c.args.octets.now c.in_ok-parts.parts (reason_of c.in_err-footer.field-0.0) c.in_ok-parts.ensures.0 c.in_ok-parts.ensures.1 c.in_err-footer.ensures.memory)

pub returns-in_err-footer-clause-only : goal.returns-in_err-footer-clause-only
returns-in_err-footer-clause-only c = never c.args.octets.now c.from_residual-in_err-footer.result (returns-in_err-footer-clause-err c)

pub returns-then-octets-end-clause-err : goal.returns-then-octets-end-clause-err
returns-then-octets-end-clause-err c = trails c.args.octets.now c.in_ok-parts.parts c.in_ok-footer.footer c.in_ok-parts.ensures.0 c.in_ok-parts.ensures.1 c.in_ok-footer.ensures.ok c.if-octets-end.true

pub returns-then-octets-end-clause-only : goal.returns-then-octets-end-clause-only
returns-then-octets-end-clause-only c = λ file. file_has_no_fault c.args.octets.now file.0 _ file.1 (returns-then-octets-end-clause-err c)

pub returns-in_err-zone_of-clause-memory : goal.returns-in_err-zone_of-clause-memory
returns-in_err-zone_of-clause-memory c =
    let file = is_file c.args.octets.now c.in_ok-parts.parts c.in_ok-footer.footer c.in_ok-parts.ensures.0 c.in_ok-parts.ensures.1 c.in_ok-footer.ensures.ok c.if-octets-end.false in
    on_want reason_of c.from_residual-in_err-zone_of.result (ReadNeedsMemory c.args.octets.now) (inl (content_of c.in_ok-parts.parts, file))

pub returns-clause-ok : goal.returns-clause-ok
returns-clause-ok c =
    let file = is_file c.args.octets.now c.in_ok-parts.parts c.in_ok-footer.footer c.in_ok-parts.ensures.0 c.in_ok-parts.ensures.1 c.in_ok-footer.ensures.ok c.if-octets-end.false in
    subst (IsFile c.args.octets.now) (sym c.in_ok-zone_of.ensures) file

pub footer_of-requires-clause-version : goal.footer_of-requires-clause-version
footer_of-requires-clause-version c = c.in_ok-parts.ensures.1.known

pub footer_of-requires-clause-passes : goal.footer_of-requires-clause-passes
footer_of-requires-clause-passes c = c.in_ok-parts.ensures.1.passes
