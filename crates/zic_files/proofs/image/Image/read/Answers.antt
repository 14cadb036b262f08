use Rattle.std.proofs.Common.{subst, List, ℕ}
use Rattle.std.specs.Prelude.{IfSome, IfNone}
use Rattle.std.proofs.lemmas.Result.{err_from_is_err_and}
use Rattle.zic_tzif.specs.Reading.{IsFile, IsFault, ReadNeedsMemory, reason_of}
use Rattle.zic_files.proofs.Added.{answer_within}
use Rattle.zic_files.proofs.Fits.{refused_is_unfit, content_is_unfit}
use Rattle.zic_files.proofs.image.Image.read.Goals as goal

pub returns-in_err-zone-clause-err : goal.returns-in_err-zone-clause-err
returns-in_err-zone-clause-err c =
    let why = c.in_err-zone.field-0.0 in
    let p = err_from_is_err_and c.from_residual.result c.from_residual.ensures.1 in
    let fault = subst (λ (octets : List ℕ). IfSome (reason_of why) (IsFault octets)) c.deref.ensures.value c.in_err-zone.ensures.err in
    let memory = subst (λ (octets : List ℕ). IfNone (reason_of why) (ReadNeedsMemory octets)) c.deref.ensures.value c.in_err-zone.ensures.memory in
    rw p.1 (refused_is_unfit c.args.octets.items why p.0 fault memory p.2)

pub returns-in_err-check_fit-clause-err : goal.returns-in_err-check_fit-clause-err
returns-in_err-check_fit-clause-err c =
    let p = err_from_is_err_and c.from_residual-in_err-check_fit.result c.from_residual-in_err-check_fit.ensures.1 in
    let file = subst (λ (octets : List ℕ). IsFile octets c.in_ok-zone.zone) c.deref.ensures.value c.in_ok-zone.ensures.ok in
    rw (p.1, p.2) (content_is_unfit c.args.octets.items c.in_ok-zone.zone c.in_err-check_fit.field-0.0 file c.in_err-check_fit.ensures)

pub returns-clause-known : goal.returns-clause-known
returns-clause-known c = answer_within c.states_have_numbers.ensures c.footers_leave_nothing_open.ensures c.in_ok-zone.zone c.in_ok-check_fit.ensures

pub invariant_of-result : goal.invariant_of-result
invariant_of-result c = subst (λ (octets : List ℕ). IsFile octets c.in_ok-zone.zone) c.deref.ensures.value c.in_ok-zone.ensures.ok

pub returns-clause-read : goal.returns-clause-read
returns-clause-read c = subst (λ (octets : List ℕ). IsFile octets c.in_ok-zone.zone) c.deref.ensures.value c.in_ok-zone.ensures.ok
