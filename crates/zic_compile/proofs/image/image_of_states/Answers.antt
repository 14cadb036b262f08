use Rattle.std.proofs.Common.{inl, inr, rules}
use Rattle.std.proofs.lemmas.Option.{IfSome_then}
use Rattle.zic_base.specs.Fault.{fault_of}
use Rattle.zic_base.proofs.MemoryLemmas.{on_want}
use Rattle.zic_footer.specs.Making.{IsMade}
use Rattle.zic_states.proofs.Outcomes.{refusal_from}
use Rattle.zic_posix.specs.Footer.{TzString}
use Rattle.zic_compile.specs.Image.{IsFaultOfImage}
use Rattle.zic_compile.proofs.zone_images.Wants.{never}
use Rattle.zic_compile.proofs.image.image_of_states.Goals as goal

pub returns-in_err-footer-clause-err : goal.returns-in_err-footer-clause-err
returns-in_err-footer-clause-err c =
    let by = IfSome_then (fault_of c.in_err-footer.field-0.0) {Q = IsFaultOfImage c.args.states.now c.args.place} c.in_err-footer.ensures.err (λ fault is. inl is) in
    search (rules, by, c.from_residual.ensures)

pub returns-in_err-footer-clause-memory : goal.returns-in_err-footer-clause-memory
returns-in_err-footer-clause-memory c =
    let by = never (fault_of c.in_err-footer.field-0.0) ((footer : TzString) × IsMade c.args.states.now footer) c.in_err-footer.ensures.memory in
    search (rules, by, c.from_residual.ensures)

pub returns-clause-err : goal.returns-clause-err
returns-clause-err c =
    refusal_from fault_of c.image_with-image.result c.image_with-image.ensures.err
    (λ fault is. inr ((c.in_ok-footer.footer, c.in_ok-footer.ensures.made), is))

pub returns-clause-memory : goal.returns-clause-memory
returns-clause-memory c = on_want fault_of c.image_with-image.result _ (c.in_ok-footer.footer, c.in_ok-footer.ensures.made)
