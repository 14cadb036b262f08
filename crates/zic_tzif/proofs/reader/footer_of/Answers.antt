use Rattle.std.proofs.Common.{◌≡◌, inl, inr, refl, length, ap, sym, subst, ◌∙◌}
use Rattle.std.proofs.lemmas.Bool.{eqb-false, false≢true}
use Rattle.zic_posix.specs.Footer.{TzString}
use Rattle.zic_tzif.specs.code.Parts.{DoesAgree, content_of}
use Rattle.zic_tzif.proofs.reader.footer_of.Goals as goal

pub returns-else-does_agree-clause-err : goal.returns-else-does_agree-clause-err
returns-else-does_agree-clause-err c = (
  refl,
  λ known. elim known [
    | inl empty ↦ eqb-false (length c.args.parts.now.text.now) 0 (sym c.is_empty.ensures ∙ c.if-is_empty.false) (ap length empty)
    | inr some ↦ (
        let p = c.args.parts.now in
        let one : some.0 ≡ c.in-Ok.footer = c.spells_at_most_one.ensures p.version p.text.now some.0 c.in-Ok.footer some.1.spells c.in-Ok.ensures.ok in
        let agrees = c.does_agree.ensures.1 (subst (λ (f : TzString). DoesAgree (content_of p) f) one some.1.agrees) in
        false≢true (sym c.if-does_agree.false ∙ agrees)
        )
  ],
)

pub returns-in-Err-BadFooter-clause-err : goal.returns-in-Err-BadFooter-clause-err
returns-in-Err-BadFooter-clause-err c = (
  refl,
  λ known. elim known [
    | inl empty ↦ eqb-false (length c.args.parts.now.text.now) 0 (sym c.is_empty.ensures ∙ c.if-is_empty.false) (ap length empty)
    | inr some ↦ rw c.in-Err-BadFooter.field-0-is at c.in-Err-BadFooter.ensures.only some.0 some.1.spells
  ],
)

pub returns-then-does_agree-clause-ok : goal.returns-then-does_agree-clause-ok
returns-then-does_agree-clause-ok c = record { spells = c.in-Ok.ensures.ok; agrees = c.does_agree.ensures.0 c.if-does_agree.true }
