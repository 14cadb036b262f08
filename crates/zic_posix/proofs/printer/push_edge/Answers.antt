use Rattle.std.proofs.Common.{◌≡◌, pos, ℤ, of_z, inl, inr, ap, ℕ, List, [], ◌∷◌, ◌++◌, append_assoc, FitsSigned, w32, to_z-of_z, arith, rules}
use Rattle.std.specs.Ordering.{int_eq}
use Rattle.std.proofs.lemmas.Bool.{cases_Bool}
use Rattle.std.proofs.lemmas.Bool.Decides.{Decides-int_eq}
use Rattle.std.proofs.lemmas.Result.{on_ok_weaker}
use Rattle.zic_posix.specs.Printing.{printed_day, printed_signed}
use Rattle.zic_posix.proofs.printer.push_edge.Goals as goal

pub push_signed-requires : goal.push_signed-requires
push_signed-requires c =
    let fits : FitsSigned w32 c.args.edge.time = search rules in
    let time = c.requires.time in
    rw (to_z-of_z fits) (omega (arith, time))

-- one after another
joined : (old a b d day time : List ℕ) → a ≡ old ++ day → b ≡ a ++ 47 ∷ [] → d ≡ b ++ time → d ≡ old ++ (day ++ 47 ∷ time)
joined old a b d day time ea eb ed = rw (ed, eb, ea) (simp append_assoc)

pub returns : goal.returns
returns c =
    let edge = c.args.edge in
    let fits : FitsSigned w32 edge.time = search rules in
    let signed = rw (to_z-of_z fits) at c.push_signed.ensures in
    elim (cases_Bool (int_eq edge.time (pos 7200))) [
      | inl usual ↦ absurd (c.if-edge-eq-USUAL_TIME.false (ap (λ (z : ℤ). of_z w32 z) ((Decides-int_eq edge.time (pos 7200)).0 usual)))
      | inr other ↦
          rw other
          (on_ok_weaker c.push_signed.result
          (λ e. joined c.args.text.now.items _ _ _ (printed_day edge.day) (printed_signed edge.time) c.in_ok-push_day.ensures c.in_ok-push.ensures.items e) signed)
    ]
