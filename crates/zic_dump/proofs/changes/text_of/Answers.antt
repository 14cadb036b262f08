use Rattle.std.proofs.Common.{◌≡◌, ℤ, ℕ, List, ◌++◌, to_z, of_z, w64, subst, ◌∙◌, ap, rules}
use Rattle.std.specs.List.{flat_map}
use Rattle.zic_tzif.specs.Answer.{Answers, answered}
use Rattle.zic_dump.specs.Changes.{AreChanges}
use Rattle.zic_dump.specs.Text.{change_line}
use Rattle.zic_dump.specs.Years.{year_instant}
use Rattle.zic_dump.proofs.changes.text_of.Goals as goal

pub head-requires : goal.head-requires
head-requires c = c.requires _ (answered c.at.result) c.at.ensures

pub push_changes-requires-clause-order : goal.push_changes-requires-clause-order
push_changes-requires-clause-order c =
    let f : to_z w64 (of_z w64 c.first_instant-first.result) ≡ year_instant c.args.years.now.from = search rules in
    let l : to_z w64 (of_z w64 c.last_instant.result) ≡ c.last_instant.result = search rules in
    let order = c.last_instant.ensures.order in
    rw (f, l) order

pub returns : goal.returns
returns c =
    let years = c.args.years.now in
    let zone = c.args.zone.now in
    let f : to_z w64 (of_z w64 c.first_instant-first.result) ≡ year_instant years.from = search rules in
    let l : to_z w64 (of_z w64 c.last_instant.result) ≡ year_instant years.to = search rules in
    let pushed = c.in_ok-push_changes.ensures in
    let before = answered c.at.result in
    record {
      before = before;
      answers = subst (λ (z : ℤ). Answers zone z before) f c.at.ensures;
      changes = pushed.0;
      are_changes = subst (λ (z : ℤ). AreChanges zone (year_instant years.from) z pushed.0) l (subst (λ (z : ℤ). AreChanges zone z (to_z w64 (of_z w64 c.last_instant.result)) pushed.0) f pushed.1);
      is = pushed.2 ∙ ap (λ (text : List ℕ). text ++ flat_map change_line pushed.0) c.in_ok-text.ensures;
    }
