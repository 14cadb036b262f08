use Rattle.std.proofs.Common.{◌≡◌, ◌∙◌, [], None, true, false, not, is_some, ap, sym}
use Rattle.zic_io.specs.code.FaultList.{kept}
use Rattle.zic_io.proofs.FaultLemmas.{begun, begun_written, is_none_is, kept_is, kept_some, no_rows}
use Rattle.zic_io.proofs.fault_list.FaultListRowLog.begin.Goals as goal
use Rattle.zic_io.proofs.fault_list.FaultListRowLog.begin.Goals.{then-is_some, else-is_some, then-is_first, else-is_first, then-is_first-2+then-is_none, else-is_first-2}

pub invariant_of-self : goal.invariant_of-self
invariant_of-self g c =
    let contents = g.W.Write.contents in
    let old = c.self.inside in
    let noted = old.noted.faults in
    let inv = c.self.invariant in
    let is_first = c.if-is_some.is_first in
    let now = c.if-is_first.kept in
    let first_means : is_first ≡ true → (noted ≡ []) × (is_some (kept old.header) ≡ true) = λ e.
    elim c.if-is_some.branch [
      | then-is_some u ↦ (no_rows noted (sym inv.0.is_first ∙ is_none_is old.first (u.is_none-is_first.ensures ∙ ap not (sym u.is_first-is ∙ e))), kept_some old.header (sym c.is_some.ensures ∙ u.if-is_some.true))
      | else-is_some u ↦ absurd (cc (sym u.is_first-is ∙ e))
    ] in
    let none_means : is_first ≡ false → kept now ≡ None = λ e.
    elim c.if-is_first.branch [
      | then-is_first u ↦ absurd (cc (sym u.if-is_first.true ∙ e))
      | else-is_first u ↦ ap kept u.kept-is
    ] in
    rw c.replace.ensures.after (elim c.if-is_first-2.branch [
      | then-is_first-2+then-is_none w ↦ rw w.self-inside-is (
        inv.0,
        inv.1,
        begun_written contents old.held.start (kept old.header) noted c.args.header.now old.rejects w.push_header.new.list (kept now) (ap kept (is_none_is now (w.is_none.ensures ∙ ap not w.if-is_none.true)))
            (first_means w.if-is_first-2.true).0 inv.2 w.push_header.ensures.grows,
      )
      | else-is_first-2 w ↦ rw w.self-inside-is (inv.0, inv.1, begun contents old.held.start (kept old.header) noted old.rejects is_first (kept now) first_means none_means inv.2)
    ])

pub returns-clause-began : goal.returns-clause-began
returns-clause-began g c = rw c.replace.ensures.after (elim c.if-is_first.branch [
  | then-is_first u ↦ rw u.kept-is (kept_is u.copy_of-kept.result c.args.header.now u.copy_of-kept.ensures)
  | else-is_first u ↦ rw u.kept-is tt
])
