use Rattle.std.proofs.Common.{◌∙◌, ◌++◌, ℕ, List, ap, arith, length}
use Rattle.std.proofs.Math.Seq.{take-append_seam}
use Rattle.zic_columns.specs.Round.{ColumnOf}
use Rattle.zic_columns.proofs.Taking.{keeps_read}
use Rattle.zic_columns.proofs.columns.Column.read_on.Goals as goal

pub returns-clause-keeps : goal.returns-clause-keeps
returns-clause-keeps g c =
    let (more, long, held, consumes) = c.in_ok-count.ensures.ok in
    let grown = held ∙ ap (λ (bytes : List ℕ). bytes ++ more) c.make_room.ensures.held in
    rw (← c.self.view_is) (keeps_read _ _ more _ _ grown consumes)

pub returns-clause-grows : goal.returns-clause-grows
returns-clause-grows g c =
    let (more, long, held, consumes) = c.in_ok-count.ensures.ok in
    let before = c.make_room.ensures.held ∙ ap (λ (column : ColumnOf _). column.held) c.self.view_is in
    (more, long, held ∙ ap (λ (bytes : List ℕ). bytes ++ more) before)

pub returns-clause-end : goal.returns-clause-end
returns-clause-end g c = λ none. c.in_ok-count.ensures.end none c.in_ok-make_room.ensures.some

pub returns-clause-limit : goal.returns-clause-limit
returns-clause-limit g c = rw (← c.self.view_is) c.read_from.ensures.limit

pub returns-in_err-count-clause-limit : goal.returns-in_err-count-clause-limit
returns-in_err-count-clause-limit g c = rw (← c.self.view_is) c.read_from.ensures.limit

pub on-self-inside-requires-clause-scanned : goal.on-self-inside-requires-clause-scanned
on-self-inside-requires-clause-scanned g c =
    let (more, long, held, consumes) = c.in_ok-count.ensures.ok in
    rw (c.held.ensures, held, c.held-before.ensures, take-append_seam, c.make_room.ensures.held) c.self.invariant.1

pub invariant_of-self : goal.invariant_of-self
invariant_of-self g c = (λ k d lt. absurd (omega (arith, ap length c.clear.ensures.items, lt)), rw c.make_room.ensures.held c.self.invariant.1)

pub invariant_of-self-in_err-count : goal.invariant_of-self-in_err-count
invariant_of-self-in_err-count g c =
    (λ k d lt. absurd (omega (arith, ap length c.clear.ensures.items, lt)), rw (c.in_err-count.ensures.err.0, c.make_room.ensures.held) c.self.invariant.1)

pub invariant_of-self-2 : goal.invariant_of-self-2
invariant_of-self-2 g c = (λ k d lt. absurd (omega (arith, ap length c.clear.ensures.items, lt)), rw c.held.ensures at c.on-self-inside.ensures.scanned)

pub returns-clause-buffer : goal.returns-clause-buffer
returns-clause-buffer g c =
    let held = ap (λ (column : ColumnOf _). length column.held) c.self.view_is in
    let buffer = ap (λ (column : ColumnOf _). column.buffer) c.self.view_is in
    omega (arith, c.make_room.ensures.most, c.read_from.ensures.len, held, buffer)
