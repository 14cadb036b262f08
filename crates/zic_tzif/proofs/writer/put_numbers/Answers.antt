use Rattle.std.proofs.Common.{ℕ, List, [], ◌∷◌, ◌++◌, pos, get_or, map, take, ap, sym, ◌∙◌, append_assoc}
use Rattle.std.proofs.lemmas.List.{map_more, take_all}
use Rattle.zic_tzif.specs.declared.content.Change.{Change}
use Rattle.zic_tzif.proofs.writer.put_numbers.Goals as goal

abbrev number : Change → ℕ
number change = change.number

pub loop-change-preserved : goal.loop-change-preserved
loop-change-preserved c =
    let front = c.args.out.now.items in
    let changes = c.args.changes.now in
    let i = c.loop-change.change-index in
    let none : Change = record { instant = pos 0; number = 0 } in
    let one : List ℕ = number (get_or changes i none) ∷ [] in
    c.in_ok-push.ensures.items
    ∙ ap (λ (numbers : List ℕ). numbers ++ one) c.loop-change.invariant
    ∙ append_assoc front (map number (take i changes)) one
    ∙ ap (λ (numbers : List ℕ). front ++ numbers) (sym (map_more number changes i none c.loop-change-test.true))

pub returns : goal.returns
returns c =
    c.loop-change.invariant
    ∙ ap (λ (changes : List Change). c.args.out.now.items ++ map number changes) (take_all c.loop-change.change-index c.args.changes.now c.loop-change-test.false)
