use Rattle.std.proofs.Common.{rules, ◌≡◌, ℕ, ◌+◌, ◌-◌, ◌*◌, ◌<◌, ℤ, take, drop, Some, refl, sym, ap, ap₂, ◌∙◌, length, arith, w64, to_z, of_z, get_or}
use Rattle.std.proofs.lemmas.Int.{to_z-of_z}
use Rattle.zic_tzif.specs.declared.content.Change.{Change}
use Rattle.zic_tzif.specs.Block.{time_in}
use Rattle.zic_tzif.proofs.ReadTransitions.{change_at}
use Rattle.zic_tzif.proofs.transition.last_change.Goals as goal

pub returns : goal.returns
returns c =
    let times = c.args.times.now in
    let numbers = c.args.numbers.now in
    let count = length numbers in
    let last = length numbers - 1 in
    let some : 0 < length numbers = c.in_ok-number.ensures.item.3.0 in
    let eight : last * 8 + 8 - last * 8 ≡ 8 = omega arith in
    let instant : to_z w64 (of_z w64 c.time_in-instant.result) ≡ time_in (take 8 (drop (last * 8) times)) =
    to_z-of_z w64 c.time_in-instant.result (search rules) ∙ c.time_in-instant.ensures ∙ ap (λ n. time_in (take n (drop (last * 8) times))) eight in
    let number : c.in_ok-number.field-0.now ≡ get_or numbers last 0 = c.in_ok-number.ensures.item.3.1 0 in
    ap₂ (λ (t : ℤ) (n : ℕ). Some (let change : Change = record { instant = t; number = n } in change)) instant number
    ∙ sym (change_at count last times numbers (omega arith) refl)
