use Rattle.std.proofs.Common.{◌≡◌, true, ℕ, ◌<◌, ◌≤◌, List, length, take, arith}
use Rattle.std.proofs.lemmas.List.{length-take}
use Rattle.std.proofs.lemmas.List.Elements.{All-take}
use Rattle.zic_base.specs.Number.{decimal_value}
use Rattle.std.specs.Char.{is_ascii_digit}
use Rattle.zic_posix.proofs.NumberLemmas.{AreDigits, decimal_small}
use Rattle.zic_posix.proofs.word.decimal.Goals as goal

-- before the last of three digits the number is below 100
before_last : (text : List ℕ) (i : ℕ) → length text ≤ 3 → AreDigits text → i < length text → decimal_value (take i text) < 100
before_last text i short digits within =
    decimal_small (take i text) (omega (arith, length-take i text)) (All-take (λ b. is_ascii_digit b ≡ true) i text digits)

pub overflow_mul-number : goal.overflow_mul-number
overflow_mul-number c =
    let small = before_last c.args.digits.now c.loop-digit.digit-index c.requires.short c.requires.digits c.loop-digit-test.true in
    omega (arith, c.loop-digit.invariant)
