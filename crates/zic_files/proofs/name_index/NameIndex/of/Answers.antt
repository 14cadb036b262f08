use Rattle.std.proofs.Common.{◌≡◌, ℕ, ◌≤◌, length, subst, arith}
use Rattle.zic_files.specs.code.NameIndex.{AreNumbersUpTo}
use Rattle.zic_files.proofs.Numbers.{numbers_first}
use Rattle.zic_files.proofs.name_index.NameIndex.of.Goals as goal

both : (a b : ℕ) → a ≤ b → b ≤ a → a ≡ b
both a b up down = omega (arith, up, down)

pub loop-number-init : goal.loop-number-init
loop-number-init c = numbers_first c.args.entries.now c.new-index.result c.new-index.ensures

pub returns-clause-ok : goal.returns-clause-ok
returns-clause-ok c =
    subst (λ (n : ℕ). AreNumbersUpTo c.args.entries.now n c.loop-number.index)
    (both c.loop-number.number (length c.args.entries.now) c.loop-number.auto.number-end c.loop-number-test.false) c.loop-number.invariant
