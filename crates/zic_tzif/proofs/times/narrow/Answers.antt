use Rattle.std.proofs.Common.{◌≡◌, ℕ, ◌+◌, ◌-◌, ◌<◌, ◌≤◌, w64, to_z, of_z, subst, arith}
use Rattle.std.specs.Prelude.{min}
use Rattle.zic_tzif.specs.code.Window.{IsWindow}
use Rattle.zic_tzif.proofs.times.narrow.Goals as goal

-- the level of a window before and after a halving, where `rest` were left before it
halved : (rest level : ℕ) → 0 < rest → rest - 1 < level → min rest level ≡ rest - 1 + 1
halved rest level some below = omega (arith, some, below)

lower : (rest level : ℕ) → rest - 1 < level → rest - 1 ≡ min (rest - 1) level
lower rest level below = omega (arith, below)

sound_content : (rest level : ℕ) → level ≤ rest - 1 → min rest level ≡ min (rest - 1) level
sound_content rest level above = omega (arith, above)

fewer : (rest : ℕ) → rest ≤ 7 → rest - 1 ≤ 7
fewer rest short = omega (arith, short)

pub halve-base-requires-clause-rising : goal.halve-base-requires-clause-rising
halve-base-requires-clause-rising c = c.requires.rising

pub halve-base-requires-clause-window : goal.halve-base-requires-clause-window
halve-base-requires-clause-window c =
    subst (λ (n : ℕ). IsWindow c.args.times.now (to_z w64 (of_z w64 c.args.t)) c.loop-rest.base n)
    (halved c.loop-rest.rest c.args.level c.loop-rest-test.true c.if-rest-level.true) c.loop-rest.invariant.window

pub loop-rest-preserved-then-rest-level : goal.loop-rest-preserved-then-rest-level
loop-rest-preserved-then-rest-level c = record {
  window = subst (λ (n : ℕ). IsWindow c.args.times.now (to_z w64 (of_z w64 c.args.t)) c.halve-base.result n) (lower c.loop-rest.rest c.args.level c.if-rest-level.true) c.halve-base.ensures;
  short = fewer c.loop-rest.rest c.loop-rest.invariant.short;
}

pub loop-rest-preserved : goal.loop-rest-preserved
loop-rest-preserved c = record {
  window = subst (λ (n : ℕ). IsWindow c.args.times.now (to_z w64 (of_z w64 c.args.t)) c.loop-rest.base n) (sound_content c.loop-rest.rest c.args.level c.if-rest-level.false) c.loop-rest.invariant.window;
  short = fewer c.loop-rest.rest c.loop-rest.invariant.short;
}
