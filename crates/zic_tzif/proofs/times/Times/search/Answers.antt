use Rattle.std.proofs.Common.{◌≡◌, ℕ, ◌+◌, ◌-◌, ◌<◌, w64, to_z, of_z, to_z-of_z, subst, arith}
use Rattle.zic_tzif.specs.code.Window.{IsWindow}
use Rattle.zic_tzif.proofs.Windows.{rises, split_of}
use Rattle.zic_tzif.proofs.times.Times.search.Goals as goal

below : (n : ℕ) → 7 < n → n ≡ n - 1 + 1
below n above = omega (arith, above)

lower : (n : ℕ) → n < 63 → n - 1 < 63
lower n fits = omega (arith, fits)

pub first_window-base-requires-clause-rising : goal.first_window-base-requires-clause-rising
first_window-base-requires-clause-rising c = rises c.as_slice-times.result.now c.args.self.now.times.items c.as_slice-times.ensures.value c.requires

pub loop-level-init : goal.loop-level-init
loop-level-init c = record { window = c.first_window-base.ensures; fits = c.args.self.now.levels_are.fits }

pub halve-base-requires-clause-rising : goal.halve-base-requires-clause-rising
halve-base-requires-clause-rising c = rises c.as_slice-times.result.now c.args.self.now.times.items c.as_slice-times.ensures.value c.requires

pub halve-base-requires-clause-window : goal.halve-base-requires-clause-window
halve-base-requires-clause-window c =
    subst (λ (n : ℕ). IsWindow c.as_slice-times.result.now (to_z w64 (of_z w64 c.args.t)) c.loop-level.base n) (below c.loop-level.level c.loop-level-test.true) c.loop-level.invariant.window

pub loop-level-preserved : goal.loop-level-preserved
loop-level-preserved c = record { window = c.halve-base.ensures; fits = lower c.loop-level.level c.loop-level.invariant.fits }

pub narrow-requires-clause-rising : goal.narrow-requires-clause-rising
narrow-requires-clause-rising c = rises c.as_slice-times.result.now c.args.self.now.times.items c.as_slice-times.ensures.value c.requires

pub narrow-requires-clause-window : goal.narrow-requires-clause-window
narrow-requires-clause-window c = c.loop-level.invariant.window

pub returns : goal.returns
returns c = split_of c.as_slice-times.result.now c.args.self.now.times.items _ c.args.t c.narrow.result c.as_slice-times.ensures.value (to_z-of_z c.ranges.t) c.narrow.ensures
