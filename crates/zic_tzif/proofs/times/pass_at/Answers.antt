use Rattle.std.proofs.Common.{◌≡◌, ◌-◌, ◌<◌, true, false, ℤ, pos, ◌<ℤ◌, ◌≤ℤ◌, inl, inr, length, get_or, FitsSigned, w64, to_z-of_z, arith, rules}
use Rattle.std.specs.Prelude.{int_lt}
use Rattle.std.proofs.lemmas.Int.{ints}
use borrow.Author.Differences.{lt-true, lt-false}
use Rattle.zic_tzif.proofs.Windows.{split_at}
use Rattle.zic_tzif.proofs.times.pass_at.Goals as goal
use Rattle.zic_tzif.proofs.times.pass_at.Goals.{else-place-gt0-via-then-place-gt0+else-t-times, else-place-gt0-via-else-place-gt0}

not_before : (a b : ℤ) → int_lt a b ≡ false → b ≤ℤ a
not_before a b e = omega (arith, ints, lt-false a b e)

before : (a b : ℤ) → int_lt a b ≡ true → a <ℤ b
before a b e = omega (arith, ints, lt-true a b e)

pub returns-then-place-times : goal.returns-then-place-times
returns-then-place-times c = λ yes.
    let times = c.args.times.now in
    let place = c.args.place in
    let t = c.args.t in
    let come : 0 < place → get_or times (place - 1) (pos 0) ≤ℤ t = elim c.else-place-gt0.branch [
      | else-place-gt0-via-then-place-gt0+else-t-times w ↦ λ some.
          let inside = c.requires.inside in
          let within : place - 1 < length times = omega (arith, some, inside) in
          let member : FitsSigned w64 (get_or times (place - 1) (pos 0)) = search rules in
          not_before t (get_or times (place - 1) (pos 0)) (rw (to_z-of_z c.ranges.t, to_z-of_z member) at w.if-t-times.false)
      | else-place-gt0-via-else-place-gt0 w ↦ λ some. let none = w.if-place-gt0.false in absurd (omega (arith, some, none))
    ] in
    split_at times t c.requires.rising place c.requires.inside come (inl c.if-place-times.true)

pub returns-else-place-times : goal.returns-else-place-times
returns-else-place-times c = λ yes.
    let times = c.args.times.now in
    let place = c.args.place in
    let t = c.args.t in
    let inside = c.requires.inside in
    let come : 0 < place → get_or times (place - 1) (pos 0) ≤ℤ t = elim c.else-place-gt0.branch [
      | else-place-gt0-via-then-place-gt0+else-t-times w ↦ λ some.
          let within : place - 1 < length times = omega (arith, some, inside) in
          let member : FitsSigned w64 (get_or times (place - 1) (pos 0)) = search rules in
          not_before t (get_or times (place - 1) (pos 0)) (rw (to_z-of_z c.ranges.t, to_z-of_z member) at w.if-t-times.false)
      | else-place-gt0-via-else-place-gt0 w ↦ λ some. let none = w.if-place-gt0.false in absurd (omega (arith, some, none))
    ] in
    let other = c.if-place-times.false in
    let within : place < length times = omega (arith, inside, other) in
    let member : FitsSigned w64 (get_or times place (pos 0)) = search rules in
    split_at times t c.requires.rising place inside come (inr (before t (get_or times place (pos 0)) (rw (to_z-of_z c.ranges.t, to_z-of_z member) at yes)))
