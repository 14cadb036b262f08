-- What a pass keeps, over each call.
use Rattle.std.proofs.Common.{◌≡◌, ℕ, ◌+◌, ◌-◌, ◌<◌, ◌≤◌, Bool, true, false, ◌||◌, nat_le, [], ◌∷◌, length, refl, sym, ap, ◌∙◌, subst, arith, length-append}
use Rattle.std.proofs.lemmas.Bool.Decides.{nat_tests}
use mathlib.Core.Option.{some-ne-none}
use Rattle.zic_pieces.specs.declared.pass.Known.{Known}
use Rattle.zic_pieces.specs.Events.{past}
use Rattle.zic_pieces.specs.Given.{given}
use Rattle.zic_pieces.specs.code.Whole.{is_whole}
use Rattle.zic_pieces.specs.Core.{drew, reported, glanced, left, right, both}
use Rattle.zic_pieces.specs.Passes.{IsSound}
use Rattle.zic_pieces.specs.code.Rule.{Sat, IsBetweenCalls}
use Rattle.zic_pieces.proofs.Givens.{given_append, whole_append, given_draws, given_do, given_skip, given_end, given_report, given_glance, whole_claim, whole_end, whole_report, whole_glance}

module _ (m m' : Sat) (room count : ℕ) (ended : Bool) (k : IsBetweenCalls m room ended count) where
  -- a draw past the last piece
  pub between_end : (i : ℕ) → m.0.pieces ≤ i → m'.0 ≡ drew i m.0 → IsSound m'.0 → m'.1 ≡ m.1 → IsBetweenCalls m' room true count
  between_end i high is sound slots =
      let over : nat_le m.0.pieces i ≡ true = grind (arith, nat_tests) in
      subst (λ (u : Known). IsBetweenCalls (u, m'.1) room true count) (sym is) (
        slots ∙ k.0,
        k.1,
        over,
        k.3 ∙ ap length (sym (given_end m.0.pieces i m.0.seen m.0.events k.4)),
        whole_end m.0.pieces i m.0.seen m.0.events k.4 high,
        subst IsSound is sound,
      )

  pub between_report : (i : ℕ) → m'.0 ≡ reported i m.0 → IsSound m'.0 → m'.1 ≡ m.1 → IsBetweenCalls m' room ended count
  between_report i is sound slots = subst (λ (u : Known). IsBetweenCalls (u, m'.1) room ended count) (sym is) (
    slots ∙ k.0,
    k.1,
    k.2,
    k.3 ∙ ap length (sym (given_report m.0.pieces i m.0.events k.4)),
    whole_report m.0.pieces i m.0.events k.4,
    subst IsSound is sound,
  )

  pub between_glance : (g : ℕ) → m'.0 ≡ glanced g m.0 → IsSound m'.0 → m'.1 ≡ m.1 → IsBetweenCalls m' room ended count
  between_glance g is sound slots = subst (λ (u : Known). IsBetweenCalls (u, m'.1) room ended count) (sym is) (
    slots ∙ k.0,
    k.1,
    k.2,
    k.3 ∙ ap length (sym (given_glance m.0.pieces g (past m.0.events) m.0.events k.4)),
    whole_glance m.0.pieces g (past m.0.events) m.0.events k.4,
    subst IsSound is sound,
  )

  -- a draw of a piece and the glance after it
  module _ (i g : ℕ) (low : i < m.0.pieces) (goes : ended ≡ false) (is : m'.0 ≡ glanced g (drew i m.0)) (sound : IsSound m'.0) (slots : m'.1 ≡ m.1) where
    open_still : nat_le m.0.pieces i ≡ ended
    open_still = let off : nat_le m.0.pieces i ≡ false = grind (arith, nat_tests) in off ∙ sym goes

    pub between_skip : g < i → IsBetweenCalls m' room ended count
    between_skip less = subst (λ (u : Known). IsBetweenCalls (u, m'.1) room ended count) (sym is) (
      slots ∙ k.0,
      k.1,
      open_still,
      k.3 ∙ ap length (sym (given_skip m.0.pieces i m.0.seen g (past (drew i m.0).events) m.0.events k.4 less)),
      whole_claim m.0.pieces i m.0.seen g (past (drew i m.0).events) m.0.events k.4,
      subst IsSound is sound,
    )

    more_given : i ≤ g → count + 1 ≡ length (given m.0.pieces (glanced g (drew i m.0)).events)
    more_given le =
        let count_is = k.3 in
        let one = ap length (given_do m.0.pieces i m.0.seen g (past (drew i m.0).events) m.0.events k.4 low le) in
        let l = length-append (given m.0.pieces m.0.events) (i ∷ []) in
        omega arith

    pub between_do : i ≤ g → IsBetweenCalls m' room ended (count + 1)
    between_do le = subst (λ (u : Known). IsBetweenCalls (u, m'.1) room ended (count + 1)) (sym is) (
      slots ∙ k.0,
      k.1,
      open_still,
      more_given le,
      whole_claim m.0.pieces i m.0.seen g (past (drew i m.0).events) m.0.events k.4,
      subst IsSound is sound,
    )

-- no more numbers are given than there are pieces and passes
pub given_fits : (v : Known) → IsSound v → length (given v.pieces v.events) ≤ v.pieces + 1024
given_fits v sound = let d = given_draws v.pieces v.events in let f = sound.few in omega arith

-- a pass that another was split from, and that other
pub between_left : (m : Sat) (room count : ℕ) (ended : Bool) → IsBetweenCalls m room ended count → 0 < room → IsBetweenCalls (left m.0, m.1) (room - 1) ended count
between_left m room count ended k more = (
  k.0,
  (let p = k.1 in omega arith),
  k.2,
  k.3,
  k.4,
  (let s = k.5 in record { once = s.once; heard = s.heard; within = s.within; notified = s.notified; found = s.found; bounded = s.bounded; few = s.few; parts = (let p = s.parts in omega arith) }),
)

pub between_right : (m : Sat) (room count : ℕ) (ended : Bool) → IsBetweenCalls m room ended count → IsBetweenCalls (right m.0, []) 0 ended 0
between_right m room count ended k = (
  refl,
  refl,
  k.2,
  refl,
  refl,
  record { once = λ x. omega arith; heard = λ i s g b d. absurd (some-ne-none _ (sym d.1)); within = k.5.within; notified = λ i h. absurd (some-ne-none _ (sym h.1)); found = λ g b h. absurd (some-ne-none _ (sym h.1)); bounded = omega arith; few = omega arith; parts = omega arith },
)

-- two passes that were joined
pub between_both : (m l : Sat) (room_m room_l given_m given_l : ℕ) (ended_m ended_l : Bool) → IsBetweenCalls m room_m ended_m given_m → IsBetweenCalls l room_l ended_l given_l → m.0.pieces ≡ l.0.pieces → IsSound (both m.0 l.0)
    → IsBetweenCalls (both m.0 l.0, m.1) (room_m + room_l + 1) (ended_m || ended_l) (given_m + given_l)
between_both m l room_m room_l given_m given_l ended_m ended_l k j same sound =
    let n : ℕ = m.0.pieces in
    let theirs : given_l ≡ length (given n l.0.events) = j.3 ∙ ap (λ x. length (given x l.0.events)) (sym same) in
    let whole : is_whole n l.0.events ≡ true = ap (λ x. is_whole x l.0.events) same ∙ j.4 in
    let ours = k.3 in
    let parts_m = k.1 in
    let parts_l = j.1 in
    let all = ap length (given_append n m.0.events l.0.events k.4) in
    let sum = length-append (given n m.0.events) (given n l.0.events) in
    (k.0, omega arith, (λ i. k.2 i || j.2 i), omega arith, whole_append n m.0.events l.0.events k.4 whole, sound)
