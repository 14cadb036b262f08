-- The string of a pair of rules.
use Rattle.std.proofs.Common.{◌≡◌, inl, inr, true, false, List, ℕ, [], ◌∷◌, Result, Ok, Err, Some, sym, ap, subst, arith}
use Rattle.std.specs.Prelude.{ℤ, ◌+ℤ◌, IfOk, slice_get}
use Rattle.zic_base.specs.declared.stops.ZoneStop.{ZoneStop}
use Rattle.zic_posix.specs.Footer.{TzString}
use Rattle.zic_posix.specs.Grammar.{IsName, IsEdge, IsDaylight, IsTzString}
use Rattle.zic_posix.specs.declared.footer.Dst.{Dst}
use Rattle.zic_rules.specs.declared.tail.TailRule.{TailRule}
use Rattle.zic_footer.specs.Making.{IsPair, IsWide}
use Rattle.zic_footer.specs.code.Edges.{edge_of, daylight_part, by_rules}
use Rattle.zic_footer.specs.declared.maker.Pair.{Pair}
use Rattle.zic_footer.specs.code.Turns.{IsSoundTail, AreSoundTails, FollowInTurn, TakeTurns, HasWideEdges, IsMadeOf}
use Rattle.zic_footer.proofs.DayForms.{day_of_form-is}

-- ---- limits

-- an edge whose time can be said
pub is_edge : (standard saved : ℤ) (rule : TailRule) → IsSoundTail standard rule → IsWide (edge_of standard rule saved) → IsEdge (edge_of standard rule saved)
is_edge standard saved rule sound wide = record {
  day = day_of_form-is rule.moment.month rule.moment.on sound.yearly.sound.month sound.yearly.fits;
  time = wide;
}

-- the string keeps the limits
pub is_string : (standard : ℤ) (starting ending : TailRule) → IsSoundTail standard starting → IsSoundTail standard ending
    → IsName starting.name → IsName ending.name → IsWide (edge_of standard starting ending.saving.seconds)
    → IsWide (edge_of standard ending starting.saving.seconds) → IsTzString (by_rules standard starting ending)
is_string standard starting ending sound_start sound_stop name std start stop =
    let daylight : IsDaylight (standard +ℤ ending.saving.seconds) (daylight_part standard starting ending) = record {
      name = name;
      offset = inr (let within = sound_start.offset in omega arith);
      start = is_edge standard ending.saving.seconds starting sound_start start;
      stop = is_edge standard starting.saving.seconds ending sound_stop stop;
    } in
    record { std = std; offset = let within = sound_stop.offset in omega arith; dst = daylight }

-- by its parts
pub same_string : (standard offset : ℤ) (starting ending : TailRule) (std : List ℕ) (dst : Dst) → std ≡ ending.name
    → offset ≡ standard +ℤ ending.saving.seconds → dst ≡ daylight_part standard starting ending
    → Path TzString (record { std = std; offset = offset; dst = Some dst }) (by_rules standard starting ending)
same_string standard offset starting ending std dst name is part = λ k. record { std = name k; offset = is k; dst = Some (part k) }

-- ---- pairs of a tail

-- the rules of a pair are sound
pub sound_pair : (standard : ℤ) (tails : List TailRule) (starting ending : TailRule) → AreSoundTails standard tails → IsPair tails starting ending
    → IsSoundTail standard starting × IsSoundTail standard ending
sound_pair standard tails starting ending sound pair = elim pair.two [
  | inl e ↦ (sound.each 0 starting (ap (λ (ts : List TailRule). slice_get ts 0) e), sound.each 1 ending (ap (λ (ts : List TailRule). slice_get ts 1) e))
  | inr e ↦ (sound.each 1 starting (ap (λ (ts : List TailRule). slice_get ts 1) e), sound.each 0 ending (ap (λ (ts : List TailRule). slice_get ts 0) e))
]

same_two : (a b x y : TailRule) (tails : List TailRule) → tails ≡ a ∷ b ∷ [] → tails ≡ x ∷ y ∷ [] → (x ≡ a) × (y ≡ b)
same_two a b x y tails e f = (cc, cc)

other_flag : (a x : TailRule) → a.saving.daylight ≡ true → x.saving.daylight ≡ false → a ≡ x → ⊥
other_flag a x day night e = cc

-- and a tail has one pair
pub one_pair : (tails : List TailRule) (a b x y : TailRule) → IsPair tails a b → IsPair tails x y → (x ≡ a) × (y ≡ b)
one_pair tails a b x y pair other = elim pair.two [
  | inl e ↦ elim other.two [
    | inl f ↦ same_two a b x y tails e f
    | inr f ↦ absurd (other_flag a y pair.daylight other.standard (sym (same_two a b y x tails e f).0))
  ]
  | inr e ↦ elim other.two [
    | inl f ↦ absurd (other_flag a y pair.daylight other.standard (sym (same_two b a x y tails e f).1))
    | inr f ↦ let (q, p) = same_two b a y x tails e f in (p, q)
  ]
]

module _ (standard : ℤ) (tails : List TailRule) (p : Pair) (pair : IsPair tails p.starting.now p.ending.now) where
  -- where the pair follows in turn and its edges can be said, it takes turns
  takes_turns : FollowInTurn p.starting.now.moment p.ending.now.moment → HasWideEdges standard p → TakeTurns standard tails p.starting.now p.ending.now
  takes_turns in_turn wide = record { pair = pair; in_turn = in_turn; start = wide.start; stop = wide.stop }

  pub pair_made : FollowInTurn p.starting.now.moment p.ending.now.moment → (r : Result TzString ZoneStop)
      → IfOk r (λ f. f ≡ by_rules standard p.starting.now p.ending.now) → IfOk r (λ _. HasWideEdges standard p) → IfOk r (IsMadeOf standard tails)
  pair_made in_turn (Ok f) is wide = (p.starting.now, p.ending.now, takes_turns in_turn wide, is)
  pair_made in_turn (Err e) is wide = tt

  -- else no two rules do
  module _ (starting ending : TailRule) (turns : TakeTurns standard tails starting ending) where
    same : (starting ≡ p.starting.now) × (ending ≡ p.ending.now)
    same = one_pair tails p.starting.now p.ending.now starting ending pair turns.pair

    pub they_follow : FollowInTurn p.starting.now.moment p.ending.now.moment
    they_follow =
        subst (λ (x : TailRule). FollowInTurn p.starting.now.moment x.moment) same.1 (subst (λ (x : TailRule). FollowInTurn x.moment ending.moment) same.0 turns.in_turn)

    edge_wide : (x y : TailRule) (a b : TailRule) → x ≡ a → y ≡ b → IsWide (edge_of standard x y.saving.seconds) → IsWide (edge_of standard a b.saving.seconds)
    edge_wide x y a b e f wide =
        subst (λ (z : TailRule). IsWide (edge_of standard a z.saving.seconds)) f (subst (λ (z : TailRule). IsWide (edge_of standard z y.saving.seconds)) e wide)

    pub they_are_wide : HasWideEdges standard p
    they_are_wide = record {
      start = edge_wide starting ending p.starting.now p.ending.now same.0 same.1 turns.start;
      stop = edge_wide ending starting p.ending.now p.starting.now same.1 same.0 turns.stop;
    }
