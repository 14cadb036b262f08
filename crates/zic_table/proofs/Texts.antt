-- The text of a footer is short.
use Rattle.std.proofs.Common.{◌≡◌, ℕ, ◌+◌, ◌≤◌, Bool, true, false, cond, ◌&&◌, ◌==◌, List, [], ◌∷◌, ◌++◌, length, Option, Some, None, inl, inr, refl, sym, ap, subst, arith}
use Rattle.std.specs.Prelude.{ℤ, pos, neg_ℤ, ◌+ℤ◌, ◌/◌, ◌%◌, nat_lt, nat_le, int_lt, unsigned_abs, slice_get}
use Rattle.std.specs.List.{list_all}
use Rattle.std.specs.Option.{MatchOption}
use Rattle.std.specs.Ordering.{int_eq}
use Rattle.std.proofs.lemmas.Bool.{leb-true, and_parts}
use Rattle.std.proofs.lemmas.List.{length-append}
use Rattle.zic_base.specs.Byte.{is_abbreviation_byte}
use Rattle.zic_base.specs.State.{Shown}
use Rattle.zic_base.specs.declared.constants.TheConstants.{SHORTEST_ABBREVIATION, LONGEST_ABBREVIATION}
use Rattle.zic_lines.specs.declared.rules.Rules.{Rules}
use Rattle.zic_posix.specs.Footer.{TzString}
use Rattle.zic_posix.specs.Grammar.{is_letter}
use Rattle.zic_base.specs.Digits.{two_digits}
use Rattle.zic_posix.specs.Printing.{printed_number, printed_name, printed_clock, printed_seconds, printed_signed, printed_offset, printed_day, printed_edge, printed_saving, printed_daylight, printed_rest, printed}
use Rattle.zic_posix.specs.declared.footer.DayRule.{DayRule}
use Rattle.zic_posix.specs.declared.footer.DayRule.TheVariants.{J, N, M}
use Rattle.zic_posix.specs.declared.footer.Dst.{Dst}
use Rattle.zic_posix.specs.declared.footer.Edge.{Edge}
use Rattle.zic_posix.specs.declared.footer.TheConstants.{USUAL_TIME, USUAL_SAVING}
use Rattle.zic_lines.specs.Limits.{is_abbreviation}
use Rattle.zic_states.specs.InForce.{IsInForceBy, in_force_of}
use Rattle.zic_states.specs.Zone.{Zone}
use Rattle.zic_rules.specs.Tail.{IsTailBy}
use Rattle.zic_rules.specs.Timeline.{IsWholeZone}
use Rattle.zic_rules.specs.declared.tail.TailRule.{TailRule}
use Rattle.zic_rules.proofs.Limits.{shows_within_limits}
use Rattle.zic_rules.proofs.TailHeld.{held_for_ever}
use Rattle.zic_rules.proofs.TimelineStates.{shows_held}
use Rattle.zic_footer.specs.Making.{IsMade, IsPair}
use Rattle.zic_footer.proofs.Outcomes.{sound_turns}
use Rattle.zic_footer.proofs.SaidEdges.{one_string}
use Rattle.zic_footer.proofs.TailRules.{numbered, placed}

-- ---- lengths

chosen_length : (b : Bool) (x y : List ℕ) (n : ℕ) → length x ≤ n → length y ≤ n → length (cond b x y) ≤ n
chosen_length true x y n p q = p
chosen_length false x y n p q = q

joined_length : (x y : List ℕ) (m n : ℕ) → length x ≤ m → length y ≤ n → length (x ++ y) ≤ m + n
joined_length x y m n p q = omega (arith, length-append x y)

number_length : (n : ℕ) → length (printed_number n) ≤ 3
number_length n =
    chosen_length (nat_lt n 10) _ _ 3 (omega arith) (chosen_length (nat_lt n 100) (two_digits n) ((48 + n / 100) ∷ two_digits (n % 100)) 3 (omega arith) (omega arith))

clock_length : (h m s : ℕ) → length (printed_clock h m s) ≤ 9
clock_length h m s =
    joined_length (printed_number h) _ 3 6 (number_length h)
    (chosen_length ((m == 0) && (s == 0)) [] _ 6 (omega arith)
    (joined_length (58 ∷ two_digits m) _ 3 3 (omega arith) (chosen_length (s == 0) [] _ 3 (omega arith) (omega arith))))

signed_length : (seconds : ℤ) → length (printed_signed seconds) ≤ 10
signed_length seconds =
    let n = unsigned_abs seconds in
    joined_length _ (printed_seconds n) 1 9 (chosen_length (int_lt seconds (pos 0)) (45 ∷ []) [] 1 (omega arith) (omega arith))
    (clock_length (n / 3600) (n / 60 % 60) (n % 60))

day_length : (day : DayRule) → length (printed_day day) ≤ 12
day_length (J day) = omega (arith, number_length day)
day_length (N day) = omega (arith, number_length day)
day_length (M month week weekday) =
    omega (
      arith,
      number_length month,
      number_length week,
      number_length weekday,
      length-append (printed_number month) (46 ∷ (printed_number week ++ 46 ∷ printed_number weekday)),
      length-append (printed_number week) (46 ∷ printed_number weekday),
    )

edge_length : (edge : Edge) → length (printed_edge edge) ≤ 23
edge_length edge =
    joined_length (printed_day edge.day) _ 12 11 (day_length edge.day)
    (chosen_length (int_eq edge.time USUAL_TIME) [] (47 ∷ printed_signed edge.time) 11 (omega arith) (omega (arith, signed_length edge.time)))

name_length : (name : List ℕ) → length name ≤ LONGEST_ABBREVIATION → length (printed_name name) ≤ 18
name_length name short = chosen_length (list_all is_letter name) name (60 ∷ (name ++ 62 ∷ [])) 18 (omega arith) (omega (arith, length-append name (62 ∷ [])))

daylight_length : (standard : ℤ) (dst : Dst) → length dst.name ≤ LONGEST_ABBREVIATION → length (printed_daylight standard dst) ≤ 76
daylight_length standard dst short =
    let saving = chosen_length (int_eq dst.offset (standard +ℤ USUAL_SAVING)) [] (printed_offset dst.offset) 10 (omega arith) (signed_length (neg_ℤ dst.offset)) in
    let edges = joined_length (44 ∷ printed_edge dst.start) (44 ∷ printed_edge dst.stop) 24 24 (omega (arith, edge_length dst.start)) (omega (arith, edge_length dst.stop)) in
    joined_length (printed_name dst.name ++ printed_saving standard dst.offset) (44 ∷ (printed_edge dst.start ++ 44 ∷ printed_edge dst.stop)) 28 48
    (joined_length (printed_name dst.name) (printed_saving standard dst.offset) 18 10 (name_length dst.name short) saving) edges

rest_length : (standard : ℤ) (dst : Option Dst) → MatchOption dst (Unit {0}) (λ d. length d.name ≤ LONGEST_ABBREVIATION) → length (printed_rest standard dst) ≤ 76
rest_length standard None short = omega arith
rest_length standard (Some dst) short = daylight_length standard dst short

-- its names are abbreviations
abbrev HasShortNames : TzString → Type 0
HasShortNames f = (length f.std ≤ LONGEST_ABBREVIATION) × MatchOption f.dst (Unit {0}) (λ d. length d.name ≤ LONGEST_ABBREVIATION)

text_length : (f : TzString) → HasShortNames f → length (printed f) ≤ 104
text_length f short =
    joined_length (printed_name f.std ++ printed_offset f.offset) (printed_rest f.offset f.dst) 28 76
    (joined_length (printed_name f.std) (printed_offset f.offset) 18 10 (name_length f.std short.0) (signed_length (neg_ℤ f.offset)))
    (rest_length f.offset f.dst short.1)

-- ---- names

pub abbreviation_bytes : (name : List ℕ) → is_abbreviation name ≡ true → list_all is_abbreviation_byte name ≡ true
abbreviation_bytes name e =
    (and_parts (nat_le SHORTEST_ABBREVIATION (length name) && nat_le (length name) LONGEST_ABBREVIATION) (list_all is_abbreviation_byte name) e).1

abbreviation_length : (name : List ℕ) → is_abbreviation name ≡ true → length name ≤ LONGEST_ABBREVIATION
abbreviation_length name e =
    let lengths = (and_parts (nat_le SHORTEST_ABBREVIATION (length name) && nat_le (length name) LONGEST_ABBREVIATION) (list_all is_abbreviation_byte name) e).0 in
    leb-true _ _ (and_parts (nat_le SHORTEST_ABBREVIATION (length name)) (nat_le (length name) LONGEST_ABBREVIATION) lengths).1

module _ (zone : Zone) (whole : IsWholeZone zone) where
  -- what a rule that goes on begins is shown some time, so its name is an abbreviation
  tail_name : (standard year : ℤ) (tails : List TailRule) → IsTailBy zone standard year tails → (k : ℕ) (tail : TailRule) → slice_get tails k ≡ Some tail
      → length tail.name ≤ LONGEST_ABBREVIATION
  tail_name standard year tails by k tail at =
      let (n, at_n) = numbered zone.source.rules by.line by.name by.numbers tails by.continuing by.rules k tail at in
      let (rule, is) = placed zone.source.rules by.line by.name by.numbers tails by.continuing by.rules k n tail at_n at in
      let (end, is_end) = whole.has_end in
      let (t, holds) = held_for_ever zone whole.orderly by.number by.line by.last_set.is_last end is_end by.name by.last_set.has_set n rule is.member is.continues in
      let state : Shown = record { offset = by.line.offset +ℤ rule.saving.seconds; daylight = rule.saving.daylight; name = tail.name } in
      let shows = shows_held zone by.number (Some n) by.line state by.last_set.is_last.is_line
      (record {
        in_force = in_force_of rule;
        is_in_force = subst (λ (says : Rules). IsInForceBy zone.source.rules says (Some n) (in_force_of rule)) (sym by.last_set.has_set) (rule, is.member, refl);
        offset = refl;
        daylight = refl;
        name = is.is.name;
      }) t holds in
      abbreviation_length tail.name (shows_within_limits zone whole.source whole.sound t state shows).name

  pair_names : (standard year : ℤ) (tails : List TailRule) → IsTailBy zone standard year tails → (starting ending : TailRule) → IsPair tails starting ending
      → (length starting.name ≤ LONGEST_ABBREVIATION) × (length ending.name ≤ LONGEST_ABBREVIATION)
  pair_names standard year tails by starting ending pair = elim pair.two [
    | inl e ↦ (
      tail_name standard year tails by 0 starting (ap (λ (l : List TailRule). slice_get l 0) e),
      tail_name standard year tails by 1 ending (ap (λ (l : List TailRule). slice_get l 1) e),
    )
    | inr e ↦ (
      tail_name standard year tails by 1 starting (ap (λ (l : List TailRule). slice_get l 1) e),
      tail_name standard year tails by 0 ending (ap (λ (l : List TailRule). slice_get l 0) e),
    )
  ]

  made_names : (f : TzString) → IsMade zone f → HasShortNames f
  made_names f (inl (state, for_ever, standard, e)) =
      let within = shows_within_limits zone whole.source whole.sound _ state for_ever.shows in
      subst HasShortNames (sym e) (abbreviation_length state.name within.name, tt)
  made_names f (inr (standard, starting, ending, turns, e)) =
      let (start, stop) = pair_names standard turns.year turns.tails turns.by starting ending turns.pair in
      let (sound_start, sound_stop) = sound_turns zone whole standard starting ending turns in
      subst HasShortNames (sym (one_string standard starting ending sound_start sound_stop f e)) (stop, start)

  -- the text of a footer that was made is short
  pub made_length : (f : TzString) → IsMade zone f → length (printed f) ≤ 104
  made_length f made = text_length f (made_names f made)
