-- What is printed spells what it is printed from.
use Rattle.std.proofs.Common.{◌≡◌, ℕ, suc, ◌+◌, ◌*◌, ◌/◌, ◌%◌, ◌<◌, ◌≤◌, ◌⊎◌, eqb, ◌&&◌, Bool, true, false, cond, Option, Some, None, List, [], ◌∷◌, ◌++◌, ℤ, pos, negsuc, neg_ℤ, ◌+ℤ◌, ◌≤ℤ◌, unsigned_abs, refl, sym, subst, append_assoc, arith, inl, inr}
use Rattle.std.specs.Prelude.{MatchOption, int_le}
use Rattle.std.specs.List.{list_all}
use Rattle.std.specs.Ordering.{int_eq}
use Rattle.std.proofs.Math.IntN.{neg_ℤ-neg_ℤ}
use Rattle.std.proofs.lemmas.Bool.{cases_Bool, cases_lt, lt-ltb, le-ltb, le-leb, and_from, and_parts, eqb-true}
use Rattle.std.proofs.lemmas.Bool.Decides.{Decides-int_eq}
use Rattle.std.proofs.lemmas.Int.{ints}
use Rattle.std.proofs.lemmas.List.{append-nil}
use Rattle.std.proofs.lemmas.List.Sums.{AllPass-from_list_all}
use Rattle.std.proofs.lemmas.List.Elements.{All-cons, All-nil}
use Rattle.zic_posix.specs.declared.footer.DayRule.{DayRule}
use Rattle.zic_posix.specs.declared.footer.DayRule.TheVariants.{J, N, M}
use Rattle.zic_posix.specs.declared.footer.Dst.{Dst}
use Rattle.zic_posix.specs.declared.footer.Edge.{Edge}
use Rattle.zic_posix.specs.Footer.{TzString, is_of_day, version_by, version_of}
use Rattle.std.specs.Char.{is_ascii_digit}
use Rattle.zic_posix.specs.Grammar.{is_letter, SpellsName, SpellsNumber, SpellsClock, SpellsSigned, SpellsOffset, SpellsTime, SpellsDay, SpellsEdge, SpellsDaylight, Spells, IsName, IsOffset, IsDay, IsEdge, IsDaylight, IsTzString}
use Rattle.zic_base.specs.Digits.{two_digits}
use Rattle.zic_posix.specs.Printing.{printed_name, printed_number, printed_clock, printed_seconds, printed_signed, printed_offset, printed_day, printed_edge, printed_saving, printed_daylight, printed_rest, printed}
use Rattle.zic_posix.proofs.NumberLemmas.{number_by, AreDigits}
use Rattle.zic_posix.proofs.SignedLemmas.{abs_neg}

-- ---- numbers

digit_of : (n : ℕ) → n < 10 → is_ascii_digit (48 + n) ≡ true
digit_of n small = and_from _ _ (le-leb 48 (48 + n) (omega arith)) (le-leb (48 + n) 57 (omega arith))

one_more : (n : ℕ) (digits : List ℕ) → n < 10 → AreDigits digits → AreDigits ((48 + n) ∷ digits)
one_more n digits small rest = All-cons (λ b. is_ascii_digit b ≡ true) (48 + n) digits (digit_of n small) rest

two : (n : ℕ) → n < 100 → AreDigits (two_digits n)
two n small =
    one_more (n / 10) ((48 + n % 10) ∷ []) (omega arith) (one_more (n % 10) [] (omega arith) (All-nil (λ b. is_ascii_digit b ≡ true)))

two_spell : (longest least most n : ℕ) → 2 ≤ longest → n < 100 → least ≤ n → n ≤ most → SpellsNumber longest least most (two_digits n) n
two_spell longest least most n room small low high = record {
  value = number_by longest (two_digits n) n (record { some = omega arith; short = omega arith; digits = two n small; value = omega arith });
  at_least = low;
  at_most = high;
}

one_spell : (longest least most n : ℕ) → 1 ≤ longest → n < 10 → least ≤ n → n ≤ most → SpellsNumber longest least most (printed_number n) n
one_spell longest least most n room small low high =
    rw (lt-ltb n 10 small) (record {
      value = number_by longest ((48 + n) ∷ []) n
          (record { some = omega arith; short = omega arith; digits = one_more n [] small (All-nil (λ b. is_ascii_digit b ≡ true)); value = omega arith });
      at_least = low;
      at_most = high;
    })

-- a number of up to two digits
number_of_two : (longest least most n : ℕ) → 2 ≤ longest → n < 100 → least ≤ n → n ≤ most → SpellsNumber longest least most (printed_number n) n
number_of_two longest least most n room small low high =
    elim (cases_lt n 10) [
      | inl one ↦ one_spell longest least most n (omega arith) one low high
      | inr more ↦ rw (le-ltb n 10 more, lt-ltb n 100 small) (two_spell longest least most n room small low high)
    ]

-- a number of up to three digits
number_of_three : (least most n : ℕ) → n < 1000 → least ≤ n → n ≤ most → SpellsNumber 3 least most (printed_number n) n
number_of_three least most n small low high =
    elim (cases_lt n 100) [
      | inl two ↦ number_of_two 3 least most n (omega arith) two low high
      | inr more ↦ rw (le-ltb n 10 (omega arith), le-ltb n 100 more) (record {
        value = number_by 3 ((48 + n / 100) ∷ two_digits (n % 100)) n (record {
          some = omega arith;
          short = omega arith;
          digits = one_more (n / 100) (two_digits (n % 100)) (omega arith) (two (n % 100) (omega arith));
          value = omega arith;
        });
        at_least = low;
        at_most = high;
      })
    ]

-- ---- clocks

clock_spell : (longest most h m s : ℕ) → SpellsNumber longest 0 most (printed_number h) h → m ≤ 59 → s ≤ 59 → SpellsClock longest most (printed_clock h m s) (h * 3600 + m * 60 + s)
clock_spell longest most h m s hours minutes seconds =
    let m_spells = two_spell 2 0 59 m (omega arith) (omega arith) (omega arith) minutes in
    let s_spells = two_spell 2 0 59 s (omega arith) (omega arith) (omega arith) seconds in
    elim (cases_Bool ((eqb m 0) && (eqb s 0))) [
      | inl whole ↦ (
          let zeros = and_parts (eqb m 0) (eqb s 0) whole in
          rw whole (record { hours = printed_number h; h = h; m = m; s = s; spells_hours = hours; form = inl (append-nil (printed_number h), eqb-true m 0 zeros.0, eqb-true s 0 zeros.1); value = refl }))
      | inr parts ↦ rw parts (elim (cases_Bool (eqb s 0)) [
        | inl even ↦ rw even (record { hours = printed_number h; h = h; m = m; s = s; spells_hours = hours; form = inr (inl (two_digits m, refl, m_spells, eqb-true s 0 even)); value = refl })
        | inr odd ↦ rw odd (record { hours = printed_number h; h = h; m = m; s = s; spells_hours = hours; form = inr (inr (two_digits m, two_digits s, refl, m_spells, s_spells)); value = refl })
      ])
    ]

seconds_by : (longest most n : ℕ) → SpellsNumber longest 0 most (printed_number (n / 3600)) (n / 3600) → SpellsClock longest most (printed_seconds n) n
seconds_by longest most n hours =
    let whole : n / 3600 * 3600 + n / 60 % 60 * 60 + n % 60 ≡ n = omega arith in
    subst (λ (k : ℕ). SpellsClock longest most (printed_seconds n) k) whole (clock_spell longest most (n / 3600) (n / 60 % 60) (n % 60) hours (omega arith) (omega arith))

seconds_spell : (n : ℕ) → n < 90000 → SpellsClock 2 24 (printed_seconds n) n
seconds_spell n small = seconds_by 2 24 n (number_of_two 2 0 24 (n / 3600) (omega arith) (omega arith) (omega arith) (omega arith))

wide_seconds_spell : (n : ℕ) → n < 604800 → SpellsClock 3 167 (printed_seconds n) n
wide_seconds_spell n small = seconds_by 3 167 n (number_of_three 0 167 (n / 3600) (omega arith) (omega arith) (omega arith))

signed_by : (longest most : ℕ) (seconds : ℤ) → SpellsClock longest most (printed_seconds (unsigned_abs seconds)) (unsigned_abs seconds) → SpellsSigned longest most (printed_signed seconds) seconds
signed_by longest most (pos n) clock =
    rw (le-ltb n 0 (omega arith)) (record { clock = printed_seconds n; size = n; spells_clock = clock; form = inl (refl, refl) })
signed_by longest most (negsuc n) clock =
    record { clock = printed_seconds (suc n); size = suc n; spells_clock = clock; form = inr (inr (refl, refl)) }

offset_spell : (offset : ℤ) → unsigned_abs offset < 90000 → SpellsOffset (printed_offset offset) offset
offset_spell offset limit =
    (neg_ℤ offset, signed_by 2 24 (neg_ℤ offset) (seconds_spell _ (rw abs_neg limit)), sym (neg_ℤ-neg_ℤ offset))

-- ---- edges

wide_time_spell : (time : ℤ) → unsigned_abs time < 604800 → SpellsTime 3 (printed_signed time) time
wide_time_spell time limit = inr (refl, signed_by 3 167 time (wide_seconds_spell _ limit))

of_day_spell : (time : ℤ) → pos 0 ≤ℤ time → time ≤ℤ pos 86400 → SpellsTime 2 (printed_signed time) time
of_day_spell (pos n) low high =
    rw (le-ltb n 0 (omega arith)) (inl (refl, (n, seconds_spell n (omega (arith, ints)), refl)))
of_day_spell (negsuc n) low high = absurd (omega (arith, ints))

at_most_by : (a b : ℤ) → int_le a b ≡ true → a ≤ℤ b
at_most_by a b h = grind (arith, ints)

time_spell : (edge : Edge) → is_of_day edge ≡ true → SpellsTime 2 (printed_signed edge.time) edge.time
time_spell edge inside =
    let tests = and_parts (int_le (pos 0) edge.time) (int_le edge.time (pos 86400)) inside in
    of_day_spell edge.time (at_most_by (pos 0) edge.time tests.0) (at_most_by edge.time (pos 86400) tests.1)

day_spell : (day : DayRule) → IsDay day → SpellsDay (printed_day day) day
day_spell (J day) limits = (printed_number day, refl, number_of_three 1 365 day (omega arith) limits.0 limits.1)
day_spell (N day) limit = number_of_three 0 365 day (omega arith) (omega arith) limit
day_spell (M month week weekday) limits =
    (printed_number month, printed_number week, printed_number weekday, refl, number_of_two 2 1 12 month (omega arith) (omega arith) limits.0 limits.1, one_spell 1 1 5 week (omega arith) (omega arith) limits.2 limits.3, one_spell 1 0 6 weekday (omega arith) (omega arith) (omega arith) limits.4)

edge_spell : (version : ℕ) (edge : Edge) → IsEdge edge → SpellsTime version (printed_signed edge.time) edge.time → SpellsEdge version (printed_edge edge) edge
edge_spell version edge limits time =
    let day = day_spell edge.day limits.day in
    elim (cases_Bool (int_eq edge.time (pos 7200))) [
      | inl usual ↦ rw usual (record { day = printed_day edge.day; spells_day = day; form = inl (append-nil (printed_day edge.day), (Decides-int_eq edge.time (pos 7200)).0 usual) })
      | inr other ↦ rw other (record { day = printed_day edge.day; spells_day = day; form = inr (printed_signed edge.time, refl, time) })
    ]

-- ---- strings

name_spell : (name : List ℕ) → IsName name → SpellsName (printed_name name) name
name_spell name limits =
    elim (cases_Bool (list_all is_letter name)) [
      | inl letters ↦ rw letters (record { long = limits.long; form = inl (refl, AllPass-from_list_all is_letter name letters) })
      | inr other ↦ rw other (record { long = limits.long; form = inr (refl, limits.bytes) })
    ]

saving_spell : (standard offset : ℤ) → (offset ≡ standard +ℤ pos 3600) ⊎ IsOffset offset → ((printed_saving standard offset ≡ []) × (offset ≡ standard +ℤ pos 3600)) ⊎ SpellsOffset (printed_saving standard offset) offset
saving_spell standard offset limits =
    let same = Decides-int_eq offset (standard +ℤ pos 3600) in
    elim (cases_Bool (int_eq offset (standard +ℤ pos 3600))) [
      | inl usual ↦ rw usual (inl (refl, same.0 usual))
      | inr other ↦ rw other (elim limits [
        | inl usual ↦ absurd (let yes = same.1 usual in cc)
        | inr limit ↦ inr (offset_spell offset limit)
      ])
    ]

daylight_by : (version : ℕ) (standard : ℤ) (dst : Dst) → IsDaylight standard dst → SpellsTime version (printed_signed dst.start.time) dst.start.time → SpellsTime version (printed_signed dst.stop.time) dst.stop.time → SpellsDaylight version standard (printed_daylight standard dst) dst
daylight_by version standard dst limits start stop = record {
  name = printed_name dst.name;
  offset = printed_saving standard dst.offset;
  start = printed_edge dst.start;
  stop = printed_edge dst.stop;
  parts = append_assoc (printed_name dst.name) (printed_saving standard dst.offset) (44 ∷ (printed_edge dst.start ++ 44 ∷ printed_edge dst.stop));
  spells_name = name_spell dst.name limits.name;
  spells_offset = saving_spell standard dst.offset limits.offset;
  spells_start = edge_spell version dst.start limits.start start;
  spells_stop = edge_spell version dst.stop limits.stop stop;
}

daylight_spell : (standard : ℤ) (dst : Dst) → IsDaylight standard dst → SpellsDaylight (version_by (Some dst)) standard (printed_daylight standard dst) dst
daylight_spell standard dst limits =
    elim (cases_Bool (is_of_day dst.start && is_of_day dst.stop)) [
      | inl both ↦ (
          let days = and_parts (is_of_day dst.start) (is_of_day dst.stop) both in
          rw both (daylight_by 2 standard dst limits (time_spell dst.start days.0) (time_spell dst.stop days.1)))
      | inr other ↦ rw other (daylight_by 3 standard dst limits (wide_time_spell dst.start.time limits.start.time) (wide_time_spell dst.stop.time limits.stop.time))
    ]

rest_spell : (standard : ℤ) (dst : Option Dst) → MatchOption dst (Unit {0}) (IsDaylight standard) → MatchOption dst (printed_rest standard dst ≡ []) (SpellsDaylight (version_by dst) standard (printed_rest standard dst))
rest_spell standard None limits = refl
rest_spell standard (Some dst) limits = daylight_spell standard dst limits

one_of_two : (b : Bool) → let v : ℕ = cond b 2 3 in (v ≡ 2) ⊎ (v ≡ 3)
one_of_two true = inl refl
one_of_two false = inr refl

known_version : (dst : Option Dst) → (version_by dst ≡ 2) ⊎ (version_by dst ≡ 3)
known_version None = inl refl
known_version (Some dst) = one_of_two (is_of_day dst.start && is_of_day dst.stop)

-- what is printed spells the string
pub printed_spells : (f : TzString) → IsTzString f → Spells (version_of f) (printed f) f
printed_spells f limits = record {
  name = printed_name f.std;
  offset = printed_offset f.offset;
  rest = printed_rest f.offset f.dst;
  known = known_version f.dst;
  parts = append_assoc (printed_name f.std) (printed_offset f.offset) (printed_rest f.offset f.dst);
  spells_name = name_spell f.std limits.std;
  spells_offset = offset_spell f.offset limits.offset;
  spells_rest = rest_spell f.offset f.dst limits.dst;
}
