-- A line's periods added to those before it.
use Rattle.std.proofs.Common.{◌≡◌, ℕ, zero, suc, ◌<◌, ◌≤◌, List, [], ◌∷◌, ◌++◌, length, map, get_or, Option, Some, None, refl, sym, ap, subst, ◌∙◌, arith, append_assoc, length-append, ⊎_elim, to_z, of_z, w64, ℤ, pos, ◌+ℤ◌, ◌<ℤ◌, ◌≤ℤ◌}
use mir.Val.{SFits}
use Rattle.std.specs.Prelude.{All, Contains, filter, flat_map, int_le, IfSome}
use Rattle.std.specs.Int.{int_max}
use Rattle.std.specs.Option.{ForSome}
use Rattle.std.proofs.lemmas.Int.{ints, by_lt_z}
use Rattle.std.proofs.lemmas.List.Elements.{All-nil, All-tail, All-weaker, filter-append, filter_passes}
use Rattle.std.proofs.lemmas.Option.{slice_get-get_or}
use Rattle.zic_lines.specs.declared.zone_line.ZoneLine.{ZoneLine}
use Rattle.zic_source.specs.Sound.{IsSoundSource}
use Rattle.zic_source.specs.Source.{ZoneLines, zone_at, lines_of_zone}
use Rattle.zic_base.proofs.Elements.{cons_cases, contains_got, got}
use Rattle.zic_states.specs.declared.occurrence.TimedOccurrence.{TimedOccurrence}
use Rattle.zic_states.specs.ByList.{AreRising, before, not_after, rule_at}
use Rattle.zic_states.specs.Zone.{Zone, line_at, HasInForce}
use Rattle.zic_states.proofs.Lines.{line_at_is}
use Rattle.zic_states.proofs.Filters.{int_le-true, not_after_from_test, into_filter}
use Rattle.zic_rules.specs.declared.line.Period.{Period}
use Rattle.zic_rules.specs.code.Period.{Holds}
use Rattle.zic_rules.specs.code.Held.{AreHeld, HeldTo, AreSoFar, last_line}
use Rattle.zic_rules.specs.code.Line.{GivesInForce, IsLineTo, IsEndOfWindow, period_at}
use Rattle.zic_rules.specs.code.End.{IsInYears}
use Rattle.zic_rules.proofs.Years.{small}
use Rattle.zic_rules.proofs.Held.{joined, last_line_joined}
use Rattle.zic_rules.proofs.Mine.{filter_all, rising_tail, held_by_each}

-- ---- the number of lines

part_of : {X A : Type 0} (f : X → List A) (xs : List X) (x : X) → Contains xs x → length (f x) ≤ length (flat_map f xs)
part_of f [] x has = absurd (omega (arith, has.1))
part_of f (y ∷ ys) x has = ⊎_elim
    (λ same. let equal : length (f y) ≡ length (f x) = ap (λ (z : _). length (f z)) same in omega (arith, length-append (f y) (flat_map f ys)))
    (λ later. let less = part_of f ys x later in omega (arith, less, length-append (f y) (flat_map f ys)))
    (cons_cases y ys x has)

-- a zone has at most 10,000 lines
pub few_lines : (zone : Zone) (lines : ZoneLines) → IsSoundSource zone.source → zone_at zone.source zone.number ≡ Some lines → length (lines_of_zone lines) ≤ 10_000
few_lines zone lines sound is =
    let part = part_of lines_of_zone zone.source.zones lines (contains_got zone.source.zones zone.number lines is) in
    omega (arith, part, sound.few_zone_lines)

-- ---- lists

rising_after : (xs ys : List TimedOccurrence) → AreRising (xs ++ ys) → AreRising ys
rising_after [] ys rising = rising
rising_after (x ∷ xs) ys rising = let tail = rising_tail x (xs ++ ys) rising in rising_after xs ys tail.0

all_after : (P : TimedOccurrence → Type 0) (xs ys : List TimedOccurrence) → All P (xs ++ ys) → All P ys
all_after P [] ys all = all
all_after P (x ∷ xs) ys all = all_after P xs ys (All-tail P x (xs ++ ys) all)

not_after_all : (mine : List TimedOccurrence) (t : ℤ) → All (λ x. x.instant ≤ℤ t) (not_after mine t)
not_after_all mine t = λ i d within. not_after_from_test (get_or (not_after mine t) i d).instant t (filter_passes (λ (x : TimedOccurrence). int_le x.instant t) mine i d within)

-- what stands after those that aren't after an instant comes after it
late : (mine rest : List TimedOccurrence) (t : ℤ) → not_after mine t ++ rest ≡ mine → All (λ x. t <ℤ x.instant) rest
late mine rest t split k d within =
    let test = λ (x : TimedOccurrence). int_le x.instant t in
    let done = not_after mine t in
    let x = get_or rest k d in
    by_lt_z t x.instant
    (λ lt. lt)
    (λ le.
    let has = contains_got rest k x (slice_get-get_or rest k d within) in
    let in_force = into_filter test rest x has (int_le-true x.instant t le) in
    let own : filter test done ≡ done = filter_all test done (λ i c inside. filter_passes test mine i c inside) in
    let whole : done ++ filter test rest ≡ done = ap (λ (l : List TimedOccurrence). l ++ filter test rest) (sym own) ∙ sym (filter-append test done rest) ∙ ap (filter test) split in
    let lengths : length (done ++ filter test rest) ≡ length done = ap length whole in
    absurd (omega (arith, lengths, in_force.1, length-append done (filter test rest))))

pub last_line_of_each : (n : ℕ) (xs : List TimedOccurrence) → last_line n (map (period_at n) xs) ≡ n
last_line_of_each n [] = refl
last_line_of_each n (x ∷ xs) = last_line_of_each n xs

-- ---- the Zone line

holds_first : (zone : Zone) (end : ℤ) (line : ZoneLine) (mine : List TimedOccurrence) → line_at zone 0 ≡ Some line → IsLineTo zone 0 None end mine
    → (t : ℤ) → t <ℤ end → Holds zone t 0 (rule_at mine t)
unfolding HasInForce
holds_first zone end line mine at is t lt =
    let gives = is.gives line at in
    record {
      line = line;
      governs = is.governs line at t tt lt;
      of_line = gives.is_rule t;
      keeps = λ in_force by. gives.keeps t in_force lt by;
    }

pub added_first : (zone : Zone) (number : ℕ) (end : ℤ) (line : ZoneLine) (mine : List TimedOccurrence) (old new : List Period) → line_at zone number ≡ Some line
    → AreSoFar zone number None old → IsLineTo zone number None end mine → new ≡ old ++ map (period_at number) mine → HeldTo zone number end new
added_first zone (suc i) end line mine old new at so_far is e = absurd so_far
added_first zone zero end line mine old new at so_far is e =
    let gives = is.gives line at in
    let whole : new ≡ map (period_at 0) mine = e ∙ ap (λ (l : List Period). l ++ map (period_at 0) mine) so_far in
    let held = held_by_each zone 0 end (λ t. t) mine (λ t. omega (arith, ints)) [] mine None refl
    (λ t from lt. holds_first zone end line mine at is t lt)
    (λ t from. All-nil (λ x. x.instant ≤ℤ t))
    (λ t k d within lt. lt)
    gives.rising is.before_end (λ k d within. tt)
    in
    subst (HeldTo zone 0 end) (sym whole) (record { held = held; last = last_line_of_each 0 mine })

-- ---- a line that follows another

up : (t w : ℤ) → t ≤ℤ int_max t w
up t w = grind (arith, ints)

to_window : (t w : ℤ) → w ≤ℤ int_max t w
to_window t w = grind (arith, ints)

before_both : (t w u : ℤ) → t <ℤ u → w <ℤ u → int_max t w <ℤ u
before_both t w u lt less = grind (arith, ints)

both_before : (t w u v : ℤ) → t <ℤ u → w <ℤ v → int_max t w <ℤ int_max u v
both_before t w u v lt less = grind (arith, ints)

module _ (zone : Zone) (i : ℕ) (start end window : ℤ) (line : ZoneLine) (mine : List TimedOccurrence) (at : line_at zone (suc i) ≡ Some line)
    (is : IsLineTo zone (suc i) (Some start) end mine) (is_window : IsEndOfWindow zone (suc i) line window) (to : window <ℤ (start +ℤ pos 432_000)) where
  holds_later : (t : ℤ) → start ≤ℤ t → t <ℤ end → Holds zone t (suc i) (rule_at mine (int_max t window))
  unfolding HasInForce
  holds_later t from lt =
      let gives = is.gives line at in
      record {
        line = line;
        governs = is.governs line at t from lt;
        of_line = gives.is_rule (int_max t window);
        keeps = λ in_force by. (window, is_window, gives.keeps (int_max t window) in_force (both_before t window end (start +ℤ pos 432_000) lt to) by);
      }

  held_later : (rest : List TimedOccurrence) → start ≤ℤ window → not_after mine window ++ rest ≡ mine
      → AreHeld zone end (Some start) (suc i) (rule_at mine window) (map (period_at (suc i)) rest)
  held_later rest from split =
      let gives = is.gives line at in
      let after = late mine rest window split in
      held_by_each zone (suc i) end (λ t. int_max t window) mine (λ t. up t window) (not_after mine window) rest (Some start) split
      holds_later
      (λ t le. All-weaker (λ x. x.instant ≤ℤ window) (λ x. x.instant ≤ℤ int_max t window) (λ x early. let more = to_window t window in omega (arith, ints)) (not_after mine window) (not_after_all mine window))
      (λ t k d within lt. before_both t window (get_or rest k d).instant lt (after k d within))
      (rising_after (not_after mine window) rest (subst AreRising (sym split) gives.rising))
      (all_after (λ x. x.instant <ℤ end) (not_after mine window) rest (subst (All (λ x. x.instant <ℤ end)) (sym split) is.before_end))
      (All-weaker (λ x. window <ℤ x.instant) (λ x. start <ℤ x.instant) (λ x lt. omega (arith, ints)) rest after)

pub added_later : (zone : Zone) (number : ℕ) (start end window : ℤ) (line : ZoneLine) (mine rest : List TimedOccurrence) (s : Period) (old new : List Period) → line_at zone number ≡ Some line
    → AreSoFar zone number (Some start) old → IsLineTo zone number (Some start) end mine → IsEndOfWindow zone number line window
    → start ≤ℤ window → window <ℤ (start +ℤ pos 432_000) → start <ℤ end → not_after mine window ++ rest ≡ mine
    → s ≡ record { from = start; line = number; rule = rule_at mine window } → new ≡ (old ++ s ∷ []) ++ map (period_at number) rest → HeldTo zone number end new
added_later zone zero start end window line mine rest s old new at so_far is is_window from to lt split first e = absurd so_far
added_later zone (suc i) start end window line mine rest s old new at so_far is is_window from to lt split first e =
    let one : Period = record { from = start; line = suc i; rule = rule_at mine window } in
    let more = map (period_at (suc i)) rest in
    let whole : new ≡ old ++ one ∷ more = e ∙ append_assoc old (s ∷ []) more ∙ ap (λ (x : Period). old ++ x ∷ more) first in
    let held = joined zone start end None 0 None old one more refl lt tt so_far.1.held (held_later zone i start end window line mine at is is_window to rest from split) in
    subst (HeldTo zone (suc i) end) (sym whole) (record {
      held = held;
      last = last_line_joined 0 old (one ∷ more) ∙ last_line_of_each (suc i) rest;
    })

-- ---- what the code has

-- The zone has a line of this number.
pub record HasLine (zone : Zone) (number : ℕ) : Type 0 where
  pub lines : ZoneLines
  pub are : zone_at zone.source zone.number ≡ Some lines
  pub within : number < length (lines_of_zone lines)
  pub line : ZoneLine
  pub at : line_at zone number ≡ Some line

pub has_line : (zone : Zone) (number : ℕ) → zone.number < length zone.source.zones
    → ForSome (zone_at zone.source zone.number) (λ lines. number < length (lines_of_zone lines)) → HasLine zone number
has_line zone number there h =
    let found = got zone.source.zones zone.number there in
    let within : number < length (lines_of_zone found.0) = h found.0 found.1 in
    let line = got (lines_of_zone found.0) number within in
    record { lines = found.0; are = found.1; within = within; line = line.0; at = line_at_is zone found.0 number found.1 ∙ line.1 }

gives_sooner : (zone : Zone) (sooner later : ℤ) (line : ZoneLine) (xs : List TimedOccurrence) → sooner ≤ℤ later → GivesInForce zone later line xs → GivesInForce zone sooner line xs
gives_sooner zone sooner later line xs le gives = record {
  rising = gives.rising;
  is_rule = gives.is_rule;
  keeps = λ t in_force lt by. gives.keeps t in_force (omega (arith, ints)) by;
}

-- the window asks for no more than the line tells
pub gives_to_window : (zone : Zone) (number : ℕ) (start end : ℤ) (mine : List TimedOccurrence) → HasLine zone number → IsLineTo zone number (Some start) end mine
    → IfSome (line_at zone number) (λ line. GivesInForce zone (start +ℤ pos 432_000) line mine)
gives_to_window zone number start end mine has is =
    subst (λ (o : Option ZoneLine). IfSome o (λ line. GivesInForce zone (start +ℤ pos 432_000) line mine)) (sym has.at)
    (gives_sooner zone (start +ℤ pos 432_000) (int_max end (start +ℤ pos 432_000)) has.line mine (to_window end (start +ℤ pos 432_000)) (is.gives has.line has.at))

pub window_of_line : (zone : Zone) (number : ℕ) (end : ℤ) (has : HasLine zone number) → IfSome (line_at zone number) (λ line. IsEndOfWindow zone number line end) → IsEndOfWindow zone number has.line end
window_of_line zone number end has h = subst (λ (o : Option ZoneLine). IfSome o (λ line. IsEndOfWindow zone number line end)) has.at h

pub before_cast : (xs ys : List TimedOccurrence) (end : ℤ) → SFits w64 end → ys ≡ before xs (to_z w64 (of_z w64 end)) → ys ≡ before xs end
before_cast xs ys end fits is = let same : to_z w64 (of_z w64 end) ≡ end = omega (arith, ints, fits) in is ∙ ap (before xs) same

pub window_cast : (start window : ℤ) → IsInYears 9002 start → start ≤ℤ window → window <ℤ (start +ℤ pos 432_000) → to_z w64 (of_z w64 window) ≡ window
window_cast start window in_years from to = omega (arith, ints, small 9002 start (omega arith) in_years, from, to)
