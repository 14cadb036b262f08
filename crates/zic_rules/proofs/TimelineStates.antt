-- What a zone shows where one of its lines holds, and its periods.
use Rattle.std.proofs.Common.{◌++◌, map, append_assoc, append-nil, int_eq, Bool, true, false, not, ◌&&◌, ◌≡◌, ◌<◌, ◌+◌, ℕ, zero, suc, List, [], ◌∷◌, length, get_or, Option, Some, None, refl, sym, ap, subst, ◌∙◌, ⊎_elim, arith}
use Rattle.std.specs.Prelude.{ℤ, pos, ◌-ℤ◌, ◌<ℤ◌, ◌≤ℤ◌, All, IfSome, slice_get, option_map, Result, Ok, Err, IfErr, bytes_eq}
use Rattle.std.proofs.lemmas.Int.{ints, by_lt_z}
use Rattle.std.proofs.lemmas.Option.{same_Some, slice_get_within, get_or_from_slice_get, slice_get-get_or, slice_get_past}
use Rattle.zic_base.proofs.Elements.{got}
use Rattle.zic_base.specs.declared.fault.Kind.{Kind}
use Rattle.zic_base.specs.declared.fault.Kind.TheVariants as kind
use Rattle.std.specs.Cmp.{booleans_Decides}
use Rattle.std.proofs.Math.Bool.{beq}
use Rattle.std.proofs.lemmas.Bool.Decides.{Decides-int_eq}
use Rattle.zic_source.proofs.SameBytes.{bytes_eq_means, bytes_eq_itself}
use Rattle.zic_lines.specs.declared.zone_line.ZoneLine.{ZoneLine}
use Rattle.zic_source.specs.Source.{ZoneLines, lines_of_zone}
use Rattle.zic_states.proofs.Lines.{line_of}
use Rattle.zic_states.specs.Abbreviation.{abbreviation}
use Rattle.zic_lines.specs.Limits.{is_abbreviation}
use Rattle.zic_rules.specs.declared.changes.DatedState.{DatedState}
use Rattle.zic_rules.specs.declared.zone_state.ZoneState.{ZoneState}
use Rattle.zic_states.specs.Change.{Change}
use Rattle.zic_states.specs.InForce.{InForce, IsInForceBy, IsRuleOf}
use Rattle.zic_base.specs.State.{Shown}
use Rattle.zic_states.specs.Zone.{Zone, line_at, ZoneHasInForce}
use Rattle.zic_rules.specs.declared.line.Period.{Period}
use Rattle.zic_rules.specs.declared.line.Periods.{Periods}
use Rattle.zic_rules.specs.code.Period.{HasLine, ArePeriods, Holds}
use Rattle.zic_rules.specs.code.Held.{IsFrom, ComesAfter}
use Rattle.zic_rules.specs.code.Shown.{IsShownBy, IsRefusedBy, IsHeld, ShowsWhereHeld, IsUnnamed, IsUnnamedAt, AreSoFrom, from_of, IsUpTo, IsSoTo, ShowsSomeTo, ShowsSomeBefore, ShowsNamed, AreChangesSoFar, shown_by, dated}
use Rattle.zic_rules.proofs.TimelineChanges.{so_earlier}

-- ---- where a line holds

has_held : (zone : Zone) (t : ℤ) (number : ℕ) (rule : Option ℕ) (line : ZoneLine) (in_force : InForce) → line_at zone number ≡ Some line
    → Holds zone t number rule → IsInForceBy zone.source.rules line.rules rule in_force → ZoneHasInForce zone t line in_force
has_held zone t number rule line in_force at h =
    let same = same_Some h.line line (sym h.governs.is_line ∙ at) in
    subst (λ (l : ZoneLine). IsInForceBy zone.source.rules l.rules rule in_force → ZoneHasInForce zone t l in_force) same
    (λ is_in_force. record { number = number; governs = h.governs; keeps = h.keeps in_force is_in_force })

-- a line that holds is one of the zone
pub line_held : (zone : Zone) (number : ℕ) (rule : Option ℕ) → IsHeld zone number rule → HasLine zone number
line_held zone number rule held lines is =
    let h = held.1 in
    let found = line_of zone number h.line h.governs.is_line in
    subst (λ (z : ZoneLines). number < length (lines_of_zone z)) (same_Some found.0 lines (sym found.1 ∙ is))
    (slice_get_within (lines_of_zone found.0) number h.line found.2)

-- where a line holds by a rule, that is one of its set
pub rule_held : (zone : Zone) (number : ℕ) (rule : Option ℕ) (line : ZoneLine) → line_at zone number ≡ Some line → IsHeld zone number rule
    → IsRuleOf zone.source.rules line.rules rule
rule_held zone number rule line at held =
    let h = held.1 in
    subst (λ (l : ZoneLine). IsRuleOf zone.source.rules l.rules rule) (same_Some h.line line (sym h.governs.is_line ∙ at)) h.of_line

pub shows_held : (zone : Zone) (number : ℕ) (rule : Option ℕ) (line : ZoneLine) (state : Shown) → line_at zone number ≡ Some line
    → IsShownBy zone.source.rules line rule state → ShowsWhereHeld zone number rule state
shows_held zone number rule line state at by t h = record {
  line = line;
  in_force = by.in_force;
  keeps = has_held zone t number rule line by.in_force at h by.is_in_force;
  offset = by.offset;
  daylight = by.daylight;
  name = by.name;
}

pub unnamed_at : (zone : Zone) (number : ℕ) (rule : Option ℕ) (line : ZoneLine) (reason : Kind) → line_at zone number ≡ Some line
    → IsHeld zone number rule → IsRefusedBy zone.source.rules line rule reason → IsUnnamedAt zone number rule reason
unnamed_at zone number rule line reason at held by = ⊎_elim
    (λ lacks. subst (IsUnnamedAt zone number rule) (sym lacks.0) record {
      t = held.0;
      line = line;
      in_force = by.in_force;
      keeps = has_held zone held.0 number rule line by.in_force at held.1 by.is_in_force;
      wants = ap (λ (o : ℤ). abbreviation line.format o by.in_force.daylight by.in_force.letter) (sym by.total) ∙ lacks.1;
    })
    (λ breaks.
    let state : Shown = record { offset = by.offset; daylight = by.in_force.daylight; name = breaks.1.name } in
    let shown : IsShownBy zone.source.rules line rule state =
    record { in_force = by.in_force; is_in_force = by.is_in_force; offset = by.total; daylight = refl; name = breaks.1.is } in
    subst (IsUnnamedAt zone number rule) (sym breaks.0)
    (state, shows_held zone number rule line state at shown, breaks.1.breaks))
    by.refused

-- the same of what a call answers
pub unnamed_by : (zone : Zone) (number : ℕ) (rule : Option ℕ) (line : ZoneLine) (r : Result ZoneState Kind) → line_at zone number ≡ Some line
    → IsHeld zone number rule → IfErr r (IsRefusedBy zone.source.rules line rule) → IfErr r (IsUnnamedAt zone number rule)
unnamed_by zone number rule line (Ok s) at held err = tt
unnamed_by zone number rule line (Err k) at held err = unnamed_at zone number rule line k at held err

pub unnamed_from : (zone : Zone) (number : ℕ) (rule : Option ℕ) (reason : Kind) → IsHeld zone number rule → IsUnnamedAt zone number rule reason
    → IsUnnamed zone reason
unnamed_from zone number rule kind.NoLetter held un = un
unnamed_from zone number rule kind.BadAbbreviation held un =
    record { t = held.0; state = un.0; shows = un.1 held.0 held.1; breaks = un.2 }
unnamed_from zone number rule _ held un = absurd un

-- ---- periods

-- what a loop over periods has at a place; past the end this
abbrev pub nowhere : Period
nowhere = record { from = pos 0; line = 0; rule = None }

pub item_at : (xs ys : List Period) (i : ℕ) → ys ≡ xs → i < length ys → slice_get xs i ≡ Some (get_or ys i nowhere)
item_at xs ys i e lt = subst (λ (zs : List Period). slice_get zs i ≡ Some (get_or ys i nowhere)) e (slice_get-get_or ys i nowhere lt)

by_some : (o : Option Period) (P : Period → Type 0) → ((n : Period) → o ≡ Some n → P n) → IfSome o P
by_some None P each = tt
by_some (Some n) P each = each n refl

has_some : (o : Option Period) (P : Period → Type 0) (s : Period) → o ≡ Some s → P s → IfSome o P
has_some o P s e is = subst (λ (q : Option Period). IfSome q P) (sym e) is

module _ (zone : Zone) (all : Periods) (known : ArePeriods zone all.end all.list.items) where
  two_rise : (i j : ℕ) (a b : Period) → slice_get all.list.items i ≡ Some a → slice_get all.list.items j ≡ Some b → i < j → a.from <ℤ b.from
  two_rise i j a b at_i at_j lt =
      let both = known.rising i j a lt (slice_get_within all.list.items j b at_j) in
      let lt : a.from <ℤ b.from = rw (get_or_from_slice_get all.list.items i a a at_i, get_or_from_slice_get all.list.items j b a at_j) at both in
      lt

  before_end : (i : ℕ) (s : Period) → slice_get all.list.items i ≡ Some s → s.from <ℤ all.end
  before_end i s at =
      let one = known.before_end i s (slice_get_within all.list.items i s at) in
      let lt : s.from <ℤ all.end = rw (get_or_from_slice_get all.list.items i s s at) at one in
      lt

  -- from a period to the next
  held_from : (i : ℕ) (s : Period) → slice_get all.list.items i ≡ Some s → (t : ℤ) → s.from ≤ℤ t → IsUpTo all (i + 1) t → Holds zone t s.line s.rule
  held_from i s at t from up = known.each i s t at from up.0 up.1

  pub held_at : (i : ℕ) (s : Period) → slice_get all.list.items i ≡ Some s → IsHeld zone s.line s.rule
  held_at i s at = (
    s.from,
    held_from i s at s.from (omega (arith, ints)) (
      before_end i s at,
      by_some (slice_get all.list.items (i + 1)) (λ n. s.from <ℤ n.from)
          (λ n next. two_rise i (i + 1) s n at next (omega arith)),
    ),
  )

  -- before the first
  from_first : (t : ℤ) (first : Period) → slice_get all.list.items 0 ≡ Some first → t <ℤ first.from
      → (k : ℕ) (s : Period) → slice_get all.list.items k ≡ Some s → t <ℤ s.from
  from_first t first at_first below zero s at =
      subst (λ (x : Period). t <ℤ x.from) (same_Some first s (sym at_first ∙ at)) below
  from_first t first at_first below (suc k) s at =
      let rise = two_rise 0 (suc k) first s at_first at (omega arith) in
      omega (arith, ints)

  all_above : (t : ℤ) → IsUpTo all 0 t → All (λ s. t <ℤ s.from) all.list.items
  all_above t up k d lt =
      let (s, at) = got all.list.items k lt in
      let (first, at_first) = got all.list.items 0 (omega (arith, lt)) in
      let below = subst (λ (o : Option Period). IfSome o (λ x. t <ℤ x.from)) at_first up.1 in
      subst (λ (x : Period). t <ℤ x.from) (sym (get_or_from_slice_get all.list.items k s d at))
      (from_first t first at_first below k s at)

  before_all : (ss : List Period) → ((s : Period) → slice_get ss 0 ≡ Some s → s.from <ℤ all.end)
      → (t : ℤ) × (t <ℤ all.end) × IfSome (slice_get ss 0) (λ s. t <ℤ s.from)
  before_all [] before = (all.end -ℤ pos 1, omega (arith, ints), tt)
  before_all (s ∷ rest) before =
      let lt = before s refl in
      (s.from -ℤ pos 1, omega (arith, ints), omega (arith, ints))

  held_before : (t : ℤ) → IsUpTo all 0 t → Holds zone t 0 None
  held_before t up = known.before t up.0 (all_above t up)

  pub held_first : IsHeld zone 0 None
  held_first =
      let (t, before, first) = before_all all.list.items (λ s at. before_end 0 s at) in
      (t, held_before t (before, first))

  -- ---- one period after another

  module _ (IsSo : ℤ → Shown → Type 0) where
    pub so_at_first : (state : Shown) → ((t : ℤ) → Holds zone t 0 None → IsSo t state) → IsSoTo IsSo all 0 state
    so_at_first state so t from up = so t (held_before t up)

    from_next : (i : ℕ) (s : Period) → slice_get all.list.items i ≡ Some s → from_of all.list.items (i + 1) ≡ Some s.from
    from_next i s at =
        let e : i + 1 ≡ suc i = omega arith in
        ap (from_of all.list.items) e ∙ ap (option_map (λ (x : Period). x.from)) at

    pub so_at_next : (i : ℕ) (s : Period) (state : Shown) → slice_get all.list.items i ≡ Some s
        → ((t : ℤ) → Holds zone t s.line s.rule → IsSo t state) → IsSoTo IsSo all (i + 1) state
    so_at_next i s state at so t from up =
        let le : s.from ≤ℤ t = subst (λ (o : Option ℤ). IsFrom o t) (from_next i s at) from in
        so t (held_from i s at t le up)

    after_from : (i : ℕ) (s : Period) → slice_get all.list.items i ≡ Some s → ComesAfter (from_of all.list.items i) s.from
    after_from zero s at = tt
    after_from (suc k) s at =
        let within = slice_get_within all.list.items (suc k) s at in
        let (p, at_p) = got all.list.items k (omega (arith, within)) in
        subst (λ (o : Option ℤ). ComesAfter o s.from) (sym (ap (option_map (λ (x : Period). x.from)) at_p))
        (two_rise k (suc k) p s at_p at (omega arith))

    so_up_to : (i : ℕ) (s : Period) (state : Shown) → slice_get all.list.items i ≡ Some s → IsSoTo IsSo all i state
        → (t : ℤ) → IsFrom (from_of all.list.items i) t → t <ℤ s.from → IsSo t state
    so_up_to i s state at so t from lt =
        let before = before_end i s at in
        so t from (omega (arith, ints), has_some (slice_get all.list.items i) (λ x. t <ℤ x.from) s at lt)

    -- a period that shows the same
    pub same_state : (i : ℕ) (s : Period) (state : Shown) → slice_get all.list.items i ≡ Some s → IsSoTo IsSo all i state
        → (rest : List Change) → AreSoFrom IsSo all.end (from_of all.list.items (i + 1)) state rest
        → AreSoFrom IsSo all.end (from_of all.list.items i) state rest
    same_state i s state at so rest later =
        so_earlier IsSo all.end (from_of all.list.items i) s.from state rest (after_from i s at) (so_up_to i s state at so)
        (subst (λ (o : Option ℤ). AreSoFrom IsSo all.end o state rest) (from_next i s at) later)

    -- a period that shows another state
    pub new_state : (i : ℕ) (s : Period) (state next : Shown) → slice_get all.list.items i ≡ Some s → IsSoTo IsSo all i state
        → (state ≡ next → ⊥) → (rest : List Change) → AreSoFrom IsSo all.end (from_of all.list.items (i + 1)) next rest
        → AreSoFrom IsSo all.end (from_of all.list.items i) state (record { instant = s.from; state = next } ∷ rest)
    new_state i s state next at so differs rest later = (
      after_from i s at,
      before_end i s at,
      differs,
      so_up_to i s state at so,
      subst (λ (o : Option ℤ). AreSoFrom IsSo all.end o next rest) (from_next i s at) later,
    )

    -- after the last
    none_at_end : (t : ℤ) → IfSome (slice_get all.list.items (length all.list.items)) (λ s. t <ℤ s.from)
    none_at_end t =
        subst (λ (o : Option Period). IfSome o (λ s. t <ℤ s.from))
        (sym (slice_get_past all.list.items (length all.list.items) (omega arith))) tt

    pub so_to_end : (state : Shown) → IsSoTo IsSo all (length all.list.items) state
        → AreSoFrom IsSo all.end (from_of all.list.items (length all.list.items)) state []
    so_to_end state so t from before = so t from (before, none_at_end t)

  -- ---- some state at each instant

  pub some_first : (state : Shown) → ShowsWhereHeld zone 0 None state → ShowsSomeTo zone all 0
  some_first state shows t up = (state, shows t (held_before t up))

  pub some_next : (i : ℕ) (s : Period) (state : Shown) → slice_get all.list.items i ≡ Some s → ShowsWhereHeld zone s.line s.rule state
      → ShowsSomeTo zone all i → ShowsSomeTo zone all (i + 1)
  some_next i s state at shows some t up = by_lt_z t s.from
      (λ lt. some t (up.0, has_some (slice_get all.list.items i) (λ x. t <ℤ x.from) s at lt))
      (λ ge. (state, shows t (held_from i s at t ge up)))

  pub some_to_end : ShowsSomeTo zone all (length all.list.items) → ShowsSomeBefore zone all.end
  some_to_end some t before = some t (
    before,
    subst (λ (o : Option Period). IfSome o (λ s. t <ℤ s.from))
        (sym (slice_get_past all.list.items (length all.list.items) (omega arith))) tt,
  )

-- ---- equal states

all_same : (a b : ZoneState) (o d n : Bool) → o ≡ int_eq a.offset b.offset → d ≡ beq a.daylight b.daylight → n ≡ bytes_eq a.name b.name → (o && (d && n)) ≡ true
    → shown_by b ≡ shown_by a
all_same a b false d n eo ed en e = absurd cc
all_same a b true false n eo ed en e = absurd cc
all_same a b true true false eo ed en e = absurd cc
all_same a b true true true eo ed en e =
    let offset : a.offset ≡ b.offset = (Decides-int_eq a.offset b.offset).0 (sym eo) in
    let daylight : a.daylight ≡ b.daylight = (booleans_Decides a.daylight b.daylight).0 (sym ed) in
    let name : a.name ≡ b.name = bytes_eq_means a.name b.name (sym en) in
    sym (λ k. record { offset = offset k; daylight = daylight k; name = name k })

same_test : (a b : ZoneState) → shown_by b ≡ shown_by a → (int_eq a.offset b.offset && (beq a.daylight b.daylight && bytes_eq a.name b.name)) ≡ true
same_test a b e =
    let offset : int_eq a.offset b.offset ≡ true = (Decides-int_eq a.offset b.offset).1 (sym (ap (λ (s : Shown). s.offset) e)) in
    let daylight : beq a.daylight b.daylight ≡ true = (booleans_Decides a.daylight b.daylight).1 (sym (ap (λ (s : Shown). s.daylight) e)) in
    let name : bytes_eq a.name b.name ≡ true = subst (λ (x : List ℕ). bytes_eq x b.name ≡ true) (ap (λ (s : Shown). s.name) e) (bytes_eq_itself b.name) in
    λ k. offset k && (daylight k && name k)

from_not : (b : Bool) → not b ≡ false → b ≡ true
from_not true e = refl
from_not false e = absurd cc

pub states_same : (a b : ZoneState) (r : Bool) → r ≡ not (int_eq a.offset b.offset && (beq a.daylight b.daylight && bytes_eq a.name b.name)) → r ≡ false
    → shown_by b ≡ shown_by a
states_same a b r is e = all_same a b (int_eq a.offset b.offset) (beq a.daylight b.daylight) (bytes_eq a.name b.name) refl refl refl (from_not (int_eq a.offset b.offset && (beq a.daylight b.daylight && bytes_eq a.name b.name)) (sym is ∙ e))

pub states_differ : (a b : ZoneState) (r : Bool) → r ≡ not (int_eq a.offset b.offset && (beq a.daylight b.daylight && bytes_eq a.name b.name)) → r ≡ true
    → shown_by b ≡ shown_by a → ⊥
states_differ a b r is e same = let t = same_test a b same in let f = sym e ∙ is ∙ ap not t in cc

-- ---- the changes so far

dated_more : (xs : List DatedState) (x : DatedState) → map dated (xs ++ x ∷ []) ≡ map dated xs ++ dated x ∷ []
dated_more [] x = refl
dated_more (y ∷ ys) x = ap (λ (cs : List Change). dated y ∷ cs) (dated_more ys x)

module _ (zone : Zone) (all : Periods) (known : ArePeriods zone all.end all.list.items) (first : Shown) where
  pub so_far_first : ShowsWhereHeld zone 0 None first → is_abbreviation first.name ≡ true → AreChangesSoFar zone all first 0 first []
  so_far_first shows name = record {
    so = so_at_first zone all known (ShowsNamed zone) first (λ t h. (shows t h, name));
    later = λ rest so. so;
  }

  pub so_far_same : (i : ℕ) (s : Period) (last state : Shown) (cs : List Change) → slice_get all.list.items i ≡ Some s
      → ShowsWhereHeld zone s.line s.rule state → is_abbreviation state.name ≡ true → last ≡ state
      → AreChangesSoFar zone all first i last cs → AreChangesSoFar zone all first (i + 1) state cs
  so_far_same i s last state cs at shows name same so_far = record {
    so = so_at_next zone all known (ShowsNamed zone) i s state at (λ t h. (shows t h, name));
    later = λ rest so. so_far.later rest
        (same_state zone all known (ShowsNamed zone) i s last at so_far.so rest
        (subst (λ (x : Shown). AreSoFrom (ShowsNamed zone) all.end (from_of all.list.items (i + 1)) x rest) (sym same) so));
  }

  so_far_new : (i : ℕ) (s : Period) (last state : Shown) (cs : List Change) → slice_get all.list.items i ≡ Some s
      → ShowsWhereHeld zone s.line s.rule state → is_abbreviation state.name ≡ true → (last ≡ state → ⊥)
      → AreChangesSoFar zone all first i last cs → AreChangesSoFar zone all first (i + 1) state (cs ++ record { instant = s.from; state = state } ∷ [])
  so_far_new i s last state cs at shows name differs so_far = record {
    so = so_at_next zone all known (ShowsNamed zone) i s state at (λ t h. (shows t h, name));
    later = λ rest so. subst (λ (ds : List Change). AreSoFrom (ShowsNamed zone) all.end None first ds)
        (sym (append_assoc cs (record { instant = s.from; state = state } ∷ []) rest))
        (so_far.later (record { instant = s.from; state = state } ∷ rest)
        (new_state zone all known (ShowsNamed zone) i s last state at so_far.so differs rest so));
  }

  pub so_far_pushed : (i : ℕ) (s : Period) (last state : ZoneState) (xs ys : List DatedState) → slice_get all.list.items i ≡ Some s
      → ShowsWhereHeld zone s.line s.rule (shown_by state) → is_abbreviation state.name ≡ true → (shown_by last ≡ shown_by state → ⊥)
      → ys ≡ xs ++ record { instant = s.from; state = state } ∷ []
      → AreChangesSoFar zone all first i (shown_by last) (map dated xs) → AreChangesSoFar zone all first (i + 1) (shown_by state) (map dated ys)
  so_far_pushed i s last state xs ys at shows name differs is so_far =
      subst (λ (cs : List Change). AreChangesSoFar zone all first (i + 1) (shown_by state) cs)
      (sym (ap (map dated) is ∙ dated_more xs (record { instant = s.from; state = state })))
      (so_far_new i s (shown_by last) (shown_by state) (map dated xs) at shows name differs so_far)

  pub so_far_to_end : (i : ℕ) (last : Shown) (cs : List Change) → i ≡ length all.list.items → AreChangesSoFar zone all first i last cs
      → AreSoFrom (ShowsNamed zone) all.end None first cs
  so_far_to_end i last cs end so_far =
      let so = subst (λ (n : ℕ). IsSoTo (ShowsNamed zone) all n last) end so_far.so in
      let rest = so_to_end zone all known (ShowsNamed zone) last so in
      let from = subst (λ (n : ℕ). AreSoFrom (ShowsNamed zone) all.end (from_of all.list.items n) last []) (sym end) rest in
      subst (λ (ds : List Change). AreSoFrom (ShowsNamed zone) all.end None first ds) (append-nil cs) (so_far.later [] from)
