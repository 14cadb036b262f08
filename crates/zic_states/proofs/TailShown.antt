-- What a zone keeps at some instant it keeps before its explicit end.
use Rattle.std.proofs.Common.{◌≡◌, ℕ, zero, suc, true, ◌⊎◌, inl, inr, List, [], ◌∷◌, Option, Some, None, refl, sym, subst, arith}
use Rattle.std.specs.Prelude.{ℤ, pos, ◌+ℤ◌, ◌-ℤ◌, ◌<ℤ◌, ◌≤ℤ◌, slice_get}
use Rattle.std.proofs.lemmas.Bool.{cases_Bool}
use Rattle.std.proofs.lemmas.Int.{ints, by_lt_z}
use Rattle.std.proofs.lemmas.Option.{same_Some, slice_get_within}
use Rattle.zic_lines.specs.declared.rule_line.Rule.{Rule}
use Rattle.zic_lines.specs.declared.rules.Rules.{Rules}
use Rattle.zic_lines.specs.declared.rules.Rules.TheVariants.{Standard, Amount, Set}
use Rattle.zic_lines.specs.declared.zone_line.ZoneLine.{ZoneLine}
use Rattle.zic_source.specs.Source.{is_of_set}
use Rattle.zic_states.specs.Occurrence.{RuleSet, year_second}
use Rattle.zic_states.specs.End.{IsLastLine, IsEndBy, IsEnd}
use Rattle.zic_states.specs.InForce.{InForce, in_force_from}
use Rattle.zic_states.specs.Laws.{IsOrderly}
use Rattle.zic_states.specs.Tail.{IsContinuing, HasContinuing, HasNoSet, HasLastSet, HasInForceFrom}
use Rattle.zic_states.specs.TailLaws.{InForceBefore}
use Rattle.zic_states.specs.Until.{set_of}
use Rattle.zic_states.specs.Zone.{Zone, ZoneHasInForce}
use Rattle.zic_states.proofs.TailInForce.{given, has_from_last, by_continuing, by_none}
use Rattle.zic_states.proofs.TailLine.{governs_from_end, fixed_tail}
use Rattle.zic_states.proofs.TailSet.{rule_in, own_instant}

-- ---- whether some rule goes on for ever

has_last_or_not : (last : Option ℕ) → (last ≡ None) ⊎ (last ≡ None → ⊥)
has_last_or_not None = inl refl
has_last_or_not (Some n) = inr (λ e. absurd cc)

-- some rule of the list that belongs to the set goes on for ever
abbrev HasContinuingOf : List ℕ → List Rule → Type 0
HasContinuingOf name rules =
    (i : ℕ) × (rule : Rule) × (slice_get rules i ≡ Some rule) × (is_of_set name rule ≡ true) × IsContinuing rule

one_or_none : (name : List ℕ) (rule : Rule) → ((is_of_set name rule ≡ true) × IsContinuing rule) ⊎ ((is_of_set name rule ≡ true) → IsContinuing rule → ⊥)
one_or_none name rule =
    elim (cases_Bool (is_of_set name rule)) [
      | inl is ↦ elim (has_last_or_not rule.last) [
        | inl continues ↦ inl (is, continues)
        | inr ends ↦ inr (λ _ continues. ends continues)
      ]
      | inr other ↦ inr (λ is _. absurd cc)
    ]

in_none : (name : List ℕ) → HasContinuingOf name [] → ⊥
in_none name (i, rule, at, is, continues) = absurd (omega (arith, slice_get_within [] i rule at))

in_neither : (name : List ℕ) (rule : Rule) (rules : List Rule) → ((is_of_set name rule ≡ true) → IsContinuing rule → ⊥)
    → (HasContinuingOf name rules → ⊥) → HasContinuingOf name (rule ∷ rules) → ⊥
in_neither name rule rules not_first none (zero, found, at, is, continues) =
    let same : found ≡ rule = same_Some found rule (sym at) in
    not_first (subst (λ (r : Rule). is_of_set name r ≡ true) same is) (subst IsContinuing same continues)
in_neither name rule rules not_first none (suc i, found, at, is, continues) = none (i, found, at, is, continues)

some_or_none : (name : List ℕ) (rules : List Rule) → HasContinuingOf name rules ⊎ (HasContinuingOf name rules → ⊥)
some_or_none name [] = inr (in_none name)
some_or_none name (rule ∷ rules) =
    elim (one_or_none name rule) [
      | inl (is, continues) ↦ inl (zero, rule, refl, is, continues)
      | inr not_first ↦ elim (some_or_none name rules) [
        | inl (i, found, at, is, continues) ↦ inl (suc i, found, at, is, continues)
        | inr none ↦ inr (in_neither name rule rules not_first none)
      ]
    ]

pub continuing_or_none : (set : RuleSet) → HasContinuing set ⊎ (HasContinuing set → ⊥)
continuing_or_none set =
    elim (some_or_none set.name set.rules) [
      | inl (i, rule, at, is, continues) ↦ inl (i, rule, record { numbered = at; of_set = is }, continues)
      | inr none ↦ inr (λ has. none (has.0, has.1, has.2.numbered, has.2.of_set, has.3))
    ]

-- ---- before the end

-- the zone keeps this by this line at some instant before the end
abbrev HasInForceBefore : Zone → ℤ → ZoneLine → InForce → Type 0
HasInForceBefore zone end line in_force = (u : ℤ) × (u <ℤ end) × ZoneHasInForce zone u line in_force

pub by_same : (zone : Zone) (u end : ℤ) (a b : ZoneLine) (k l : InForce) → u <ℤ end → a ≡ b → k ≡ l → ZoneHasInForce zone u b l → HasInForceBefore zone end a k
by_same zone u end a b k l lt line in_force keeps =
    let by_line = subst (λ (x : ZoneLine). ZoneHasInForce zone u x l) (sym line) keeps in
    (u, lt, subst (λ (x : InForce). ZoneHasInForce zone u a x) (sym in_force) by_line)

-- where the zone keeps one thing from the last second before the end on
at_last_second : (zone : Zone) (end t : ℤ) (line other : ZoneLine) (in_force thing : InForce) → HasInForceFrom zone (end -ℤ pos 1) line in_force
    → end ≤ℤ t → ZoneHasInForce zone t other thing → HasInForceBefore zone end other thing
at_last_second zone end t line other in_force thing from le keeps =
    let (same_line, same) = (from t (omega (arith, ints))).only other thing keeps in
    by_same zone (end -ℤ pos 1) end other line thing in_force (omega (arith, ints)) same_line same
    (from (end -ℤ pos 1) (omega (arith, ints))).keeps

module _ (zone : Zone) (orderly : IsOrderly zone) (i : ℕ) (line : ZoneLine) (last : IsLastLine zone i line) where
  fixed_before : (end t : ℤ) (other : ZoneLine) (thing : InForce) → HasNoSet line.rules → IsEnd zone end → end ≤ℤ t
      → ZoneHasInForce zone t other thing → HasInForceBefore zone end other thing
  fixed_before end t other thing none is_end le keeps =
      let (in_force, from) = fixed_tail zone orderly i line last none in
      let governs = governs_from_end zone orderly.sets i line end (end -ℤ pos 1) last is_end (omega (arith, ints)) in
      at_last_second zone end t line other in_force thing (from (end -ℤ pos 1) governs.begun) le keeps

  set_before : (name : List ℕ) (year t : ℤ) (other : ZoneLine) (thing : InForce) → HasLastSet zone i line name year
      → year_second (year +ℤ pos 3) ≤ℤ t → ZoneHasInForce zone t other thing → HasInForceBefore zone (year_second (year +ℤ pos 3)) other thing
  set_before name year t other thing tail le keeps =
      elim (continuing_or_none (set_of zone.source.rules name)) [
        | inl has ↦
            let by = by_continuing zone orderly i line name year tail has t (omega (arith, ints)) in
            let (later, u, is, at, late, before) = own_instant (set_of zone.source.rules name) line.offset year (given zone orderly i line name year tail)
            by.occurrence.number by.occurrence.rule by.current.is.member by.continues in
            let same = by.keeps.only other thing keeps in
            let own = has_from_last zone orderly i line name year tail u (rule_in by.occurrence.number by.occurrence.rule later) u (omega (arith, ints))
            (record { is = is; instant = at; not_after = omega (arith, ints); last = λ q v is_q at_v not_after. not_after }) in
            by_same zone u (year_second (year +ℤ pos 3)) other line thing (in_force_from by.occurrence) before same.0 same.1 own.keeps
        | inr none ↦
            let (in_force, from) = by_none zone orderly i line name year tail none in
            at_last_second zone (year_second (year +ℤ pos 3)) t line other in_force thing from le keeps
      ]

  before_by : (says : Rules) (end t : ℤ) (other : ZoneLine) (thing : InForce) → line.rules ≡ says → IsEndBy zone i says end → IsEnd zone end
      → end ≤ℤ t → ZoneHasInForce zone t other thing → HasInForceBefore zone end other thing
  before_by Standard end t other thing e by is_end le keeps = fixed_before end t other thing (subst HasNoSet (sym e) tt) is_end le keeps
  before_by (Amount saving) end t other thing e by is_end le keeps = fixed_before end t other thing (subst HasNoSet (sym e) tt) is_end le keeps
  before_by (Set name) end t other thing e (year, last_year, is) is_end le keeps =
      let tail : HasLastSet zone i line name year = record { is_last = last; has_set = e; last_year = last_year } in
      subst (λ (s : ℤ). HasInForceBefore zone s other thing) (sym is) (set_before name year t other thing tail (omega (arith, ints)) keeps)

pub has_before : (zone : Zone) → IsOrderly zone → (end : ℤ) → IsEnd zone end → (t : ℤ) (line : ZoneLine) (in_force : InForce) → ZoneHasInForce zone t line in_force
    → (u : ℤ) × (u <ℤ end) × ZoneHasInForce zone u line in_force
has_before zone orderly end (i, last_line, last, by) t line in_force keeps =
    by_lt_z t end
    (λ lt. (t, lt, keeps))
    (λ le. before_by zone orderly i last_line last last_line.rules end t line in_force refl by (i, last_line, last, by) le keeps)

pub in_force_before : InForceBefore
in_force_before = record {
  keeps = has_before;
  shows = λ zone orderly end is_end t state shown.
      let (u, lt, keeps) = has_before zone orderly end is_end t shown.line shown.in_force shown.keeps in (
        u,
        lt,
        record { line = shown.line; in_force = shown.in_force; keeps = keeps; offset = shown.offset; daylight = shown.daylight; name = shown.name },
      );
  no_letter = λ zone orderly end is_end fault.
      let (u, lt, keeps) = has_before zone orderly end is_end fault.t fault.line fault.in_force fault.keeps in
      (record { t = u; line = fault.line; in_force = fault.in_force; keeps = keeps; wants = fault.wants }, lt);
  bad_abbreviation = λ zone orderly end is_end fault.
      let (u, lt, keeps) = has_before zone orderly end is_end fault.t fault.shows.line fault.shows.in_force fault.shows.keeps in (
        record {
          t = u;
          state = fault.state;
          shows = record { line = fault.shows.line; in_force = fault.shows.in_force; keeps = keeps; offset = fault.shows.offset; daylight = fault.shows.daylight; name = fault.shows.name };
          breaks = fault.breaks;
        },
        lt,
      );
}
