-- What is wrong with a zone, and that nothing is.
use Rattle.std.proofs.Common.{◌≡◌, ◌<◌, ◌≤◌, ℕ, List, length, None, inl, inr, sym, ap, subst, ◌∙◌, arith}
use Rattle.std.specs.Prelude.{ℤ, ◌+ℤ◌, ◌<ℤ◌, IsSomeAnd}
use Rattle.std.proofs.lemmas.Int.{by_lt_z}
use Rattle.zic_base.specs.Fault.{fault_at, kind_number}
use Rattle.zic_base.specs.declared.fault.Kind.{Kind}
use Rattle.zic_base.specs.declared.fault.Kind.TheVariants as kind
use Rattle.zic_base.specs.declared.fault.Place.{Place}
use Rattle.zic_lines.specs.declared.zone_line.ZoneLine.{ZoneLine}
use Rattle.zic_states.specs.Abbreviation.{abbreviation}
use Rattle.zic_lines.specs.Limits.{is_abbreviation}
use Rattle.zic_states.specs.Change.{Change}
use Rattle.zic_states.specs.End.{IsEnd}
use Rattle.zic_states.specs.Fault.{HasOffsetOutOfRange, HasRulesOutOfOrder, HasUntilNotRising, HasNoLetter, HasBadAbbreviation, Applies, IsSound, IsFaultOfStates}
use Rattle.zic_states.specs.InForce.{InForce}
use Rattle.zic_states.specs.Laws.{IsOrderly}
use Rattle.zic_base.specs.State.{Shown}
use Rattle.zic_states.specs.Zone.{Zone, lines_of, HasInForce, ZoneHasInForce, Shows}
use Rattle.zic_states.proofs.InForce.{one_in_force}
use Rattle.zic_states.proofs.Governing.{one_line}
use Rattle.zic_states.proofs.States.{one_state}
use Rattle.zic_rules.specs.declared.line.Periods.{Periods}
use Rattle.zic_rules.specs.code.Period.{IsFaultOfPeriods}
use Rattle.zic_rules.specs.code.Faults.{IsFirstFault}
use Rattle.zic_rules.specs.code.Shown.{HasPeriods, IsUnnamed, ShowsNamed, AreSoFrom, ShowsSomeBefore, IsTimeline}
use Rattle.zic_rules.proofs.TimelineBefore.{shown_before}
use Rattle.zic_rules.proofs.TimelineChanges.{so_somewhere}

-- ---- the kinds

sound_by : (zone : Zone) → (HasOffsetOutOfRange zone → ⊥) → (HasRulesOutOfOrder zone → ⊥) → (HasUntilNotRising zone → ⊥)
    → (HasNoLetter zone → ⊥) → (HasBadAbbreviation zone → ⊥) → (k : Kind) → Applies zone k → ⊥
sound_by zone range order untils letter name kind.OffsetRange is = range is
sound_by zone range order untils letter name kind.RulesOutOfOrder is = order is
sound_by zone range order untils letter name kind.UntilNotRising is = untils is
sound_by zone range order untils letter name kind.NoLetter is = letter is
sound_by zone range order untils letter name kind.BadAbbreviation is = name is
sound_by zone range order untils letter name _ is = is

least_by : (zone : Zone) (n : ℕ) → (24 < n → HasOffsetOutOfRange zone → ⊥) → (25 < n → HasRulesOutOfOrder zone → ⊥)
    → (26 < n → HasUntilNotRising zone → ⊥) → (27 < n → HasNoLetter zone → ⊥) → n ≤ 28
    → (other : Kind) → Applies zone other → kind_number other < n → ⊥
least_by zone n range order untils letter le kind.OffsetRange is lt = range lt is
least_by zone n range order untils letter le kind.RulesOutOfOrder is lt = order lt is
least_by zone n range order untils letter le kind.UntilNotRising is lt = untils lt is
least_by zone n range order untils letter le kind.NoLetter is lt = letter lt is
least_by zone n range order untils letter le kind.BadAbbreviation is lt = omega (arith, le, lt)
least_by zone n range order untils letter le _ is lt = is

-- ---- the fault

module _ (zone : Zone) where
  pub fault_of_range : HasOffsetOutOfRange zone → IsFirstFault zone kind.OffsetRange
  fault_of_range has = record {
    applies = has;
    least = least_by zone 24 (λ lt. absurd (omega (arith, lt))) (λ lt. absurd (omega (arith, lt))) (λ lt. absurd (omega (arith, lt)))
        (λ lt. absurd (omega (arith, lt))) (omega arith);
  }

  fault_of_order : (HasOffsetOutOfRange zone → ⊥) → HasRulesOutOfOrder zone → IsFirstFault zone kind.RulesOutOfOrder
  fault_of_order range has = record {
    applies = has;
    least = least_by zone 25 (λ _. range) (λ lt. absurd (omega (arith, lt))) (λ lt. absurd (omega (arith, lt)))
        (λ lt. absurd (omega (arith, lt))) (omega arith);
  }

  fault_of_untils : (HasOffsetOutOfRange zone → ⊥) → (HasRulesOutOfOrder zone → ⊥) → HasUntilNotRising zone → IsFirstFault zone kind.UntilNotRising
  fault_of_untils range order has = record {
    applies = has;
    least = least_by zone 26 (λ _. range) (λ _. order) (λ lt. absurd (omega (arith, lt))) (λ lt. absurd (omega (arith, lt))) (omega arith);
  }

  pub fault_of_periods : (HasOffsetOutOfRange zone → ⊥) → (fault : Kind) → IsFaultOfPeriods zone fault → IsFirstFault zone fault
  fault_of_periods range fault (inl (is, has)) = subst (IsFirstFault zone) (sym is) (fault_of_order range has)
  fault_of_periods range fault (inr (is, has, order)) = subst (IsFirstFault zone) (sym is) (fault_of_untils range order has)

  module _ (all : Periods) (known : HasPeriods zone all) where
    pub fault_of_letter : HasNoLetter zone → IsFirstFault zone kind.NoLetter
    fault_of_letter has = record {
      applies = has;
      least = least_by zone 27 (λ _. known.in_range) (λ _. known.orderly.sets.in_order) (λ _. known.orderly.untils)
          (λ lt. absurd (omega (arith, lt))) (omega arith);
    }

    fault_of_name : (HasNoLetter zone → ⊥) → HasBadAbbreviation zone → IsFirstFault zone kind.BadAbbreviation
    fault_of_name letter has = record {
      applies = has;
      least = least_by zone 28 (λ _. known.in_range) (λ _. known.orderly.sets.in_order) (λ _. known.orderly.untils)
          (λ _. letter) (omega arith);
    }

    pub fault_of_unnamed : (k : Kind) → (HasNoLetter zone → ⊥) → IsUnnamed zone k → IsFirstFault zone k
    fault_of_unnamed kind.NoLetter letter un = absurd (letter un)
    fault_of_unnamed kind.BadAbbreviation letter un = fault_of_name letter un
    fault_of_unnamed _ letter un = absurd un

  -- the same at the Zone line
  pub fault_of_states : (place : Place) → IsSomeAnd (lines_of zone) (λ lines. place ≡ lines.first.place) → (fault : Kind) → IsFirstFault zone fault
      → IsFaultOfStates zone (fault_at place fault)
  fault_of_states place located fault is = record { applies = is.applies; least = is.least; place = located }

-- ---- before the end

module _ (zone : Zone) (orderly : IsOrderly zone) (end : ℤ) (is_end : IsEnd zone end) where
  -- what a zone keeps, it keeps before its end
  earlier : (t : ℤ) (line : ZoneLine) (in_force : InForce) → ZoneHasInForce zone t line in_force → (u : ℤ) × (u <ℤ end) × ZoneHasInForce zone u line in_force
  earlier t line in_force keeps = by_lt_z t end (λ lt. (t, lt, keeps)) (λ ge. shown_before zone orderly end t is_end ge line in_force keeps)

  -- what it shows, it shows before its end
  shown_earlier : (t : ℤ) (state : Shown) → Shows zone t state → (u : ℤ) × (u <ℤ end) × Shows zone u state
  shown_earlier t state shows =
      let (u, before, keeps) = earlier t shows.line shows.in_force shows.keeps in (
        u,
        before,
        record {
          line = shows.line;
          in_force = shows.in_force;
          keeps = keeps;
          offset = shows.offset;
          daylight = shows.daylight;
          name = shows.name;
        },
      )

  -- a line and what it keeps are one
  filled_once : (t : ℤ) (line line' : ZoneLine) (in_force in_force' : InForce) → ZoneHasInForce zone t line in_force → ZoneHasInForce zone t line' in_force'
      → abbreviation line.format (line.offset +ℤ in_force.saving) in_force.daylight in_force.letter
      ≡ abbreviation line'.format (line'.offset +ℤ in_force'.saving) in_force'.daylight in_force'.letter
  filled_once t line line' in_force in_force' by by' =
      let (number, same) = one_line zone orderly t by.number by'.number line line' by.governs by'.governs in
      let keeps = subst (λ (i : ℕ). HasInForce zone i line' t in_force') (sym number) by'.keeps in
      let has_as_well = subst (λ (l : ZoneLine). HasInForce zone by.number l t in_force') (sym same) keeps in
      let one = one_in_force zone orderly.sets by.number line t in_force in_force' by.governs.is_line by.keeps has_as_well in
      λ k. abbreviation (same k).format ((same k).offset +ℤ (one k).saving) (one k).daylight (one k).letter

  -- where it shows some state at each instant before its end, no letter is lacking
  pub no_letter_lacks : ShowsSomeBefore zone end → HasNoLetter zone → ⊥
  no_letter_lacks some lacks =
      let (u, before, keeps) = earlier lacks.t lacks.line lacks.in_force lacks.keeps in
      let (state, shows) = some u before in
      let once = filled_once u lacks.line shows.line lacks.in_force shows.in_force keeps shows.keeps in
      let e = ap (λ (o : ℤ). abbreviation shows.line.format o shows.in_force.daylight shows.in_force.letter) shows.offset in
      let name = sym lacks.wants ∙ once ∙ sym e ∙ shows.name in
      cc

  module _ (first : Shown) (cs : List Change) (so : AreSoFrom (ShowsNamed zone) end None first cs) where
    one : (t : ℤ) (a b : Shown) → Shows zone t a → Shows zone t b → a ≡ b
    one t a b shows shows' = one_state zone orderly t a b shows shows'

    -- some state, which has an abbreviation, is shown at each instant
    pub named : (t : ℤ) → t <ℤ end → (state : Shown) × ShowsNamed zone t state
    named t before = so_somewhere (ShowsNamed zone) end t None first cs tt before so

    pub is_sound : (HasOffsetOutOfRange zone → ⊥) → IsSound zone
    is_sound range = sound_by zone range orderly.sets.in_order orderly.untils
        (no_letter_lacks (λ t before. let (state, shows) = named t before in (state, shows.0)))
        (λ bad.
        let (u, before, shows) = shown_earlier bad.t bad.state bad.shows in
        let (state, is) = named u before in
        let same = one u bad.state state shows is.0 in
        let name = is.1 in
        let breaks = bad.breaks in
        let e = ap (λ (x : Shown). is_abbreviation x.name) same in
        cc)

    pub timeline : zone.number < length zone.source.zones → (HasOffsetOutOfRange zone → ⊥) → IsTimeline zone end first cs
    timeline is_zone range = record { is_zone = is_zone; sound = is_sound range; orderly = orderly; is_end = is_end; so = so }
