-- What the last listed occurrence not after an instant says is what the line keeps.
use Rattle.std.proofs.Common.{◌≡◌, ℕ, ◌*◌, All, inl, inr, refl, sym, ap, subst, ◌∙◌, arith, ℤ, pos, ◌+ℤ◌, ◌<ℤ◌, ◌≤ℤ◌, List, Option, Some, None, option_map, ◌↔◌}
use Rattle.std.specs.Prelude.{Contains, int_lt, int_le}
use Rattle.std.proofs.lemmas.Int.{ints}
use Rattle.std.proofs.lemmas.List.Kept.{AllPairs-filter}
use Rattle.zic_lines.specs.declared.rule_line.Rule.{Rule}
use Rattle.zic_lines.specs.declared.rules.Rules.{Rules}
use Rattle.zic_lines.specs.declared.rules.Rules.TheVariants.{Standard, Amount, Set}
use Rattle.zic_lines.specs.declared.zone_line.ZoneLine.{ZoneLine}
use Rattle.zic_source.specs.Sound.{IsSoundRule, IsWithinDay}
use Rattle.zic_states.specs.declared.occurrence.TimedOccurrence.{TimedOccurrence}
use Rattle.zic_states.specs.Occurrence.{RuleSet, IsMember, Occurrence, IsOccurrence, year_second}
use Rattle.zic_states.specs.Order.{IsInOrder, IsInstant}
use Rattle.zic_states.specs.Listing.{IsTimedOf, IsListed, AreOccurrencesBefore, AreOccurrencesTo}
use Rattle.zic_states.proofs.Bounds.{instant_near_nominal}
use Rattle.zic_states.proofs.Same.{one_place, same_occurrence, one_instant}
use Rattle.zic_states.specs.ByList.{AreRising, before, not_after, last_of, rule_at}
use Rattle.zic_states.specs.code.Listed.{IsLimit, AreListedFor}
use Rattle.zic_states.specs.InForce.{InForce, IsLastOf, NoneIs, in_force_of, SetHasInForce, RulesHaveInForce, IsInForceBy, IsRuleOf}
use Rattle.zic_states.specs.Until.{set_of}
use Rattle.zic_states.specs.Zone.{Zone, IsNotOver}
use Rattle.zic_states.proofs.Lines.{always_not_over}
use Rattle.zic_states.proofs.Filters.{int_lt-true, int_le-true, less_from_test, not_after_from_test, from_filter, passes, into_filter, none_after_last, empty_without_last, last_contained}

-- ---- lists

-- those before the limit that aren't after t
abbrev candidates : List TimedOccurrence → ℤ → ℤ → List TimedOccurrence
candidates xs limit t = not_after (before xs limit) t

rising_candidates : (xs : List TimedOccurrence) (limit t : ℤ) → AreRising xs → AreRising (candidates xs limit t)
rising_candidates xs limit t rising =
    AllPairs-filter (λ a b. a.instant <ℤ b.instant) (λ x. int_le x.instant t) (before xs limit)
    (AllPairs-filter (λ a b. a.instant <ℤ b.instant) (λ x. int_lt x.instant limit) xs rising)

into_candidates : (xs : List TimedOccurrence) (limit t : ℤ) (y : TimedOccurrence) → Contains xs y → y.instant <ℤ limit → y.instant ≤ℤ t → Contains (candidates xs limit t) y
into_candidates xs limit t y has lt le =
    into_filter (λ x. int_le x.instant t) (before xs limit) y
    (into_filter (λ x. int_lt x.instant limit) xs y has (int_lt-true y.instant limit lt))
    (int_le-true y.instant t le)

from_candidates : (xs : List TimedOccurrence) (limit t : ℤ) (y : TimedOccurrence) → Contains (candidates xs limit t) y → Contains xs y × (y.instant <ℤ limit) × (y.instant ≤ℤ t)
from_candidates xs limit t y has =
    let in_force = from_filter (λ x. int_le x.instant t) (before xs limit) y has in (
      from_filter (λ x. int_lt x.instant limit) xs y in_force,
      less_from_test y.instant limit (passes (λ x. int_lt x.instant limit) xs y in_force),
      not_after_from_test y.instant t (passes (λ x. int_le x.instant t) (before xs limit) y has),
    )

-- ---- a set's list

-- what stands for an occurrence of this number and year has the instant of this one
same_instant : (set : RuleSet) (offset : ℤ) (y : TimedOccurrence) (o q : Occurrence) (u : ℤ) → IsInOrder set offset → IsTimedOf set offset y o → IsOccurrence set q
    → (y.rule ≡ q.number) × (pos y.year ≡ q.year) → IsInstant set offset q u → y.instant ≡ u
same_instant set offset y o q u order is is_q same at =
    let one = same_occurrence set o q is.is is_q (record { number = sym is.number ∙ same.0; year = sym is.year ∙ same.1 }) in
    one_instant set offset q y.instant u order.differ (subst (λ (z : Occurrence). IsInstant set offset z y.instant) one is.instant) at

module _ (set : RuleSet) (offset bound : ℤ) (xs : List TimedOccurrence) (listed : AreOccurrencesBefore set offset bound xs) where
  -- each element stands for an occurrence
  located : (x : TimedOccurrence) → Contains xs x → (o : Occurrence) × IsTimedOf set offset x o
  located x has =
      let is = subst (IsListed set offset bound) has.2 (listed.each has.0 x has.1) in
      (is.0, is.1)

  module _ (limit : ℤ) (sound : All IsSoundRule set.rules) (within : IsWithinDay offset) (order : IsInOrder set offset) (near : (limit +ℤ pos (2 * 86_400)) ≤ℤ bound) where
    -- each occurrence whose instant is before the limit is listed with it
    is_listed : (q : Occurrence) (u : ℤ) → IsOccurrence set q → IsInstant set offset q u → u <ℤ limit → (y : TimedOccurrence) × Contains xs y × (y.instant ≡ u)
    is_listed q u is at lt =
        let close = instant_near_nominal set offset q u sound within at in
        let some = listed.all q is (omega (arith, ints)) in
        let has : Contains xs some.1 = (some.0, some.2, some.3) in
        let of = located some.1 has in
        (some.1, has, same_instant set offset some.1 of.0 q u order of.1 is some.4 at)

    module _ (zone : Zone) (line : ZoneLine) (t : ℤ) (limits : IsLimit zone line limit t) where
      abbrev IsSuch : ℤ → Type 0
      IsSuch u = (u ≤ℤ t) × IsNotOver zone line u

      candidate : (q : Occurrence) (u : ℤ) → IsOccurrence set q → IsInstant set offset q u → IsSuch u → (y : TimedOccurrence) × Contains (candidates xs limit t) y × (y.instant ≡ u)
      candidate q u is at such =
          let lt = (limits u such.0).0 such.1 in
          let y = is_listed q u is at lt in
          let time : y.0.instant ≡ u = y.2 in
          let le : u ≤ℤ t = such.0 in
          (y.0, into_candidates xs limit t y.0 y.1 (omega (arith, ints)) (omega (arith, ints)), y.2)

      -- the last candidate is the last occurrence
      is_last : (x : TimedOccurrence) (o : Occurrence) → last_of (candidates xs limit t) ≡ Some x → IsTimedOf set offset x o → IsLastOf set offset IsSuch o
      is_last x o last is =
          let among = from_candidates xs limit t x (last_contained (candidates xs limit t) x last) in
          record {
            is = is.is;
            instant = x.instant;
            at = is.instant;
            such = (among.2, (limits x.instant among.2).1 among.1);
            last = λ q u is_q at such.
                let y = candidate q u is_q at such in
                let time : y.0.instant ≡ u = y.2 in
                let le = none_after_last (candidates xs limit t) x y.0 (rising_candidates xs limit t listed.rising) last y.1 in
                omega (arith, ints);
          }

      -- no candidate: no occurrence
      none_is : last_of (candidates xs limit t) ≡ None → NoneIs set offset IsSuch
      none_is none q u is at such =
          let y = candidate q u is at such in
          empty_without_last (candidates xs limit t) y.0 none y.1

-- ---- limits

-- the end of a line is its limit
pub limit_at_end : (zone : Zone) (line : ZoneLine) (limit t : ℤ) → ((u : ℤ) → IsNotOver zone line u ↔ (u <ℤ limit)) → IsLimit zone line limit t
limit_at_end zone line limit t ends u le = ends u

-- a line without an UNTIL has each later limit
pub limit_without_until : (zone : Zone) (line : ZoneLine) (limit t : ℤ) → line.until ≡ None → t <ℤ limit → IsLimit zone line limit t
limit_without_until zone line limit t none before_limit u le = (λ not_over. omega (arith, ints), λ lt. always_not_over zone line u none)

-- the occurrences to a year serve limits up to two days before it
pub listed_to_year : (rules : List Rule) (name : List ℕ) (offset limit : ℤ) (year : ℕ) (xs : List TimedOccurrence)
    → IsInOrder (set_of rules name) offset → AreOccurrencesTo (set_of rules name) offset year xs → (limit +ℤ pos (2 * 86_400)) ≤ℤ year_second (pos year)
    → AreListedFor rules offset limit (Set name) xs
listed_to_year rules name offset limit year xs order (bound, from, listed) within = (order, bound, omega (arith, ints), listed)

-- ---- by the kind of RULES

set_has : (zone : Zone) (line : ZoneLine) (name : List ℕ) (bound limit t : ℤ) (xs : List TimedOccurrence) (in_force : InForce) (last : Option TimedOccurrence)
    → All IsSoundRule zone.source.rules → IsWithinDay line.offset → IsInOrder (set_of zone.source.rules name) line.offset
    → (limit +ℤ pos (2 * 86_400)) ≤ℤ bound → AreOccurrencesBefore (set_of zone.source.rules name) line.offset bound xs → IsLimit zone line limit t
    → last_of (candidates xs limit t) ≡ last → IsInForceBy zone.source.rules (Set name) (option_map (λ x. x.rule) last) in_force
    → SetHasInForce (set_of zone.source.rules name) line.offset (λ u. (u ≤ℤ t) × IsNotOver zone line u) in_force
set_has zone line name bound limit t xs in_force None sound within order near listed limits e by =
    inr (none_is (set_of zone.source.rules name) line.offset bound xs listed limit sound within order near zone line t limits e, by.0, by.1, by.2)
set_has zone line name bound limit t xs in_force (Some x) sound within order near listed limits e by =
    let set = set_of zone.source.rules name in
    let among = from_candidates xs limit t x (last_contained (candidates xs limit t) x e) in
    let of = located set line.offset bound xs listed x among.0 in
    let same : by.0 ≡ of.0.rule = one_place zone.source.rules x.rule of.0.number by.0 of.0.rule of.1.number by.1.numbered of.1.is.member.numbered in
    inl (of.0, is_last set line.offset bound xs listed limit sound within order near zone line t limits x of.0 e of.1, by.2 ∙ ap (λ (rule : Rule). in_force_of rule) same)

has_by : (zone : Zone) (line : ZoneLine) (says : Rules) (xs : List TimedOccurrence) (limit t : ℤ) (in_force : InForce)
    → All IsSoundRule zone.source.rules → IsWithinDay line.offset → AreListedFor zone.source.rules line.offset limit says xs → IsLimit zone line limit t
    → IsInForceBy zone.source.rules says (rule_at (before xs limit) t) in_force → RulesHaveInForce zone.source.rules line says (λ u. (u ≤ℤ t) × IsNotOver zone line u) in_force
has_by zone line Standard xs limit t in_force sound within listed limits by = by
has_by zone line (Amount saving) xs limit t in_force sound within listed limits by = by
has_by zone line (Set name) xs limit t in_force sound within (order, bound, near, listed) limits by =
    set_has zone line name bound limit t xs in_force (last_of (candidates xs limit t)) sound within order near listed limits refl by

-- what the last candidate's rule says is what the line keeps
pub has_by_list : (zone : Zone) (line : ZoneLine) (xs : List TimedOccurrence) (limit t : ℤ) (in_force : InForce)
    → All IsSoundRule zone.source.rules → IsWithinDay line.offset → AreListedFor zone.source.rules line.offset limit line.rules xs → IsLimit zone line limit t
    → IsInForceBy zone.source.rules line.rules (rule_at (before xs limit) t) in_force → RulesHaveInForce zone.source.rules line line.rules (λ u. (u ≤ℤ t) × IsNotOver zone line u) in_force
has_by_list zone line = has_by zone line line.rules

rule_is : (rules : List Rule) (name : List ℕ) (offset bound limit t : ℤ) (xs : List TimedOccurrence) (last : Option TimedOccurrence)
    → AreOccurrencesBefore (set_of rules name) offset bound xs → last_of (candidates xs limit t) ≡ last → IsRuleOf rules (Set name) (option_map (λ x. x.rule) last)
rule_is rules name offset bound limit t xs None listed e = tt
rule_is rules name offset bound limit t xs (Some x) listed e =
    let among = from_candidates xs limit t x (last_contained (candidates xs limit t) x e) in
    let of = located (set_of rules name) offset bound xs listed x among.0 in
    (of.0.rule, subst (λ (n : ℕ). IsMember (set_of rules name) n of.0.rule) (sym of.1.number) of.1.is.member)

rule_of : (rules : List Rule) (offset : ℤ) (says : Rules) (xs : List TimedOccurrence) (limit t : ℤ)
    → AreListedFor rules offset limit says xs → (last : Option ℕ) → rule_at (before xs limit) t ≡ last → IsRuleOf rules says last
rule_of rules offset Standard xs limit t listed None e = tt
rule_of rules offset Standard xs limit t listed (Some n) e = tt
rule_of rules offset (Amount saving) xs limit t listed None e = tt
rule_of rules offset (Amount saving) xs limit t listed (Some n) e = tt
rule_of rules offset (Set name) xs limit t (order, bound, near, listed) last e =
    subst (IsRuleOf rules (Set name)) e (rule_is rules name offset bound limit t xs (last_of (candidates xs limit t)) listed refl)

-- the last candidate's rule is one of the line's set
pub is_rule_of_line : (rules : List Rule) (line : ZoneLine) (xs : List TimedOccurrence) (limit t : ℤ)
    → AreListedFor rules line.offset limit line.rules xs → IsRuleOf rules line.rules (rule_at (before xs limit) t)
is_rule_of_line rules line xs limit t listed = rule_of rules line.offset line.rules xs limit t listed (rule_at (before xs limit) t) refl
