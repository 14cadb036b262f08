-- The walk through a set's occurrences: their instants, or one that doesn't rise.
use Rattle.std.proofs.Common.{◌≡◌, ℕ, zero, suc, ◌+◌, ◌<◌, ◌≤◌, inl, inr, ⊎_elim, List, [], ◌∷◌, length, get_or, Some, refl, sym, ap, subst, ◌∙◌, ℤ, pos, ◌+ℤ◌, ◌<ℤ◌, ◌≤ℤ◌, arith}
use Rattle.std.specs.Prelude.{slice_get, All, AllPairs}
use Rattle.std.proofs.lemmas.Bool.{cases_lt}
use Rattle.std.proofs.lemmas.Int.{ints}
use Rattle.std.proofs.lemmas.List.{get_or_default}
use Rattle.std.proofs.lemmas.Option.{slice_get_within, get_or_from_slice_get}
use Rattle.zic_lines.specs.declared.rule_line.Rule.{Rule}
use Rattle.zic_source.specs.Sound.{IsSoundRule, IsWithinDay}
use Rattle.zic_states.specs.declared.nominal.Nominal.{Nominal}
use Rattle.zic_states.specs.declared.occurrence.TimedOccurrence.{TimedOccurrence}
use Rattle.zic_states.specs.Occurrence.{RuleSet, Occurrence, year_second}
use Rattle.zic_states.specs.Order.{IsSavedBefore, instant_by, IsInOrder, IsOutOfOrder}
use Rattle.zic_states.specs.Listing.{IsLastNamed, IsTimedOf, AreOccurrencesBefore}
use Rattle.zic_states.specs.code.Apart.{AreEnoughYears}
use Rattle.zic_states.specs.code.OccurrenceWalk.{AreWalked}
use Rattle.zic_states.specs.code.Nominals.{IsNominalOf, AreNominals}
use Rattle.zic_states.specs.code.Timed.{saving_of, timed_of, timed_from, HasFall}
use Rattle.zic_states.proofs.Bounds.{years_apart}
use Rattle.zic_states.proofs.ForEver.{in_order_for_ever}
use Rattle.zic_states.proofs.FarApart.{in_order_far_apart}
use Rattle.zic_states.proofs.Timed.{instant_is, saving_is}
use Rattle.zic_states.proofs.Chosen.{AreOf, chosen, none, at_place, is_before, found, in_order_before, is_first, is_predecessor}

timed_length : (rules : List Rule) (offset saved : ℤ) (ns : List Nominal) → length (timed_from rules offset saved ns) ≡ length ns
unfolding timed_from
timed_length rules offset saved [] = refl
timed_length rules offset saved (n ∷ ns) = ap suc (timed_length rules offset (saving_of rules n.rule) ns)

timed_first : (rules : List Rule) (offset saved : ℤ) (ns : List Nominal) (d : TimedOccurrence) (e : Nominal) → 0 < length ns → get_or (timed_from rules offset saved ns) 0 d ≡ timed_of rules offset saved (get_or ns 0 e)
unfolding timed_from
timed_first rules offset saved [] d e within = absurd (omega arith)
timed_first rules offset saved (n ∷ ns) d e within = refl

timed_later : (rules : List Rule) (offset saved : ℤ) (k : ℕ) (ns : List Nominal) (d : TimedOccurrence) (e : Nominal) → suc k < length ns
    → get_or (timed_from rules offset saved ns) (suc k) d ≡ timed_of rules offset (saving_of rules (get_or ns k e).rule) (get_or ns (suc k) e)
unfolding timed_from
timed_later rules offset saved k [] d e within = absurd (omega arith)
timed_later rules offset saved zero (n ∷ ns) d e within = timed_first rules offset (saving_of rules n.rule) ns d e (omega arith)
timed_later rules offset saved (suc k) (n ∷ ns) d e within = timed_later rules offset (saving_of rules n.rule) k ns d e (omega arith)

-- an occurrence with the instant by what was saved before it
stands_of : (set : RuleSet) (offset saved : ℤ) (n : Nominal) (o : Occurrence) → IsNominalOf set n o → IsSavedBefore set o saved → IsTimedOf set offset (timed_of set.rules offset saved n) o
stands_of set offset saved n o is before =
    let at : slice_get set.rules n.rule ≡ Some o.rule = ap (slice_get set.rules) is.number ∙ is.is.member.numbered in
    record {
      is = is.is;
      number = is.number;
      year = is.year;
      instant = record { saved = saved; is_saved = before; is = instant_is set.rules offset saved n o.rule at ∙ ap (λ (s : ℤ). instant_by o.rule.moment.at.form offset saved s) is.second };
    }

module _ (set : RuleSet) (offset bound : ℤ) (ns : List Nominal) (os : List Occurrence) (listed : AreNominals set bound ns) (strict : AllPairs (λ m n. m.second <ℤ n.second) ns) (are : AreOf set ns os) where
  abbrev all : List TimedOccurrence
  all = timed_from set.rules offset (pos 0) ns

  nothing : Nominal
  nothing = none set bound ns os listed strict are

  located : (k : ℕ) (d : TimedOccurrence) (e : Occurrence) → k < length os → IsTimedOf set offset (get_or all k d) (get_or os k e)
  unfolding nothing
  located zero d e within =
      let is = at_place set bound ns os listed strict are 0 e within in
      subst (λ (x : TimedOccurrence). IsTimedOf set offset x (get_or os 0 e)) (sym (timed_first set.rules offset (pos 0) ns d nothing (omega (arith, are.count))))
      (stands_of set offset (pos 0) (get_or ns 0 nothing) (get_or os 0 e) is (inl (is_first set bound ns os listed strict are e within, refl)))
  located (suc k) d e within =
      let is = at_place set bound ns os listed strict are (suc k) e within in
      let was = at_place set bound ns os listed strict are k e (omega arith) in
      let at : slice_get set.rules (get_or ns k nothing).rule ≡ Some (get_or os k e).rule = ap (slice_get set.rules) was.number ∙ was.is.member.numbered in
      let saved = saving_of set.rules (get_or ns k nothing).rule in
      subst (λ (x : TimedOccurrence). IsTimedOf set offset x (get_or os (suc k) e)) (sym (timed_later set.rules offset (pos 0) k ns d nothing (omega (arith, are.count))))
      (stands_of set offset saved (get_or ns (suc k) nothing) (get_or os (suc k) e) is
      (inr (get_or os k e, is_predecessor set bound ns os listed strict are k e within, saving_is set.rules (get_or ns k nothing).rule (get_or os k e).rule at)))

  -- where the instants rise, the occurrences are walked
  pub walked : AllPairs (λ a b. a.instant <ℤ b.instant) all → AreWalked set offset bound os all
  walked rising = record {
    in_order = in_order_before set bound ns os listed strict are;
    count = timed_length set.rules offset (pos 0) ns ∙ sym are.count;
    each = λ k x o at_x at_o.
        let here = located k x o (slice_get_within os k o at_o) in
        subst (λ (y : TimedOccurrence). IsTimedOf set offset y o) (get_or_from_slice_get all k x x at_x)
        (subst (λ (p : Occurrence). IsTimedOf set offset (get_or all k x) p) (get_or_from_slice_get os k o o at_o) here);
    rising = rising;
  }

  -- and they are all before the bound
  pub all_before : AllPairs (λ a b. a.instant <ℤ b.instant) all → AreOccurrencesBefore set offset bound all
  all_before rising =
      let blank : TimedOccurrence = record { instant = pos 0; rule = 0; year = 0 } in
      let count : length all ≡ length ns = timed_length set.rules offset (pos 0) ns in
      record {
        each = λ k d within.
            let in_os : k < length os = omega (arith, are.count) in
            let e = (listed.each k (none set bound ns os listed strict are) (omega arith)).occurrence in
            (get_or os k e, located k d e in_os, (is_before set bound ns os listed strict are k e in_os).before);
        all = λ o is early.
            let at = found set bound ns os listed strict are o o (record { is = is; before = early }) in
            let in_os : at.0 < length os = at.1 in
            let there : at.0 < length all = omega (arith, are.count) in
            let here = located at.0 blank o in_os in
            (at.0, get_or all at.0 blank, there, get_or_default all at.0 (get_or all at.0 blank) blank there, (here.number ∙ sym at.2.number, here.year ∙ sym at.2.year));
        rising = rising;
      }

  -- one that doesn't rise is a disorder
  pub falls : HasFall all → IsOutOfOrder set offset
  falls fall =
      let blank : TimedOccurrence = record { instant = pos 0; rule = 0; year = 0 } in
      let count : length all ≡ length ns = timed_length set.rules offset (pos 0) ns in
      let next : fall.place + 1 ≡ suc fall.place = omega arith in
      let within : fall.place + 1 < length all = fall.within in
      let e = (listed.each fall.place (none set bound ns os listed strict are) (omega arith)).occurrence in
      let in_os : suc fall.place < length os = omega (arith, are.count) in
      let later = located (suc fall.place) blank e in_os in
      let sooner = located fall.place blank e (omega arith) in (
        get_or os (suc fall.place) e,
        get_or os fall.place e,
        inr (record {
          is = later.is;
          predecessor = is_predecessor set bound ns os listed strict are fall.place e in_os;
          later = (get_or all (suc fall.place) blank).instant;
          earlier = (get_or all fall.place blank).instant;
          at_later = later.instant;
          at_earlier = sooner.instant;
          not_after = subst (λ (k : ℕ). (get_or all k blank).instant ≤ℤ (get_or all fall.place blank).instant) next (fall.falls blank);
        }),
      )

-- years begin one after another
pub years_begin : (year later : ℕ) → year ≤ later → year_second (pos year) ≤ℤ year_second (pos later)
years_begin year later h = ⊎_elim
    (λ less. let apart : (year_second (pos year) +ℤ pos 31536000) ≤ℤ year_second (pos later) = years_apart (pos year) (pos later) (omega (arith, ints)) in omega (arith, ints))
    (λ more. let same : year ≡ later = omega arith in subst (λ (y : ℕ). year_second (pos year) ≤ℤ year_second (pos y)) same (omega (arith, ints)))
    (cases_lt year later)

-- a list of instants that rise, through enough years, is in order for ever
pub order : (set : RuleSet) (offset bound : ℤ) (last years : ℕ) (ns : List Nominal) (xs : List TimedOccurrence) → All IsSoundRule set.rules → IsWithinDay offset → IsLastNamed set last
    → AreEnoughYears set years → year_second (pos last +ℤ pos years) ≤ℤ bound → AreNominals set bound ns → AllPairs (λ m n. m.second <ℤ n.second) ns
    → xs ≡ timed_from set.rules offset (pos 0) ns → AllPairs (λ a b. a.instant <ℤ b.instant) xs → IsInOrder set offset
order set offset bound last years ns xs sound within named reach long listed strict is rising =
    let os = chosen set bound ns listed.each in
    let all : List TimedOccurrence = timed_from set.rules offset (pos 0) ns in
    let walked = walked set offset bound ns os.0 listed strict os.1 (subst (λ (l : List TimedOccurrence). AllPairs (λ a b. a.instant <ℤ b.instant) l) is rising) in
    elim reach.enough [
      | inl e ↦ in_order_for_ever set offset bound last os.0 all sound within named (subst (λ (y : ℕ). year_second (pos last +ℤ pos y) ≤ℤ bound) e long) walked
      | inr few ↦
          let far = years_begin (last + 3) (last + years) (omega (arith, few.0)) in
          in_order_far_apart set offset bound last os.0 all (record { sound = sound; within = within; last = named; apart = few.1; far = omega (arith, ints, far, long); walked = walked })
    ]

-- and has all occurrences before the bound
pub complete : (set : RuleSet) (offset bound : ℤ) (ns : List Nominal) (xs : List TimedOccurrence) → AreNominals set bound ns → AllPairs (λ m n. m.second <ℤ n.second) ns
    → xs ≡ timed_from set.rules offset (pos 0) ns → AllPairs (λ a b. a.instant <ℤ b.instant) xs → AreOccurrencesBefore set offset bound xs
complete set offset bound ns xs listed strict is rising =
    let os = chosen set bound ns listed.each in
    subst (λ (l : List TimedOccurrence). AreOccurrencesBefore set offset bound l) (sym is)
    (all_before set offset bound ns os.0 listed strict os.1 (subst (λ (l : List TimedOccurrence). AllPairs (λ a b. a.instant <ℤ b.instant) l) is rising))

-- a list of which one doesn't rise is a disorder
pub disorder : (set : RuleSet) (offset bound : ℤ) (ns : List Nominal) → AreNominals set bound ns → AllPairs (λ m n. m.second <ℤ n.second) ns → HasFall (timed_from set.rules offset (pos 0) ns) → IsOutOfOrder set offset
disorder set offset bound ns listed strict fall =
    let os = chosen set bound ns listed.each in
    falls set offset bound ns os.0 listed strict os.1 fall
