-- From the last occurrence before the explicit end on, occurrences come again after 400 years, which are 12,622,780,800 seconds.
use Rattle.std.proofs.Common.{◌≡◌, ℕ, ◌*◌, All, ◌⊎◌, inl, inr, refl, sym, arith}
use Rattle.std.specs.Prelude.{ℤ, pos, ◌+ℤ◌, ◌-ℤ◌, ◌<ℤ◌, ◌≤ℤ◌}
use Rattle.std.proofs.lemmas.Int.{ints, by_lt_z}
use Rattle.zic_lines.specs.declared.rule_line.Rule.{Rule}
use Rattle.zic_lines.specs.declared.clock.ClockForm.{ClockForm}
use Rattle.zic_lines.specs.declared.clock.ClockForm.TheVariants.{Wall, Standard, Universal}
use Rattle.zic_source.specs.Sound.{IsSoundRule}
use Rattle.zic_states.specs.OccurrenceLaws.{IsLastOccurrence}
use Rattle.zic_states.specs.Occurrence.{RuleSet, IsMember, Occurrence, IsOccurrence, nominal, year_second}
use Rattle.zic_states.specs.Order.{IsPredecessor, IsSavedBefore, IsInstant, IsInOrder, instant_by}
use Rattle.zic_states.proofs.Bounds.{years_apart, nominal_from, nominal_to, two_years, nominal_second-period, instant_near_nominal}
use Rattle.zic_states.proofs.Instants.{saved_before, some_instant, instants_rise, tied_instants}
use Rattle.zic_states.proofs.Same.{one_instant}
use Rattle.zic_states.specs.Tail.{IsContinuing, IsOnlyContinuing, Alternate, FollowsAnother}
use Rattle.zic_states.proofs.Ends.{not_later}
use Rattle.zic_states.proofs.TailSet.{rule_in, IsNamedTo, continues_after, occurs_after, own_instant}

-- the same rule 400 years later
abbrev pub again : Occurrence → Occurrence
again o = rule_in o.number o.rule (o.year +ℤ pos 400)

moves_by : (form : ClockForm) (offset saved second later t : ℤ) → later ≡ second +ℤ pos 12_622_780_800 → t ≡ instant_by form offset saved second
    → t +ℤ pos 12_622_780_800 ≡ instant_by form offset saved later
moves_by Universal offset saved second later t e is = omega (arith, ints)
moves_by Standard offset saved second later t e is = omega (arith, ints)
moves_by Wall offset saved second later t e is = omega (arith, ints)

module _ (set : RuleSet) (offset year : ℤ) (given : IsNamedTo set offset year) where
  sound : All IsSoundRule set.rules
  sound = given.ordered.sound

  order : IsInOrder set offset
  order = given.ordered.order

  -- what comes from the 20th day after the year on is of a later year
  is_after : (o : Occurrence) → IsOccurrence set o → (year_second (year +ℤ pos 1) +ℤ pos (19 * 86_400)) ≤ℤ nominal o → year <ℤ o.year
  is_after o is late =
      by_lt_z year o.year (λ lt. lt)
      (λ le.
      let to = nominal_to set o (o.year +ℤ pos 1) refl sound is in
      let early = not_later (o.year +ℤ pos 1) (year +ℤ pos 1) (omega (arith, ints)) in
      absurd (omega (arith, ints)))

  -- of two occurrences the instant of the one that isn't later isn't later
  pub follow : (p q : Occurrence) (u v : ℤ) → IsOccurrence set p → IsOccurrence set q → IsInstant set offset p u → IsInstant set offset q v
      → nominal p ≤ℤ nominal q → u ≤ℤ v
  follow p q u v is_p is_q at_p at_q le =
      by_lt_z (nominal p) (nominal q)
      (λ lt. let rise = instants_rise set offset p q u v sound order is_p is_q at_p at_q lt in omega (arith, ints))
      (λ ge.
      let same = tied_instants set offset p q u v order is_p is_q (omega (arith, ints)) at_p at_q in
      omega (arith, ints))

  -- ---- late occurrences: those before which one comes from the 20th day after the year on

  pub record IsLate (o : Occurrence) : Type 0 where
    pub before : Occurrence
    pub predecessor : IsPredecessor set o before
    pub late : (year_second (year +ℤ pos 1) +ℤ pos (19 * 86_400)) ≤ℤ nominal before

  late_later : (o q : Occurrence) → IsLate o → IsOccurrence set q → nominal o ≤ℤ nominal q → IsLate q
  late_later o q late is le =
      let earlier = late.predecessor.earlier in
      let after = late.late in
      let (saved, is_saved) = saved_before set q sound is in
      elim is_saved [
        | inl (first, e) ↦
            let least = first late.before late.predecessor.is in
            absurd (omega (arith, ints))
        | inr (p, pred, e) ↦
            let least = pred.greatest late.before late.predecessor.is (omega (arith, ints)) in
            record { before = p; predecessor = pred; late = omega (arith, ints) }
      ]

  predecessor_again : (o p : Occurrence) (later : ℤ) → later ≡ o.year +ℤ pos 400 → IsOccurrence set o → year <ℤ o.year → year <ℤ p.year
      → IsPredecessor set o p → IsPredecessor set (rule_in o.number o.rule later) (again p)
  predecessor_again o p later e is after_o after_p pred =
      let moved_o = nominal_second-period o.year later o.rule.moment e in
      let moved_p = nominal_second-period p.year (p.year +ℤ pos 400) p.rule.moment refl in
      let earlier = pred.earlier in
      let is_again = occurs_after set offset year given p.number p.rule (p.year +ℤ pos 400) pred.is.member
      (continues_after set offset year given p pred.is after_p) (omega (arith, ints)) in
      record {
        is = is_again;
        earlier = omega (arith, ints);
        greatest = λ q is_q less. by_lt_z q.year (year +ℤ pos 400)
            (λ early. let below = two_years set q (again p) sound is_q is_again (omega (arith, ints)) in omega (arith, ints))
            (λ late.
            let continues = continues_after set offset year given q is_q (omega (arith, ints)) in
            let back = occurs_after set offset year given q.number q.rule (q.year -ℤ pos 400) is_q.member continues (omega (arith, ints)) in
            let moved_q = nominal_second-period (q.year -ℤ pos 400) q.year q.rule.moment (omega (arith, ints)) in
            let bound = pred.greatest (rule_in q.number q.rule (q.year -ℤ pos 400)) back (omega (arith, ints)) in
            omega (arith, ints));
      }

  -- their instants come again
  instant_again : (o : Occurrence) (u later : ℤ) → later ≡ o.year +ℤ pos 400 → IsOccurrence set o → IsLate o → IsInstant set offset o u
      → IsInstant set offset (rule_in o.number o.rule later) (u +ℤ pos 12_622_780_800)
  instant_again o u later e is late at =
      let earlier = late.predecessor.earlier in
      let after = late.late in
      record {
        saved = at.saved;
        is_saved = elim at.is_saved [
          | inl (first, none) ↦
              let least = first late.before late.predecessor.is in
              absurd (omega (arith, ints))
          | inr (p, pred, saves) ↦
              let least = pred.greatest late.before late.predecessor.is earlier in
              inr (
                again p,
                predecessor_again o p later e is (is_after o is (omega (arith, ints))) (is_after p pred.is (omega (arith, ints))) pred,
                saves,
              )
        ];
        is = moves_by o.rule.moment.at.form offset at.saved (nominal o) (nominal (rule_in o.number o.rule later)) u
            (nominal_second-period o.year later o.rule.moment e) at.is;
      }

  -- so does the last occurrence not after an instant
  last_again : (t : ℤ) (o : Occurrence) (u : ℤ) → IsLate o → IsLastOccurrence set offset t o u
      → IsLastOccurrence set offset (t +ℤ pos 12_622_780_800) (again o) (u +ℤ pos 12_622_780_800)
  last_again t o u late last =
      let before = last.not_after in
      let earlier = late.predecessor.earlier in
      let from = late.late in
      let after = is_after o last.is (omega (arith, ints)) in
      let is_again = occurs_after set offset year given o.number o.rule (o.year +ℤ pos 400) last.is.member
      (continues_after set offset year given o last.is after) (omega (arith, ints)) in
      let at_again = instant_again o u (o.year +ℤ pos 400) refl last.is late last.instant in
      let moved = nominal_second-period o.year (o.year +ℤ pos 400) o.rule.moment refl in
      record {
        is = is_again;
        instant = at_again;
        not_after = omega (arith, ints);
        last = λ q v is_q at_q le. by_lt_z (nominal (again o)) (nominal q)
            (λ lt.
            let near : (o.year +ℤ pos 399) ≤ℤ q.year = by_lt_z q.year (o.year +ℤ pos 399)
            (λ early. let below = two_years set q (again o) sound is_q is_again (omega (arith, ints)) in absurd (omega (arith, ints)))
            (λ ge. ge) in
            let continues = continues_after set offset year given q is_q (omega (arith, ints)) in
            let back = occurs_after set offset year given q.number q.rule (q.year -ℤ pos 400) is_q.member continues (omega (arith, ints)) in
            let moved_q = nominal_second-period (q.year -ℤ pos 400) q.year q.rule.moment (omega (arith, ints)) in
            let late_back = late_later o (rule_in q.number q.rule (q.year -ℤ pos 400)) late back (omega (arith, ints)) in
            let (w, at) = some_instant set offset (rule_in q.number q.rule (q.year -ℤ pos 400)) sound back in
            let at_later = instant_again (rule_in q.number q.rule (q.year -ℤ pos 400)) w q.year (omega (arith, ints)) back late_back at in
            let same : v ≡ w +ℤ pos 12_622_780_800 = one_instant set offset q v (w +ℤ pos 12_622_780_800) order.differ at_q at_later in
            let rise = instants_rise set offset o (rule_in q.number q.rule (q.year -ℤ pos 400)) u w sound order last.is back last.instant at (omega (arith, ints)) in
            let not_past : w ≤ℤ u = last.last (rule_in q.number q.rule (q.year -ℤ pos 400)) w back at (omega (arith, ints)) in
            absurd (omega (arith, ints)))
            (λ ge. follow q (again o) v (u +ℤ pos 12_622_780_800) is_q is_again at_q at_again ge);
      }

  -- from a late one on each current occurrence comes again
  pub current_again : (s t : ℤ) (o q : Occurrence) (u v : ℤ) → IsLate o → IsLastOccurrence set offset s o u → u ≤ℤ t → IsLastOccurrence set offset t q v
      → IsLastOccurrence set offset (t +ℤ pos 12_622_780_800) (again q) (v +ℤ pos 12_622_780_800)
  current_again s t o q u v late last le last_q =
      let not_before : u ≤ℤ v = last_q.last o u last.is last.instant le in
      let after : nominal o ≤ℤ nominal q = by_lt_z (nominal q) (nominal o)
      (λ lt. let rise = instants_rise set offset q o v u sound order last_q.is last.is last_q.instant last.instant lt in absurd (omega (arith, ints)))
      (λ ge. ge) in
      last_again t q v (late_later o q late last_q.is after) last_q

  -- ---- the last occurrence before the end is late, or its rule is the only one that goes on

  none_before : (o q : Occurrence) (saved : ℤ) → IsSavedBefore set o saved → (IsLate o → ⊥) → IsOccurrence set q → nominal q <ℤ nominal o
      → nominal q <ℤ (year_second (year +ℤ pos 1) +ℤ pos (19 * 86_400))
  none_before o q saved (inl (first, e)) not_late is lt = let least = first q is in absurd (omega (arith, ints))
  none_before o q saved (inr (p, pred, e)) not_late is lt =
      let least = pred.greatest q is lt in
      by_lt_z (nominal p) (year_second (year +ℤ pos 1) +ℤ pos (19 * 86_400))
      (λ early. omega (arith, ints))
      (λ late. absurd (not_late (record { before = p; predecessor = pred; late = late })))

  late_or_not : (o : Occurrence) (saved : ℤ) → IsSavedBefore set o saved → IsLate o ⊎ (IsLate o → ⊥)
  late_or_not o saved (inl (first, e)) =
      inr (λ late. let earlier = late.predecessor.earlier in let least = first late.before late.predecessor.is in absurd (omega (arith, ints)))
  late_or_not o saved (inr (p, pred, e)) =
      by_lt_z (nominal p) (year_second (year +ℤ pos 1) +ℤ pos (19 * 86_400))
      (λ early. inr (λ late.
      let from = late.late in
      let least = pred.greatest late.before late.predecessor.is late.predecessor.earlier in
      absurd (omega (arith, ints))))
      (λ late. inl (record { before = p; predecessor = pred; late = late }))

  only_one : (o : Occurrence) (u saved : ℤ) → IsSavedBefore set o saved → (IsLate o → ⊥) → IsLastOccurrence set offset (year_second (year +ℤ pos 3) -ℤ pos 1) o u
      → year <ℤ o.year → IsOnlyContinuing set o.number o.rule
  only_one o u saved is_saved not_late last after = record {
    member = last.is.member;
    continues = continues_after set offset year given o last.is after;
    only = λ number rule member continues.
        let (later, x, is_x, at_x, late, before) = own_instant set offset year given number rule member continues in
        let not_past : x ≤ℤ u = last.last (rule_in number rule later) x is_x at_x (omega (arith, ints)) in
        let near = instant_near_nominal set offset (rule_in number rule later) x sound given.ordered.within at_x in
        by_lt_z (nominal (rule_in number rule later)) (nominal o)
        (λ lt. let early = none_before o (rule_in number rule later) saved is_saved not_late is_x lt in absurd (omega (arith, ints)))
        (λ ge.
        by_lt_z (nominal o) (nominal (rule_in number rule later))
        (λ lt. let rise = instants_rise set offset o (rule_in number rule later) u x sound order last.is is_x last.instant at_x lt in absurd (omega (arith, ints)))
        (λ le. (order.differ (rule_in number rule later) o is_x last.is (omega (arith, ints))).number));
  }

  pub late_or_only : (o : Occurrence) (u : ℤ) → IsLastOccurrence set offset (year_second (year +ℤ pos 3) -ℤ pos 1) o u → year <ℤ o.year
      → IsLate o ⊎ IsOnlyContinuing set o.number o.rule
  late_or_only o u last after =
      let (saved, is_saved) = saved_before set o sound last.is in
      elim (late_or_not o saved is_saved) [
        | inl late ↦ inl late
        | inr not_late ↦ inr (only_one o u saved is_saved not_late last after)
      ]

  -- ---- rules that alternate

  late_follows : Alternate set year → (q : Occurrence) → IsOccurrence set q → IsLate q → FollowsAnother set year q
  late_follows alternate q is late =
      let earlier = late.predecessor.earlier in
      let from = late.late in
      let after = is_after late.before late.predecessor.is from in
      record {
        before = late.before;
        predecessor = late.predecessor;
        after = after;
        continues = continues_after set offset year given late.before late.predecessor.is after;
        another = alternate q late.before is late.predecessor (is_after q is (omega (arith, ints))) after;
      }

  -- an occurrence four years after the year is late
  fourth_is_late : (number : ℕ) (rule : Rule) → IsMember set number rule → IsContinuing rule → IsLate (rule_in number rule (year +ℤ pos 4))
  fourth_is_late number rule member continues =
      let second = occurs_after set offset year given number rule (year +ℤ pos 2) member continues (omega (arith, ints)) in
      let fourth = occurs_after set offset year given number rule (year +ℤ pos 4) member continues (omega (arith, ints)) in
      let less = two_years set (rule_in number rule (year +ℤ pos 2)) (rule_in number rule (year +ℤ pos 4)) sound second fourth (omega (arith, ints)) in
      let from = nominal_from set (rule_in number rule (year +ℤ pos 2)) sound second in
      let apart = years_apart (year +ℤ pos 1) (year +ℤ pos 2) (omega (arith, ints)) in
      let (saved, is_saved) = saved_before set (rule_in number rule (year +ℤ pos 4)) sound fourth in
      elim is_saved [
        | inl (first, e) ↦
            let least = first (rule_in number rule (year +ℤ pos 2)) second in
            absurd (omega (arith, ints))
        | inr (p, pred, e) ↦
            let least = pred.greatest (rule_in number rule (year +ℤ pos 2)) second less in
            record { before = p; predecessor = pred; late = omega (arith, ints) }
      ]

  -- a rule that goes on alone doesn't alternate
  not_alone : (number : ℕ) (rule : Rule) → IsOnlyContinuing set number rule → Alternate set year → ⊥
  not_alone number rule only alternate =
      let fourth = occurs_after set offset year given number rule (year +ℤ pos 4) only.member only.continues (omega (arith, ints)) in
      let follows = late_follows alternate (rule_in number rule (year +ℤ pos 4)) fourth (fourth_is_late number rule only.member only.continues) in
      follows.another (sym (only.only follows.before.number follows.before.rule follows.predecessor.is.member follows.continues))

  pub follows_another : Alternate set year → (o : Occurrence) (u : ℤ) → IsLastOccurrence set offset (year_second (year +ℤ pos 3) -ℤ pos 1) o u
      → year <ℤ o.year → (q : Occurrence) → IsOccurrence set q → nominal o ≤ℤ nominal q → FollowsAnother set year q
  follows_another alternate o u last after q is le =
      elim (late_or_only o u last after) [
        | inl late ↦ late_follows alternate q is (late_later o q late is le)
        | inr only ↦ absurd (not_alone o.number o.rule only alternate)
      ]
