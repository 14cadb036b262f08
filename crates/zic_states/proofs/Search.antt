-- Search among the occurrences of a set: of those with a property that can be decided, and that none of a late year has, one is of
-- the greatest nominal second, or there is none.
use Rattle.std.proofs.Common.{◌≡◌, ℕ, zero, suc, ◌<◌, ◌≤◌, ◌⊎◌, inl, inr, refl, ap, subst, arith, ℤ, pos, ◌<ℤ◌, ◌≤ℤ◌, length, Option, Some, None, IfSome}
use Rattle.std.specs.Prelude.{slice_get}
use Rattle.std.proofs.lemmas.Int.{ints, by_lt_z}
use Rattle.std.proofs.lemmas.Bool.{cases_Bool, cases_lt}
use Rattle.std.proofs.lemmas.Option.{slice_get_within}
use Rattle.zic_lines.specs.declared.rule_line.Rule.{Rule}
use Rattle.zic_source.specs.Source.{is_of_set}
use Rattle.zic_source.specs.Sound.{OccursIn}
use Rattle.zic_base.proofs.Elements.{got}
use Rattle.zic_states.specs.Occurrence.{RuleSet, Occurrence, IsOccurrence, AreSame, nominal}
use Rattle.zic_states.proofs.Same.{same_numbered}

-- o has the property, and of those that have it the greatest nominal second
pub record IsGreatest (P : Occurrence → Type 0) (o : Occurrence) : Type 0 where
  pub holds : P o
  pub bound : (q : Occurrence) → P q → nominal q ≤ℤ nominal o

-- there is such a one, or none has the property
abbrev pub GreatestOrNone : (Occurrence → Type 0) → Type 0
GreatestOrNone P = ((o : Occurrence) × IsGreatest P o) ⊎ ((q : Occurrence) → P q → ⊥)

-- each occurrence is known to have the property or not, and only those of the years before the end have it
pub record IsSearchable (set : RuleSet) (P : Occurrence → Type 0) (end : ℕ) : Type 0 where
  pub decide : (o : Occurrence) → IsOccurrence set o → P o ⊎ (P o → ⊥)
  pub is : (o : Occurrence) → P o → IsOccurrence set o
  pub ends : (o : Occurrence) → P o → o.year <ℤ pos end

-- the greater of what two searches find, which cover all together
greater : (P Q R : Occurrence → Type 0) → GreatestOrNone P → GreatestOrNone Q → ((q : Occurrence) → P q → R q) → ((q : Occurrence) → Q q → R q) → ((q : Occurrence) → R q → P q ⊎ Q q) → GreatestOrNone R
greater P Q R (inl a) (inl b) from_p from_q cover =
    by_lt_z (nominal a.0) (nominal b.0)
    (λ lt. inl (b.0, record { holds = from_q b.0 b.1.holds; bound = λ q r. elim (cover q r) [ inl p ↦ omega (arith, ints, a.1.bound q p) | inr p ↦ b.1.bound q p ] }))
    (λ ge. inl (a.0, record { holds = from_p a.0 a.1.holds; bound = λ q r. elim (cover q r) [ inl p ↦ a.1.bound q p | inr p ↦ omega (arith, ints, b.1.bound q p) ] }))
greater P Q R (inl a) (inr none) from_p from_q cover =
    inl (a.0, record { holds = from_p a.0 a.1.holds; bound = λ q r. elim (cover q r) [ inl p ↦ a.1.bound q p | inr p ↦ absurd (none q p) ] })
greater P Q R (inr none) (inl b) from_p from_q cover =
    inl (b.0, record { holds = from_q b.0 b.1.holds; bound = λ q r. elim (cover q r) [ inl p ↦ absurd (none q p) | inr p ↦ b.1.bound q p ] })
greater P Q R (inr none) (inr neither) from_p from_q cover =
    inr (λ q r. elim (cover q r) [ inl p ↦ none q p | inr p ↦ neither q p ])

-- ---- whether a rule occurs in a year

ends_before : (last : Option ℕ) (year : ℤ) → IfSome last (λ n. year ≤ℤ pos n) ⊎ (IfSome last (λ n. year ≤ℤ pos n) → ⊥)
ends_before (Some n) year = by_lt_z (pos n) year (λ lt. inr (λ le. absurd (omega (arith, ints)))) (λ ge. inl ge)
ends_before None year = inl tt

occurs_or_not : (rule : Rule) (year : ℤ) → OccursIn rule year ⊎ (OccursIn rule year → ⊥)
occurs_or_not rule year =
    by_lt_z year (pos rule.first)
    (λ lt. inr (λ occurs. absurd (omega (arith, ints, occurs.begun))))
    (λ ge. elim (ends_before rule.last year) [
      | inl holds ↦ inl (record { begun = ge; not_over = holds })
      | inr over ↦ inr (λ occurs. over occurs.not_over)
    ])

is_or_not : (set : RuleSet) (o : Occurrence) → slice_get set.rules o.number ≡ Some o.rule → IsOccurrence set o ⊎ (IsOccurrence set o → ⊥)
is_or_not set o numbered =
    elim (cases_Bool (is_of_set set.name o.rule)) [
      | inl of_set ↦ elim (occurs_or_not o.rule o.year) [
        | inl holds ↦ inl (record { member = record { numbered = numbered; of_set = of_set }; holds = holds })
        | inr over ↦ inr (λ is. over is.holds)
      ]
      | inr other ↦ inr (λ is. let of_set = is.member.of_set in absurd cc)
    ]

-- ---- the search

at_one : (set : RuleSet) (P : Occurrence → Type 0) (end : ℕ) → IsSearchable set P end → (o : Occurrence) → slice_get set.rules o.number ≡ Some o.rule → GreatestOrNone (λ q. P q × AreSame q o)
at_one set P end search o numbered =
    let same : (q : Occurrence) → P q → AreSame q o → q ≡ o = λ q p. same_numbered set q o (search.is q p).member.numbered numbered in
    elim (is_or_not set o numbered) [
      | inl is ↦ elim (search.decide o is) [
        | inl p ↦ inl (o, record { holds = (p, record { number = refl; year = refl }); bound = λ q h. omega (arith, ints, ap (λ (z : Occurrence). nominal z) (same q h.0 h.1)) })
        | inr fails ↦ inr (λ q h. fails (subst P (same q h.0 h.1) h.0))
      ]
      | inr never ↦ inr (λ q h. never (subst (IsOccurrence set) (same q h.0 h.1) (search.is q h.0)))
    ]

-- of one rule, in the years from 0 on and below n
of_rule : (set : RuleSet) (P : Occurrence → Type 0) (end : ℕ) → IsSearchable set P end → (number : ℕ) (rule : Rule) → slice_get set.rules number ≡ Some rule → (n : ℕ) → GreatestOrNone (λ q. P q × (q.number ≡ number) × (q.year <ℤ pos n))
of_rule set P end search number rule numbered zero = inr (λ q h. absurd (omega (arith, ints, h.2, (search.is q h.0).holds.begun)))
of_rule set P end search number rule numbered (suc n) =
    greater (λ q. P q × (q.number ≡ number) × (q.year <ℤ pos n)) (λ q. P q × AreSame q (record { number = number; rule = rule; year = pos n })) (λ q. P q × (q.number ≡ number) × (q.year <ℤ pos (suc n)))
    (of_rule set P end search number rule numbered n)
    (at_one set P end search (record { number = number; rule = rule; year = pos n }) numbered)
    (λ q h. (h.0, h.1, omega (arith, ints, h.2)))
    (λ q h. (h.0, h.1.number, omega (arith, ints, h.1.year)))
    (λ q h. by_lt_z q.year (pos n) (λ lt. inl (h.0, h.1, lt)) (λ ge. inr (h.0, record { number = h.1; year = omega (arith, ints, h.2) })))

-- of the first rules
of_rules : (set : RuleSet) (P : Occurrence → Type 0) (end : ℕ) → IsSearchable set P end → (n : ℕ) → n ≤ length set.rules → GreatestOrNone (λ q. P q × (q.number < n))
of_rules set P end search zero le = inr (λ q h. absurd (omega (arith, h.1)))
of_rules set P end search (suc n) le =
    let rule = got set.rules n (omega arith) in
    greater (λ q. P q × (q.number < n)) (λ q. P q × (q.number ≡ n) × (q.year <ℤ pos end)) (λ q. P q × (q.number < suc n))
    (of_rules set P end search n (omega arith))
    (of_rule set P end search n rule.0 rule.1 end)
    (λ q h. (h.0, omega (arith, h.1)))
    (λ q h. (h.0, omega (arith, h.1)))
    (λ q h. elim (cases_lt q.number n) [ inl lt ↦ inl (h.0, lt) | inr ge ↦ inr (h.0, omega (arith, h.1), search.ends q h.0) ])

-- each search ends
pub greatest_or_none : (set : RuleSet) (P : Occurrence → Type 0) (end : ℕ) → IsSearchable set P end → GreatestOrNone P
greatest_or_none set P end search =
    let among : (q : Occurrence) → P q → q.number < length set.rules = λ q p. slice_get_within set.rules q.number q.rule (search.is q p).member.numbered in
    elim (of_rules set P end search (length set.rules) (omega arith)) [
      | inl found ↦ inl (found.0, record { holds = found.1.holds.0; bound = λ q p. found.1.bound q (p, among q p) })
      | inr none ↦ inr (λ q p. none q (p, among q p))
    ]
