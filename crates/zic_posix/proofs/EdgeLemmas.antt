-- An edge that is read is the edge that is spelled, and what is spelled is read.
use Rattle.std.proofs.Common.{◌≡◌, ℕ, ◌⊎◌, eqb, Bool, true, cond, Option, Some, List, [], ◌∷◌, ◌++◌, ℤ, pos, refl, sym, ap, subst, ◌∙◌, append_assoc, arith, inl, inr}
use Rattle.std.proofs.lemmas.Bool.{eqb-true, ne_eqb}
use Rattle.zic_base.specs.Option.{◌>>=◌}
use Rattle.zic_posix.specs.declared.footer.DayRule.{DayRule}
use Rattle.zic_posix.specs.declared.footer.DayRule.TheVariants.{J, N, M}
use Rattle.zic_posix.specs.declared.footer.Edge.{Edge}
use Rattle.std.specs.Char.{is_ascii_digit}
use Rattle.zic_posix.specs.Grammar.{SpellsNumber, SpellsDay, SpellsTime, SpellsEdge, IsDay, IsEdge}
use Rattle.zic_posix.specs.code.Reading.{after, number_at, julian_at, numbered_at, digit_at, weekday_at, day_at, time_at, edge_time_at, edge_at, next_edge_at}
use Rattle.zic_posix.proofs.Steps.{bind_some, branch, some_is, after_takes, NotFirst, BeginsWith}
use Rattle.zic_posix.proofs.NumberLemmas.{digit_range, number_again, number_takes}
use Rattle.zic_posix.proofs.ClockLemmas.{EndsClock, first_digit}
use Rattle.zic_posix.proofs.SignedLemmas.{time_again, time_takes, time_limit}

-- ---- days

julian_again : (digits : List ℕ) (day : ℕ) (rest : List ℕ) → SpellsNumber 3 1 365 digits day → NotFirst is_ascii_digit rest → day_at (74 ∷ (digits ++ rest)) ≡ Some (J day, rest)
unfolding day_at julian_at
julian_again digits day rest spells ends = rw (number_again 3 1 365 day digits rest spells ends) refl

numbered_by : (text : List ℕ) (b : ℕ) (more : List ℕ) → text ≡ b ∷ more → is_ascii_digit b ≡ true → day_at text ≡ numbered_at text
unfolding day_at
numbered_by text b more e digit =
    let range = digit_range b digit in
    rw e (rw (ne_eqb b 74 (λ e. omega arith), ne_eqb b 77 (λ e. omega arith)) refl)

numbered_again : (text : List ℕ) (day : ℕ) (rest : List ℕ) → SpellsNumber 3 0 365 text day → NotFirst is_ascii_digit rest → numbered_at (text ++ rest) ≡ Some (N day, rest)
unfolding numbered_at
numbered_again text day rest spells ends = rw (number_again 3 0 365 day text rest spells ends) refl

digit_again : (least most n : ℕ) (text rest : List ℕ) → SpellsNumber 1 least most text n → NotFirst is_ascii_digit rest → digit_at least most (46 ∷ (text ++ rest)) ≡ Some (n, rest)
unfolding digit_at after
digit_again least most n text rest spells ends = number_again 1 least most n text rest spells ends

weekday_by : (text a b rest : List ℕ) (month week weekday : ℕ) → number_at 2 1 12 text ≡ Some (month, a) → digit_at 1 5 a ≡ Some (week, b) → digit_at 0 6 b ≡ Some (weekday, rest) → day_at (77 ∷ text) ≡ Some (M month week weekday, rest)
unfolding day_at weekday_at
weekday_by text a b rest month week weekday em ew ed = rw (em, ew, ed) refl

-- what is spelled is read
pub day_again : (text : List ℕ) (day : DayRule) (rest : List ℕ) → SpellsDay text day → NotFirst is_ascii_digit rest → day_at (text ++ rest) ≡ Some (day, rest)
day_again text (J day) rest spells ends = rw spells.1 (julian_again spells.0 day rest spells.2 ends)
day_again text (N day) rest spells ends =
    let first = first_digit 3 0 365 text rest day spells in
    numbered_by (text ++ rest) first.0 first.1 first.2 first.3 ∙ numbered_again text day rest spells ends
day_again text (M month week weekday) rest spells ends =
    let months = spells.0 in
    let weeks = spells.1 in
    let weekdays = spells.2 in
    rw (spells.3, append_assoc months (46 ∷ (weeks ++ 46 ∷ weekdays)) rest, append_assoc weeks (46 ∷ weekdays) rest)
    (weekday_by (months ++ 46 ∷ (weeks ++ 46 ∷ (weekdays ++ rest))) (46 ∷ (weeks ++ 46 ∷ (weekdays ++ rest))) (46 ∷ (weekdays ++ rest)) rest month week weekday
    (number_again 2 1 12 month months (46 ∷ (weeks ++ 46 ∷ (weekdays ++ rest))) spells.4 refl)
    (digit_again 1 5 week weeks (46 ∷ (weekdays ++ rest)) spells.5 refl)
    (digit_again 0 6 weekday weekdays rest spells.6 ends))

-- the text begins with what spells a day
abbrev BeginsWithDay : List ℕ → DayRule → List ℕ → Type 0
BeginsWithDay text day rest = BeginsWith (λ front. SpellsDay front day) text rest

julian_takes : (text : List ℕ) (day : DayRule) (rest : List ℕ) → julian_at text ≡ Some (day, rest) → BeginsWithDay (74 ∷ text) day rest
unfolding julian_at
julian_takes text day rest e =
    let n = bind_some (number_at 3 1 365 text) (λ day. Some (J day.0, day.1)) (day, rest) e in
    let t = number_takes 3 1 365 text n.0.0 n.0.1 n.1 in
    subst (λ (q : DayRule × List ℕ). BeginsWithDay (74 ∷ text) q.0 q.1) (some_is (J n.0.0, n.0.1) (day, rest) n.2)
    (record { front = 74 ∷ t.front; parts = ap (λ (x : List ℕ). 74 ∷ x) t.parts; spells = (t.front, refl, t.spells) })

numbered_takes : (text : List ℕ) (day : DayRule) (rest : List ℕ) → numbered_at text ≡ Some (day, rest) → BeginsWithDay text day rest
unfolding numbered_at
numbered_takes text day rest e =
    let n = bind_some (number_at 3 0 365 text) (λ day. Some (N day.0, day.1)) (day, rest) e in
    let t = number_takes 3 0 365 text n.0.0 n.0.1 n.1 in
    subst (λ (q : DayRule × List ℕ). BeginsWithDay text q.0 q.1) (some_is (N n.0.0, n.0.1) (day, rest) n.2)
    (record { front = t.front; parts = t.parts; spells = t.spells })

digit_takes : (least most : ℕ) (text : List ℕ) (n : ℕ) (rest : List ℕ) → digit_at least most text ≡ Some (n, rest) → (digits : List ℕ) × (text ≡ 46 ∷ (digits ++ rest)) × SpellsNumber 1 least most digits n
unfolding digit_at
digit_takes least most text n rest e =
    let dot = bind_some (after 46 text) (λ digit. number_at 1 least most digit) (n, rest) e in
    let t = number_takes 1 least most dot.0 n rest dot.2 in
    (t.front, after_takes 46 text dot.0 dot.1 ∙ ap (λ (x : List ℕ). 46 ∷ x) t.parts, t.spells)

weekday_made : (text a b rest : List ℕ) (month week weekday : ℕ) → number_at 2 1 12 text ≡ Some (month, a) → digit_at 1 5 a ≡ Some (week, b) → digit_at 0 6 b ≡ Some (weekday, rest) → BeginsWithDay (77 ∷ text) (M month week weekday) rest
weekday_made text a b rest month week weekday em ew ed =
    let m = number_takes 2 1 12 text month a em in
    let w = digit_takes 1 5 a week b ew in
    let d = digit_takes 0 6 b weekday rest ed in
    record {
      front = 77 ∷ (m.front ++ 46 ∷ (w.0 ++ 46 ∷ d.0));
      parts =
          rw (append_assoc m.front (46 ∷ (w.0 ++ 46 ∷ d.0)) rest, append_assoc w.0 (46 ∷ d.0) rest)
          (ap (λ (x : List ℕ). 77 ∷ x) (m.parts ∙ ap (λ (x : List ℕ). m.front ++ x) (w.1 ∙ ap (λ (x : List ℕ). 46 ∷ (w.0 ++ x)) d.1)));
      spells = (m.front, w.0, d.0, refl, m.spells, w.2, d.2);
    }

-- what follows a month and a week
abbrev after_week : ℕ → ℕ × List ℕ → Option (DayRule × List ℕ)
after_week month week = digit_at 0 6 week.1 >>= λ weekday. Some (M month week.0 weekday.0, weekday.1)

-- what follows a month
abbrev after_month : ℕ × List ℕ → Option (DayRule × List ℕ)
after_month month = digit_at 1 5 month.1 >>= after_week month.0

week_takes : (text a rest : List ℕ) (month : ℕ) (day : DayRule) → number_at 2 1 12 text ≡ Some (month, a) → after_month (month, a) ≡ Some (day, rest) → BeginsWithDay (77 ∷ text) day rest
week_takes text a rest month day em e =
    let week = bind_some (digit_at 1 5 a) (after_week month) (day, rest) e in
    let weekday = bind_some (digit_at 0 6 week.0.1) (λ weekday. Some (M month week.0.0 weekday.0, weekday.1)) (day, rest) week.2 in
    subst (λ (q : DayRule × List ℕ). BeginsWithDay (77 ∷ text) q.0 q.1) (some_is (M month week.0.0 weekday.0.0, weekday.0.1) (day, rest) weekday.2)
    (weekday_made text a week.0.1 weekday.0.1 month week.0.0 weekday.0.0 em week.1 weekday.1)

weekday_takes : (text : List ℕ) (day : DayRule) (rest : List ℕ) → weekday_at text ≡ Some (day, rest) → BeginsWithDay (77 ∷ text) day rest
unfolding weekday_at
weekday_takes text day rest e =
    let month = bind_some (number_at 2 1 12 text) after_month (day, rest) e in
    week_takes text month.0.1 rest month.0.0 day month.1 month.2

-- what is read is spelled
pub day_takes : (text : List ℕ) (day : DayRule) (rest : List ℕ) → day_at text ≡ Some (day, rest) → BeginsWith (λ front. SpellsDay front day) text rest
unfolding day_at
day_takes [] day rest e = absurd cc
day_takes (b ∷ text) day rest e =
    elim (branch (eqb b 74) (julian_at text) (cond (eqb b 77) (weekday_at text) (numbered_at (b ∷ text))) (Some (day, rest)) e) [
      | inl julian ↦ subst (λ (c : ℕ). BeginsWithDay (c ∷ text) day rest) (sym (eqb-true b 74 julian.0)) (julian_takes text day rest julian.1)
      | inr other ↦ elim (branch (eqb b 77) (weekday_at text) (numbered_at (b ∷ text)) (Some (day, rest)) other.1) [
        | inl weekday ↦ subst (λ (c : ℕ). BeginsWithDay (c ∷ text) day rest) (sym (eqb-true b 77 weekday.0)) (weekday_takes text day rest weekday.1)
        | inr numbered ↦ numbered_takes (b ∷ text) day rest numbered.1
      ]
    ]

-- a day keeps its limits
pub day_limit : (text : List ℕ) (day : DayRule) → SpellsDay text day → IsDay day
day_limit text (J day) spells = (spells.2.at_least, spells.2.at_most)
day_limit text (N day) spells = spells.at_most
day_limit text (M month week weekday) spells =
    (spells.4.at_least, spells.4.at_most, spells.5.at_least, spells.5.at_most, spells.6.at_most)

-- ---- edges

abbrev is_slash : ℕ → Bool
is_slash b = eqb b 47

-- nothing that goes on an edge stands there
pub record EndsEdge (rest : List ℕ) : Type 0 where
  pub clock : EndsClock rest
  pub no_slash : NotFirst is_slash rest

-- the end of the text
pub ends_edge : EndsEdge []
ends_edge = record { clock = record { no_digit = tt; no_colon = tt }; no_slash = tt }

-- a comma
pub comma_ends_edge : (rest : List ℕ) → EndsEdge (44 ∷ rest)
comma_ends_edge rest = record { clock = record { no_digit = refl; no_colon = refl }; no_slash = refl }

edge_time_none : (version : ℕ) (rest : List ℕ) → NotFirst is_slash rest → edge_time_at version rest ≡ Some (pos 7200, rest)
unfolding edge_time_at
edge_time_none version [] ends = refl
edge_time_none version (b ∷ rest) ends = rw ends refl

edge_time_again : (version : ℕ) (text : List ℕ) (time : ℤ) (rest : List ℕ) → SpellsTime version text time → EndsEdge rest → edge_time_at version (47 ∷ (text ++ rest)) ≡ Some (time, rest)
unfolding edge_time_at
edge_time_again version text time rest spells ends = time_again version text time rest spells ends.clock

edge_by : (version : ℕ) (text back rest : List ℕ) (edge : Edge) → day_at text ≡ Some (edge.day, back) → edge_time_at version back ≡ Some (edge.time, rest) → edge_at version text ≡ Some (edge, rest)
unfolding edge_at
edge_by version text back rest edge ed et = rw (ed, et) refl

-- what is spelled is read
pub edge_again : (version : ℕ) (text : List ℕ) (edge : Edge) (rest : List ℕ) → SpellsEdge version text edge → EndsEdge rest → edge_at version (text ++ rest) ≡ Some (edge, rest)
edge_again version text edge rest spells ends =
    let day = spells.day in
    let read = λ (back : List ℕ) (ended : NotFirst is_ascii_digit back). day_again day edge.day back spells.spells_day ended in
    elim spells.form [
      | inl f ↦ rw f.0 (edge_by version (day ++ rest) rest rest edge (read rest ends.clock.no_digit) (edge_time_none version rest ends.no_slash ∙ ap (λ (t : ℤ). Some (t, rest)) (sym f.1)))
      | inr f ↦ rw (f.1, append_assoc day (47 ∷ f.0) rest) (edge_by version (day ++ 47 ∷ (f.0 ++ rest)) (47 ∷ (f.0 ++ rest)) rest edge (read (47 ∷ (f.0 ++ rest)) refl) (edge_time_again version f.0 edge.time rest f.2 ends))
    ]

-- what the time of an edge is
abbrev IsEdgeTime : ℕ → List ℕ → ℤ → List ℕ → Type 0
IsEdgeTime version text time rest =
    ((text ≡ rest) × (time ≡ pos 7200)) ⊎ ((front : List ℕ) × (text ≡ 47 ∷ (front ++ rest)) × SpellsTime version front time)

edge_time_takes : (version : ℕ) (text : List ℕ) (time : ℤ) (rest : List ℕ) → (version ≡ 2) ⊎ (version ≡ 3) → edge_time_at version text ≡ Some (time, rest) → IsEdgeTime version text time rest
unfolding edge_time_at
edge_time_takes version [] time rest known e =
    subst (λ (q : ℤ × List ℕ). IsEdgeTime version [] q.0 q.1) (some_is (pos 7200, []) (time, rest) e) (inl (refl, refl))
edge_time_takes version (b ∷ text) time rest known e =
    elim (branch (eqb b 47) (time_at version text) (Some (pos 7200, b ∷ text)) (Some (time, rest)) e) [
      | inl slash ↦ (let t = time_takes version text time rest known slash.1 in inr (t.front, subst (λ (x : List ℕ). b ∷ text ≡ 47 ∷ x) t.parts (ap (λ (c : ℕ). c ∷ text) (eqb-true b 47 slash.0)), t.spells))
      | inr none ↦ subst (λ (q : ℤ × List ℕ). IsEdgeTime version (b ∷ text) q.0 q.1) (some_is (pos 7200, b ∷ text) (time, rest) none.1) (inl (refl, refl))
    ]

edge_made : (version : ℕ) (text back rest : List ℕ) (day : DayRule) (time : ℤ) → BeginsWithDay text day back → IsEdgeTime version back time rest → BeginsWith (λ front. SpellsEdge version front (record { day = day; time = time })) text rest
edge_made version text back rest day time d (inl none) = record {
  front = d.front;
  parts = rw (← none.0) d.parts;
  spells = record { day = d.front; spells_day = d.spells; form = inl (refl, none.1) };
}
edge_made version text back rest day time d (inr some) = record {
  front = d.front ++ 47 ∷ some.0;
  parts = rw (append_assoc d.front (47 ∷ some.0) rest) (d.parts ∙ ap (λ (x : List ℕ). d.front ++ x) some.1);
  spells = record { day = d.front; spells_day = d.spells; form = inr (some.0, refl, some.2) };
}

-- what is read is spelled
pub edge_takes : (version : ℕ) (text : List ℕ) (edge : Edge) (rest : List ℕ) → (version ≡ 2) ⊎ (version ≡ 3) → edge_at version text ≡ Some (edge, rest) → BeginsWith (λ front. SpellsEdge version front edge) text rest
unfolding edge_at
edge_takes version text edge rest known e =
    let day = bind_some (day_at text) (λ day. edge_time_at version day.1 >>= λ time. Some (record { day = day.0; time = time.0 }, time.1)) (edge, rest) e in
    let time = bind_some (edge_time_at version day.0.1) (λ time. Some (record { day = day.0.0; time = time.0 }, time.1)) (edge, rest) day.2 in
    let made : Edge = record { day = day.0.0; time = time.0.0 } in
    subst (λ (q : Edge × List ℕ). BeginsWith (λ front. SpellsEdge version front q.0) text q.1) (some_is (made, time.0.1) (edge, rest) time.2)
    (edge_made version text day.0.1 time.0.1 day.0.0 time.0.0 (day_takes text day.0.0 day.0.1 day.1) (edge_time_takes version day.0.1 time.0.0 time.0.1 known time.1))

-- what is spelled is read
pub next_edge_again : (version : ℕ) (text : List ℕ) (edge : Edge) (rest : List ℕ) → SpellsEdge version text edge → EndsEdge rest → next_edge_at version (44 ∷ (text ++ rest)) ≡ Some (edge, rest)
unfolding next_edge_at after
next_edge_again version text edge rest spells ends = edge_again version text edge rest spells ends

-- what is read is spelled
pub next_edge_takes : (version : ℕ) (text : List ℕ) (edge : Edge) (rest : List ℕ) → (version ≡ 2) ⊎ (version ≡ 3) → next_edge_at version text ≡ Some (edge, rest) → (front : List ℕ) × (text ≡ 44 ∷ (front ++ rest)) × SpellsEdge version front edge
unfolding next_edge_at
next_edge_takes version text edge rest known e =
    let comma = bind_some (after 44 text) (λ back. edge_at version back) (edge, rest) e in
    let t = edge_takes version comma.0 edge rest known comma.2 in
    (t.front, after_takes 44 text comma.0 comma.1 ∙ ap (λ (x : List ℕ). 44 ∷ x) t.parts, t.spells)

-- an edge keeps its limits
pub edge_limit : (version : ℕ) (text : List ℕ) (edge : Edge) → SpellsEdge version text edge → IsEdge edge
edge_limit version text edge spells = record {
  day = day_limit spells.day edge.day spells.spells_day;
  time = elim spells.form [
    | inl f ↦ rw f.1 (omega arith)
    | inr f ↦ time_limit version f.0 edge.time f.2
  ];
}
