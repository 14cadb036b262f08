-- A file has one text.
use Rattle.std.proofs.Common.{◌≡◌, ℕ, ℤ, List, [], ◌∷◌, ◌++◌, Option, refl, sym, subst, ◌∙◌, ap, arith}
use Rattle.std.proofs.lemmas.Int.{ints, by_lt_z}
use Rattle.std.specs.List.{flat_map}
use Rattle.zic_base.specs.State.{Shown}
use Rattle.zic_calendar.specs.Laws.{NameOneCivil}
use Rattle.zic_calendar.specs.declared.civil_time.Civil.{Civil}
use Rattle.zic_tzif.specs.Content.{Content}
use Rattle.zic_tzif.specs.Answer.{Answers}
use Rattle.zic_tzif.specs.Laws.{FilesSayOne}
use Rattle.zic_tzif.proofs.AnswerLemmas.{one_answer}
use Rattle.zic_dump.specs.Changes.{Change, IsLocalAt, IsNext, AreChanges, shown_for}
use Rattle.zic_dump.specs.Text.{IsDump, change_line, head_text}
use Rattle.zic_dump.specs.Years.{Between, year_instant}

abbrev civil : ℤ → ℕ → ℕ → ℕ → ℕ → ℕ → Civil
civil year month day hour minute second = record { year = year; month = month; day = day; hour = hour; minute = minute; second = second }

-- a civil time is its numbers
same_civil : (a b : Civil) → (a.year ≡ b.year) × (a.month ≡ b.month) × (a.day ≡ b.day) × (a.hour ≡ b.hour) × (a.minute ≡ b.minute) × (a.second ≡ b.second) → a ≡ b
same_civil a b (year, month, day, hour, minute, second) =
    ap (λ (y : ℤ). civil y a.month a.day a.hour a.minute a.second) year
    ∙ ap (λ (m : ℕ). civil b.year m a.day a.hour a.minute a.second) month
    ∙ ap (λ (d : ℕ). civil b.year b.month d a.hour a.minute a.second) day
    ∙ ap (λ (h : ℕ). civil b.year b.month b.day h a.minute a.second) hour
    ∙ ap (λ (m : ℕ). civil b.year b.month b.day b.hour m a.second) minute
    ∙ ap (λ (s : ℕ). civil b.year b.month b.day b.hour b.minute s) second

abbrev change : ℤ → Option Shown → Civil → Change
change instant answer local = record { instant = instant; answer = answer; local = local }

module _ (one_civil : NameOneCivil) where
  -- one local time
  one_local : (t : ℤ) (state : Shown) (a b : Civil) → IsLocalAt t state a → IsLocalAt t state b → a ≡ b
  one_local t state a b is other = same_civil a b (one_civil _ _ a b is.date is.time other.date other.time)

  module _ (content : Content) where
    -- one first change
    one_instant : (first last : ℤ) (c d : Change) → IsNext content first last c → IsNext content first last d → c.instant ≡ d.instant
    one_instant first last c d is other = by_lt_z c.instant d.instant
        (λ before. absurd (other.none_before c.instant is.later (omega (arith, ints, before)) is.changes))
        (λ from. by_lt_z d.instant c.instant
        (λ before. absurd (is.none_before d.instant other.later (omega (arith, ints, before)) other.changes))
        (λ to. omega (arith, ints, from, to)))

    one_change : (first last : ℤ) (c d : Change) → IsNext content first last c → IsNext content first last d → c ≡ d
    one_change first last c d is other =
        let instant = one_instant first last c d is other in
        let answers = subst (λ (t : ℤ). Answers content t c.answer) instant is.answers in
        let answer = one_answer content d.instant c.answer d.answer answers other.answers in
        let at = subst (λ (t : ℤ). IsLocalAt t (shown_for c.answer) c.local) instant is.local in
        let local = one_local d.instant (shown_for d.answer) c.local d.local (subst (λ (a : Option Shown). IsLocalAt d.instant (shown_for a) c.local) answer at) other.local in
        ap (λ (t : ℤ). change t c.answer c.local) instant ∙ ap (λ (a : Option Shown). change d.instant a c.local) answer
        ∙ ap (λ (l : Civil). change d.instant d.answer l) local

    -- one list of changes
    one_list : (first last : ℤ) (cs ds : List Change) → AreChanges content first last cs → AreChanges content first last ds → cs ≡ ds
    one_list first last [] [] are others = refl
    one_list first last [] (d ∷ ds) are others = absurd (are d.instant others.0.later others.0.within others.0.changes)
    one_list first last (c ∷ cs) [] are others = absurd (others c.instant are.0.later are.0.within are.0.changes)
    one_list first last (c ∷ cs) (d ∷ ds) are others =
        let same = one_change first last c d are.0 others.0 in
        let rest = one_list d.instant last cs ds (subst (λ (x : Change). AreChanges content x.instant last cs) same are.1) others.1 in
        ap (λ (x : Change). x ∷ cs) same ∙ ap (λ (xs : List Change). d ∷ xs) rest

pub one_dump : FilesSayOne → NameOneCivil → (path bytes : List ℕ) (years : Between) (a b : List ℕ) → IsDump path bytes years a → IsDump path bytes years b → a ≡ b
one_dump one one_civil path bytes years a b is other =
    let same = one bytes is.content other.content is.is_file other.is_file in
    let first = year_instant years.from in
    let last = year_instant years.to in
    let answers = subst (λ (c : Content). Answers c first is.before) same is.answers in
    let before = one_answer other.content first is.before other.before answers other.answers in
    let are = subst (λ (c : Content). AreChanges c first last is.changes) same is.are_changes in
    let changes = one_list one_civil other.content first last is.changes other.changes are other.are_changes in
    is.is ∙ ap (λ (o : Option Shown). head_text path o ++ flat_map change_line is.changes) before
    ∙ ap (λ (cs : List Change). head_text path other.before ++ flat_map change_line cs) changes ∙ sym other.is
