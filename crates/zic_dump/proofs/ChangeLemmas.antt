-- Changes up to a later instant.
use Rattle.std.proofs.Common.{◌≡◌, ℕ, ℤ, pos, ◌-ℤ◌, ◌+ℤ◌, ◌<ℤ◌, ◌≤ℤ◌, List, [], ◌∷◌, ◌++◌, Option, ◌<◌, unsigned_abs, sym, subst, ◌∙◌, ap, append_assoc, append-nil, arith}
use Rattle.std.proofs.lemmas.Int.{ints, clamps, by_lt_z}
use Rattle.std.proofs.lemmas.Grind.{flat_map-append}
use Rattle.std.specs.Int.{int_max}
use Rattle.std.specs.List.{flat_map}
use Rattle.zic_base.specs.State.{Shown}
use Rattle.zic_posix.specs.declared.span.Instants.{Instants}
use Rattle.zic_posix.specs.Instants.{Includes}
use Rattle.zic_tzif.specs.Content.{Content}
use Rattle.zic_tzif.specs.Answer.{AnswersThroughout, Answers}
use Rattle.zic_tzif.proofs.AnswerLemmas.{one_answer}
use Rattle.zic_dump.specs.Changes.{Change, StaysSame, IsNext, AreChanges, HasLocalTime}
use Rattle.zic_dump.specs.Text.{change_line}

module _ (content : Content) where
  -- nothing changes after an instant of a span and up to its end
  pub same_in_span : (instants : Instants) (answer : Option Shown) (first last : ℤ) → AnswersThroughout content instants answer
      → Includes instants first → last ≤ℤ instants.last → StaysSame content first last
  same_in_span instants answer first last throughout from within = λ t after before change.
      let in_before : Includes instants (t -ℤ pos 1) = record {
        from = let low = from.from in omega (arith, ints);
        to = omega (arith, ints);
      } in
      let in_after : Includes instants t = record { from = let low = from.from in omega (arith, ints); to = omega (arith, ints) } in
      change.differ
      (one_answer content (t -ℤ pos 1) change.before answer change.is_before (throughout (t -ℤ pos 1) in_before)
      ∙ one_answer content t answer change.after (throughout t in_after) change.is_after)

  pub same_on : (first at last : ℤ) → StaysSame content first at → StaysSame content at last → StaysSame content first last
  same_on first at last here there = λ t after before change.
      by_lt_z at t (λ later. there t later before change) (λ earlier. here t after earlier change)

  -- the changes up to an instant are those up to a later one, where none lies between
  pub changes_on : (first at last : ℤ) (changes : List Change) → at ≤ℤ last → AreChanges content first at changes → StaysSame content at last
      → AreChanges content first last changes
  changes_on first at last [] order are same = same_on first at last are same
  changes_on first at last (c ∷ cs) order are same = (
    record {
      later = are.0.later;
      within = let within = are.0.within in omega (arith, ints);
      none_before = are.0.none_before;
      changes = are.0.changes;
      answers = are.0.answers;
      local = are.0.local;
    },
    changes_on c.instant at last cs order are.1 same,
  )

  -- one change more
  pub changes_more : (first at : ℤ) (changes : List Change) (c : Change) → first ≤ℤ at → AreChanges content first at changes → IsNext content at c.instant c
      → AreChanges content first c.instant (changes ++ c ∷ [])
  changes_more first at [] c order are next = (
    record {
      later = let later = next.later in omega (arith, ints);
      within = next.within;
      none_before = same_on first at (c.instant -ℤ pos 1) are next.none_before;
      changes = next.changes;
      answers = next.answers;
      local = next.local;
    },
    λ t after before. absurd (omega (arith, ints)),
  )
  changes_more first at (d ∷ ds) c order are next = (
    record {
      later = are.0.later;
      within = let within = are.0.within in let later = next.later in omega (arith, ints);
      none_before = are.0.none_before;
      changes = are.0.changes;
      answers = are.0.answers;
      local = are.0.local;
    },
    changes_more d.instant at ds c are.0.within are.1 next,
  )

  -- ---- one span after another

  module _ (first at : ℤ) (instants next : Instants) (answer next_answer : Option Shown) (changes : List Change) (order : first ≤ℤ at)
      (here : Includes instants at) (throughout : AnswersThroughout content instants answer) (next_throughout : AnswersThroughout content next next_answer)
      (are : AreChanges content first at changes) where
    before : (t : ℤ) → t ≡ instants.last +ℤ pos 1 → Includes instants (t -ℤ pos 1)
    before t is = record {
      from = let from = here.from in let to = here.to in omega (arith, ints, is);
      to = omega (arith, ints, is);
    }

    -- the next span answers the same
    pub step_same : (t : ℤ) → t ≡ instants.last +ℤ pos 1 → Includes next t → answer ≡ next_answer → AreChanges content first t changes
    step_same t is there same =
        let end : instants.last ≤ℤ t = omega (arith, ints, is) in
        let later : at ≤ℤ t = let to = here.to in omega (arith, ints, is) in
        let none : StaysSame content at instants.last = same_in_span instants answer at instants.last throughout here (omega (arith, ints)) in
        let at_edge : StaysSame content instants.last t = λ u after within change.
        let e : u ≡ t = omega (arith, ints, is, after, within) in
        let is_before = subst (λ (z : ℤ). Answers content (z -ℤ pos 1) change.before) e change.is_before in
        let is_after = subst (λ (z : ℤ). Answers content z change.after) e change.is_after in
        change.differ
        (one_answer content (t -ℤ pos 1) change.before answer is_before (throughout (t -ℤ pos 1) (before t is))
        ∙ same
        ∙ one_answer content t next_answer change.after (next_throughout t there) is_after) in
        changes_on first at t changes later are (same_on at instants.last t none at_edge)

    -- the next span answers something else
    pub step_change : (c : Change) → c.instant ≡ instants.last +ℤ pos 1 → Includes next c.instant → (answer ≡ next_answer → ⊥) → c.answer ≡ next_answer
        → HasLocalTime c → AreChanges content first c.instant (changes ++ c ∷ [])
    step_change c is there differ shows local =
        changes_more first at changes c order are (record {
          later = let to = here.to in omega (arith, ints, is);
          within = omega (arith, ints);
          none_before = same_in_span instants answer at (c.instant -ℤ pos 1) throughout here (omega (arith, ints, is));
          changes = record {
            before = answer;
            after = next_answer;
            is_before = throughout (c.instant -ℤ pos 1) (before c.instant is);
            is_after = next_throughout c.instant there;
            differ = differ;
          };
          answers = subst (λ (a : Option Shown). Answers content c.instant a) (sym shows) (next_throughout c.instant there);
          local = local;
        })

    -- the span goes on to the end
    pub step_last : (last : ℤ) → at ≤ℤ last → last ≤ℤ instants.last → AreChanges content first last changes
    step_last last later within = changes_on first at last changes later are (same_in_span instants answer at last throughout here within)

-- one line more
pub text_more : (base old new : List ℕ) (changes : List Change) (c : Change) → old ≡ base ++ flat_map change_line changes → new ≡ old ++ change_line c
    → new ≡ base ++ flat_map change_line (changes ++ c ∷ [])
text_more base old new changes c is more =
    more ∙ ap (λ (l : List ℕ). l ++ change_line c) is ∙ append_assoc base (flat_map change_line changes) (change_line c)
    ∙ ap (λ (l : List ℕ). base ++ l)
    (ap (λ (l : List ℕ). flat_map change_line changes ++ l) (sym (append-nil (change_line c))) ∙ sym (flat_map-append change_line changes (c ∷ [])))

-- the next span ends later
pub smaller : (last old new : ℤ) → old <ℤ last → old <ℤ new → unsigned_abs (int_max (pos 0) (last -ℤ new)) < unsigned_abs (int_max (pos 0) (last -ℤ old))
smaller last old new before later = omega (arith, ints, clamps, before, later)
