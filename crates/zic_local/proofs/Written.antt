-- Due instants that were found one after another are just those of a range.
use Rattle.std.proofs.Common.{◌≡◌, ℕ, ◌+◌, ◌≤◌, inl, inr, ℤ, ◌<ℤ◌, ◌≤ℤ◌, List, [], ◌∷◌, ◌++◌, length, take, drop, refl, sym, ap, ◌∙◌, arith}
use Rattle.std.proofs.lemmas.Int.{ints, by_lt_z}
use Rattle.std.proofs.lemmas.List.{drop-drop}
use Rattle.zic_tzif.specs.Content.{Content}
use Rattle.zic_local.specs.LocalTime.{AreJust}
use Rattle.zic_local.proofs.Lists.{just_more, just_none, just_same}
use Rattle.zic_local.specs.Due.{AreDueWritten, IsDueWithin, IsNeverDue, IsNext}
use Rattle.zic_local.specs.code.Search.{IsWritten}
use Rattle.zic_local.specs.declared.schedule.Schedule.{Schedule}

module _ (content : Content) (schedule : Schedule) (after until : ℤ) (before : List ℤ) where
  -- nothing is due from one instant to the same
  pub written_none : IsWritten content schedule after until after before before 0
  written_none = record {
    order = omega (arith, ints);
    reach = λ u later to. absurd (omega (arith, ints, later, to));
    due = just_none (IsDueWithin content schedule after after) (λ t within. let later = within.1 in let to = within.2 in omega (arith, ints, later, to));
    size = refl;
    rest = refl;
  }

  module _ (from : ℤ) (room : List ℤ) (count : ℕ) (written : IsWritten content schedule after until from before room count) where
    -- one due instant more
    just_next : (t : ℤ) → IsNext content schedule from until t → AreJust (IsDueWithin content schedule after t) (take count room ++ t ∷ [])
    just_next t next =
        let order = written.order in
        let later = next.later in
        just_more (IsDueWithin content schedule after from) (IsDueWithin content schedule after t) (take count room) t written.due
        (λ u within. let to = within.2 in omega (arith, ints, to, later))
        (next.due, omega (arith, ints, order, later), omega (arith, ints))
        (λ u within. (within.0, within.1, let to = within.2 in omega (arith, ints, to, later)))
        (λ u within.
        by_lt_z u t
        (λ less. by_lt_z from u
        (λ more. absurd (let least = next.least u within.0 more in omega (arith, ints, least, less)))
        (λ not. inl (within.0, within.1, not)))
        (λ not. inr (let to = within.2 in omega (arith, ints, to, not))))

    drop_more : (a b : List ℤ) → drop count a ≡ drop count b → drop (count + 1) a ≡ drop (count + 1) b
    drop_more a b same = sym (drop-drop 1 count a) ∙ ap (λ (xs : List ℤ). drop 1 xs) same ∙ drop-drop 1 count b

    pub written_more : (t : ℤ) (new : List ℤ) → IsNext content schedule from until t → take (count + 1) new ≡ take count room ++ t ∷ []
        → length new ≡ length room → drop (count + 1) new ≡ drop (count + 1) room → IsWritten content schedule after until t before new (count + 1)
    written_more t new next taken size rest = record {
      order = (let order = written.order in let later = next.later in omega (arith, ints, order, later));
      reach = λ u later to. (let within = next.within in omega (arith, ints, to, within));
      due = rw taken (just_next t next);
      size = size ∙ written.size;
      rest = rest ∙ drop_more room before written.rest;
    }

    -- all that are due up to an instant are written
    pub written_all : IsNeverDue content schedule from until → count ≤ length room → AreDueWritten content schedule after until before room count
    written_all none fits = record {
      end = until;
      within = omega (arith, ints);
      due = just_same (IsDueWithin content schedule after from) (IsDueWithin content schedule after until) (take count room)
          (λ u within. (within.0, within.1, written.reach u within.1 within.2))
          (λ u within. (within.0, within.1, by_lt_z from u (λ more. absurd (none u within.0 more within.2)) (λ not. not)))
          written.due;
      size = written.size;
      fits = fits;
      all = λ less. refl;
      rest = written.rest;
    }

    -- as many as there is room for are written
    pub written_full : count ≡ length room → AreDueWritten content schedule after until before room count
    written_full full = by_lt_z until from
        (λ beyond. written_all (λ u due later to. omega (arith, ints, beyond, later, to)) (omega (arith, full)))
        (λ within. record {
          end = from;
          within = within;
          due = written.due;
          size = written.size;
          fits = omega (arith, full);
          all = λ less. absurd (omega (arith, less, full));
          rest = written.rest;
        })
