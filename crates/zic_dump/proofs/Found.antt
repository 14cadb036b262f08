-- Changes that were found are the first, the last and just those.
use Rattle.std.proofs.Common.{◌≡◌, ℕ, ℤ, ◌<ℤ◌, ◌≤ℤ◌, inl, inr, List, [], ◌∷◌, ◌++◌, ◌≤◌, length, take, drop, refl, arith}
use Rattle.std.proofs.lemmas.Int.{ints, by_lt_z}
use Rattle.zic_posix.specs.declared.span.TheConstants.{MIN_INSTANT}
use Rattle.zic_tzif.specs.Content.{Content}
use Rattle.zic_dump.specs.Changes.{ChangesAt, StaysSame}
use Rattle.zic_local.specs.LocalTime.{AreJust}
use Rattle.zic_local.proofs.Lists.{just_same, just_more}
use Rattle.zic_dump.specs.NearChanges.{IsNextChange, IsPreviousChange, IsChangeWithin, AreChangesWritten}
use Rattle.zic_dump.specs.code.Walk.{IsFirstWithin, IsLastWithin}

module _ (content : Content) where
  pub first_is_next : (t last change : ℤ) → IsFirstWithin content t last change → IsNextChange content t change
  first_is_next t last change found = record {
    holds = (found.after, found.changes);
    bound = λ other later. by_lt_z other change
        (λ less. absurd (found.none_before other later.0 (omega (arith, ints, less)) later.1))
        (λ not. not);
  }

  -- and it is the first of those up to an instant that it isn't after
  pub next_is_first : (t last change : ℤ) → change ≤ℤ last → IsNextChange content t change → IsFirstWithin content t last change
  next_is_first t last change within next = record {
    after = next.holds.0;
    within = within;
    changes = next.holds.1;
    none_before = λ other after before changes. let least = next.bound other (after, changes) in absurd (omega (arith, ints, least, before));
  }

  pub next_is_later : (t last change : ℤ) → last <ℤ change → IsNextChange content t change → StaysSame content t last
  next_is_later t last change later next = λ other after before changes. let least = next.bound other (after, changes) in omega (arith, ints, least, before, later)

  -- the last change up to an instant, after which there is none before t
  pub last_is_previous : (t first last change : ℤ) → IsLastWithin content first last change → MIN_INSTANT ≤ℤ first → change <ℤ t → ((other : ℤ) → last <ℤ other → other <ℤ t → ChangesAt content other → ⊥)
      → IsPreviousChange content t change
  last_is_previous t first last change found least before none = record {
    holds = (let after = found.after in omega (arith, ints, least, after), before, found.changes);
    bound = λ other earlier. by_lt_z change other
        (λ more. absurd (by_lt_z last other (λ beyond. none other beyond earlier.1 earlier.2) (λ within. found.none_after other more within earlier.2)))
        (λ not. not);
  }

  -- one change more
  pub just_next : (first from last change : ℤ) (changes : List ℤ) → first ≤ℤ from → AreJust (IsChangeWithin content first from) changes → IsFirstWithin content from last change
      → AreJust (IsChangeWithin content first change) (changes ++ change ∷ [])
  just_next first from last change changes order are found =
      let after = found.after in
      just_more (IsChangeWithin content first from) (IsChangeWithin content first change) changes change are
      (λ u within. let to = within.1 in omega (arith, ints, to, after))
      (omega (arith, ints, order, after), omega (arith, ints), found.changes)
      (λ u within. (within.0, (let to = within.1 in omega (arith, ints, to, after)), within.2))
      (λ u within.
      by_lt_z u change
      (λ less. by_lt_z from u
      (λ more. absurd (found.none_before u more (omega (arith, ints, less)) within.2))
      (λ not. inl (within.0, not, within.2)))
      (λ not. inr (let to = within.1 in omega (arith, ints, to, not))))

  -- no more of them up to a later instant
  pub just_all : (first from last : ℤ) (changes : List ℤ) → ((u : ℤ) → first <ℤ u → u ≤ℤ from → u ≤ℤ last) → AreJust (IsChangeWithin content first from) changes → StaysSame content from last
      → AreJust (IsChangeWithin content first last) changes
  just_all first from last changes reach are same =
      just_same (IsChangeWithin content first from) (IsChangeWithin content first last) changes
      (λ u within. (within.0, reach u within.0 within.1, within.2))
      (λ u within. (within.0, by_lt_z from u (λ more. absurd (same u more within.1 within.2)) (λ not. not), within.2))
      are

  -- all changes up to an instant are written
  pub all_written : (first from last : ℤ) (before after : List ℤ) (count : ℕ) → ((u : ℤ) → first <ℤ u → u ≤ℤ from → u ≤ℤ last)
      → AreJust (IsChangeWithin content first from) (take count after) → StaysSame content from last → length after ≡ length before → count ≤ length after
      → drop count after ≡ drop count before → AreChangesWritten content first last before after count
  all_written first from last before after count reach are same size fits rest = record {
    end = last;
    within = omega (arith, ints);
    changes = just_all first from last (take count after) reach are same;
    size = size;
    fits = fits;
    all = λ less. refl;
    rest = rest;
  }

  -- as many as there is room for are written
  pub full_written : (first from last : ℤ) (before after : List ℤ) (count : ℕ) → ((u : ℤ) → first <ℤ u → u ≤ℤ from → u ≤ℤ last)
      → AreJust (IsChangeWithin content first from) (take count after) → length after ≡ length before → count ≡ length after
      → drop count after ≡ drop count before → AreChangesWritten content first last before after count
  full_written first from last before after count reach are size full rest =
      by_lt_z last from
      (λ beyond. all_written first from last before after count reach are (λ u after_from within. absurd (omega (arith, ints, beyond, after_from, within))) size (omega (arith, full)) rest)
      (λ within. record {
        end = from;
        within = within;
        changes = are;
        size = size;
        fits = omega (arith, full);
        all = λ less. absurd (omega (arith, less, full));
        rest = rest;
      })
