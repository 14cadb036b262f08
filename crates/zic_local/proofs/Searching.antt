-- A search through days.
use Rattle.std.proofs.Common.{◌≡◌, ◌⊎◌, inl, inr, ◌≤◌, ℤ, pos, ◌+ℤ◌, ◌-ℤ◌, ◌*ℤ◌, ◌<ℤ◌, ◌≤ℤ◌, Option, Some, None, MatchOption, unsigned_abs, ap, refl, sym, subst, arith}
use Rattle.std.specs.Option.{unwrap_or}
use Rattle.std.proofs.lemmas.Int.{ints, by_lt_z}
use Rattle.zic_base.specs.declared.constants.TheConstants.{FARTHEST_FILE_OFFSET}
use Rattle.zic_posix.specs.declared.span.TheConstants.{MAX_INSTANT}
use Rattle.zic_tzif.specs.Content.{Content}
use Rattle.zic_local.specs.LocalTime.{HaveOffsets, IsInRange}
use Rattle.zic_local.specs.Due.{IsDueOn, IsNeverDue, IsNext, local_time_on}
use Rattle.zic_local.specs.code.Search.{EndsAt, IsCandidate, IsDueBefore, IsFound}
use Rattle.zic_local.specs.declared.schedule.Schedule.{Schedule}
use Rattle.zic_local.proofs.Meant.{meant_near, meant_once}

module _ (content : Content) (schedule : Schedule) (after until : ℤ) where
  -- the local time of a day
  abbrev local_on : ℤ → ℤ
  local_on day = local_time_on day schedule.time

  due_near : HaveOffsets content → (day t : ℤ) → IsDueOn content schedule day t → unsigned_abs (local_on day -ℤ t) ≤ FARTHEST_FILE_OFFSET
  due_near near day t due = meant_near content (local_on day) near schedule.policy t due.meant

  -- ---- nothing is due before the first day

  pub found_first : HaveOffsets content → (first : ℤ)
      → ((day : ℤ) → day <ℤ first → IsInRange (local_time_on day schedule.time) → (local_time_on day schedule.time +ℤ pos FARTHEST_FILE_OFFSET) ≤ℤ after)
      → IsFound content schedule after until first None
  found_first near first none = λ t is.
      let past = none is.day is.before is.due.range in
      let within = due_near near is.day t is.due in
      let later = is.later in
      omega (arith, ints, past, within, later)

  -- ---- one day more

  module _ (day : ℤ) (found due new : Option ℤ) (tells : IsFound content schedule after until day found)
      (on : MatchOption due ((t : ℤ) → IsDueOn content schedule day t → ⊥) (IsDueOn content schedule day))
      (kept : MatchOption new ((t : ℤ) → IsCandidate found due after until t → ⊥)
      (λ t. IsCandidate found due after until t × ((other : ℤ) → IsCandidate found due after until other → t ≤ℤ other))) where
    -- a candidate that isn't after an instant
    abbrev HasEarlier : ℤ → Type 0
    HasEarlier t = (first : ℤ) × IsCandidate found due after until first × (first ≤ℤ t)

    earlier_found : (o : Option ℤ) → found ≡ o → IsFound content schedule after until day o → (t : ℤ) → IsDueBefore content schedule after until day t → HasEarlier t
    earlier_found None same told t is = absurd (told t is)
    earlier_found (Some first) same told t is = (first, inl same, told.1 t is)

    due_is : (o : Option ℤ) → MatchOption o ((t : ℤ) → IsDueOn content schedule day t → ⊥) (IsDueOn content schedule day)
        → (t : ℤ) → IsDueOn content schedule day t → o ≡ Some t
    due_is None none t is = absurd (none t is)
    due_is (Some other) is_due t is = ap Some (meant_once content (local_on day) schedule.policy other t is_due.meant is.meant)

    each_candidate : (t : ℤ) → IsDueBefore content schedule after until (day +ℤ pos 1) t → HasEarlier t
    each_candidate t is = by_lt_z is.day day
        (λ before. earlier_found found refl tells t (record { day = is.day; due = is.due; before = before; later = is.later; within = is.within }))
        (λ not.
        let before = is.before in
        let same : is.day ≡ day = omega (arith, ints, before, not) in
        let here : IsDueOn content schedule day t = subst (λ (d : ℤ). IsDueOn content schedule d t) same is.due in
        (t, inr (due_is due on t here, is.later, is.within), omega (arith, ints)))

    of_found : (o : Option ℤ) → IsFound content schedule after until day o → (t : ℤ) → o ≡ Some t → IsDueBefore content schedule after until day t
    of_found None told t same = absurd (cc same)
    of_found (Some first) told t same = subst (λ (u : ℤ). IsDueBefore content schedule after until day u) (cc same) told.0

    of_due : (o : Option ℤ) → MatchOption o ((t : ℤ) → IsDueOn content schedule day t → ⊥) (IsDueOn content schedule day)
        → (t : ℤ) → o ≡ Some t → IsDueOn content schedule day t
    of_due None none t same = absurd (cc same)
    of_due (Some first) is_due t same = subst (λ (u : ℤ). IsDueOn content schedule day u) (cc same) is_due

    candidate_due : (t : ℤ) → IsCandidate found due after until t → IsDueBefore content schedule after until (day +ℤ pos 1) t
    candidate_due t (inl same) =
        let old = of_found found tells t same in
        record { day = old.day; due = old.due; before = (let before = old.before in omega (arith, ints, before)); later = old.later; within = old.within }
    candidate_due t (inr (same, later, within)) =
        record { day = day; due = of_due due on t same; before = omega (arith, ints); later = later; within = within }

    found_by : (o : Option ℤ) → MatchOption o ((t : ℤ) → IsCandidate found due after until t → ⊥)
        (λ t. IsCandidate found due after until t × ((other : ℤ) → IsCandidate found due after until other → t ≤ℤ other))
        → IsFound content schedule after until (day +ℤ pos 1) o
    found_by None none = λ t is. let earlier = each_candidate t is in none earlier.0 earlier.1
    found_by (Some t) least = (
      candidate_due t least.0,
      λ other is.
          let earlier = each_candidate other is in
          let low = least.1 earlier.0 earlier.1 in
          let high = earlier.2 in
          omega (arith, ints, low, high),
    )

    pub found_more : IsFound content schedule after until (day +ℤ pos 1) new
    found_more = found_by new kept

  -- ---- nothing more is due from the last day on

  module _ (near : HaveOffsets content) (day end : ℤ) (ends : EndsAt content until end) where
    -- no local time of a later day is as near to an instant as an offset is to 0
    abbrev pub IsPast : ℤ → Type 0
    IsPast bound = ((local_time_on day schedule.time +ℤ pos FARTHEST_FILE_OFFSET) ≤ℤ MAX_INSTANT)
        × ((local_time_on day schedule.time -ℤ pos FARTHEST_FILE_OFFSET) ≤ℤ bound) → ⊥

    past : (bound : ℤ) → IsPast bound → (later t : ℤ) → day ≤ℤ later → IsDueOn content schedule later t
        → bound <ℤ (local_time_on later schedule.time -ℤ pos FARTHEST_FILE_OFFSET)
    past bound none later t order due =
        let high = due.range.high in
        by_lt_z bound (local_time_on day schedule.time -ℤ pos FARTHEST_FILE_OFFSET)
        (λ below. omega (arith, ints, below, order))
        (λ not. absurd (none (omega (arith, ints, high, order), not)))

    pub search_ends : (found : Option ℤ) → IsFound content schedule after until day found → IsPast (unwrap_or found end)
        → MatchOption found (IsNeverDue content schedule after until) (IsNext content schedule after until)
    search_ends None tells none = λ t is later within. by_lt_z is.0 day
        (λ before. tells t (record { day = is.0; due = is.1; before = before; later = later; within = within }))
        (λ from.
        let beyond = past end none is.0 t from is.1 in
        let last = ends schedule is.0 t is.1 within in
        omega (arith, ints, beyond, last))
    search_ends (Some t) tells none = record {
      due = (tells.0.day, tells.0.due);
      later = tells.0.later;
      within = tells.0.within;
      least = λ other is later. by_lt_z until other
          (λ beyond. let within = tells.0.within in omega (arith, ints, beyond, within))
          (λ within. by_lt_z is.0 day
          (λ before. tells.1 other (record { day = is.0; due = is.1; before = before; later = later; within = within }))
          (λ from.
          let beyond = past t none is.0 other from is.1 in
          let other_near = due_near near is.0 other is.1 in
          omega (arith, ints, beyond, other_near)));
    }
