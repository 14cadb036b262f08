-- What a policy means by a local time is one instant, near the local time.
use Rattle.std.proofs.Common.{◌≡◌, ◌⊎◌, ◌≤◌, inl, inr, ℤ, pos, ◌+ℤ◌, ◌-ℤ◌, ◌<ℤ◌, ◌≤ℤ◌, Option, Some, None, MatchOption, Result, Ok, Err, MatchResult, unsigned_abs, subst, arith}
use Rattle.std.specs.Result.{result_ok}
use Rattle.std.proofs.lemmas.Int.{ints}
use Rattle.zic_base.specs.declared.constants.TheConstants.{FARTHEST_FILE_OFFSET}
use Rattle.zic_tzif.specs.Content.{Content}
use Rattle.zic_layouts.specs.declared.disambiguation.Disambiguation.{Disambiguation}
use Rattle.zic_layouts.specs.declared.disambiguation.Disambiguation.TheVariants as choice
use Rattle.zic_local.specs.declared.local_time.Unresolved.{Unresolved}
use Rattle.zic_local.specs.declared.local_time.Gap.{Gap}
use Rattle.zic_local.specs.declared.local_time.LocalInstants.{LocalInstants}
use Rattle.zic_local.specs.declared.local_time.LocalInstants.TheVariants as instants
use Rattle.zic_local.specs.LocalTime.{AnswersLocal, HaveOffsets, IsInRange, IsInstantOf, IsOffsetAt, PassesOver}
use Rattle.zic_local.specs.Choice.{IsFirst, IsReadAfter, IsReadBefore, IsUnresolved, Means}
use Rattle.zic_local.proofs.Lists.{not_empty}
use Rattle.zic_local.proofs.Once.{means_once}
use Rattle.zic_local.specs.Due.{IsDueOn, IsMeant, local_time_on}
use Rattle.zic_local.specs.Weekdays.{HasWeekdayOf}
use Rattle.zic_local.specs.declared.schedule.Schedule.{Schedule}
use Rattle.zic_local.specs.declared.schedule.Policy.{Policy}
use Rattle.zic_local.specs.declared.schedule.Policy.TheVariants as policy

module _ (content : Content) (local : ℤ) where
  -- ---- what an instant that is meant is

  -- the local time is in a gap, and the instant is that of an offset beside it
  abbrev pub IsBesideGap : ℤ → Type 0
  IsBesideGap t = (gap : Gap) × PassesOver content local gap × ((t +ℤ gap.before ≡ local) ⊎ (t +ℤ gap.after ≡ local))

  read_before : (t : ℤ) → IsReadBefore content local t → IsBesideGap t
  read_before t read = (read.gap, read.in_gap.1.over, inl read.is)

  read_after : (t : ℤ) → IsReadAfter content local t → IsBesideGap t
  read_after t read = (read.gap, read.in_gap.1.over, inr read.is)

  pub meant_is : (how : Policy) (t : ℤ) → IsMeant content local how t → IsInstantOf content local t ⊎ IsBesideGap t
  meant_is policy.Compatible t (inl first) = inl first.is
  meant_is policy.Compatible t (inr read) = inr (read_before t read)
  meant_is policy.Earlier t (inl first) = inl first.is
  meant_is policy.Earlier t (inr read) = inr (read_after t read)
  meant_is policy.Later t (inl last) = inl last.is
  meant_is policy.Later t (inr read) = inr (read_before t read)
  meant_is policy.Skip t first = inl first.is

  -- ---- it is near

  module _ (near : HaveOffsets content) where
    beside : (t : ℤ) → IsBesideGap t → unsigned_abs (local -ℤ t) ≤ FARTHEST_FILE_OFFSET
    beside t (gap, over, read) =
        let before = near (gap.change -ℤ pos 1) gap.before over.before in
        let after = near gap.change gap.after over.after in
        elim read [
          | inl is ↦ omega (arith, ints, before, is)
          | inr is ↦ omega (arith, ints, after, is)
        ]

    near_meant : (t : ℤ) → IsInstantOf content local t ⊎ IsBesideGap t → unsigned_abs (local -ℤ t) ≤ FARTHEST_FILE_OFFSET
    near_meant t (inl at) = let within = near t at.offset at.at in let is = at.is in omega (arith, ints, within, is)
    near_meant t (inr read) = beside t read

    pub meant_near : (how : Policy) (t : ℤ) → IsMeant content local how t → unsigned_abs (local -ℤ t) ≤ FARTHEST_FILE_OFFSET
    meant_near how t meant = near_meant t (meant_is how t meant)

    -- where offsets are only known before an instant, the local time is no farther after it than one of them
    known_meant : (end t : ℤ) → ((u offset : ℤ) → IsOffsetAt content u offset → u <ℤ end) → IsInstantOf content local t ⊎ IsBesideGap t
        → local ≤ℤ (end +ℤ pos FARTHEST_FILE_OFFSET)
    known_meant end t known (inl at) =
        let before = known t at.offset at.at in
        let within = near t at.offset at.at in
        let is = at.is in
        omega (arith, ints, before, within, is)
    known_meant end t known (inr (gap, over, read)) =
        let before = known gap.change gap.after over.after in
        let within = near gap.change gap.after over.after in
        let passed = over.passed in
        omega (arith, ints, before, within, passed)

    pub meant_known : (end t : ℤ) → ((u offset : ℤ) → IsOffsetAt content u offset → u <ℤ end) → (how : Policy) → IsMeant content local how t
        → local ≤ℤ (end +ℤ pos FARTHEST_FILE_OFFSET)
    meant_known end t known how meant = known_meant end t known (meant_is how t meant)

  -- ---- it is one

  same_ok : (t u : ℤ) → ◌≡◌ {A = Result ℤ Unresolved} (Ok t) (Ok u) → t ≡ u
  same_ok t u same = cc

  one_chosen : (chosen : Disambiguation) (t u : ℤ) → Means content local chosen t → Means content local chosen u → t ≡ u
  one_chosen chosen t u is other = same_ok t u (means_once content local chosen (Ok t) (Ok u) is other)

  not_both : (t : ℤ) (error : Unresolved) → ◌≡◌ {A = Result ℤ Unresolved} (Ok t) (Err error) → ⊥
  not_both t error same = cc

  -- the instant of an answer is the one that is chosen, if there is one
  pub chosen_ok : (chosen : Disambiguation) (answer : Result ℤ Unresolved)
      → MatchResult answer (Means content local chosen) (IsUnresolved content local chosen)
      → MatchOption (result_ok answer) ((t : ℤ) → Means content local chosen t → ⊥) (Means content local chosen)
  chosen_ok chosen (Ok t) is = is
  chosen_ok chosen (Err error) is = λ t means. not_both t error (means_once content local chosen (Ok t) (Err error) means is)

  pub meant_once : (how : Policy) (t u : ℤ) → IsMeant content local how t → IsMeant content local how u → t ≡ u
  meant_once policy.Compatible t u is other = one_chosen choice.Compatible t u is other
  meant_once policy.Earlier t u is other = one_chosen choice.Earlier t u is other
  meant_once policy.Later t u is other = one_chosen choice.Later t u is other
  meant_once policy.Skip t u is other = let low = is.first u other.is in let high = other.first t is.is in omega (arith, ints, low, high)

  -- ---- what is due on a day

  -- no instant is the first of a local time that has none
  pub none_first : (given : LocalInstants) → AnswersLocal content local given
      → ((gap : Gap) × (given ≡ instants.Gap gap)) ⊎ (given ≡ instants.Unspecified) → (t : ℤ) → IsFirst content local t → ⊥
  none_first given tells (inl gap) t first =
      let none = subst (λ (o : LocalInstants). AnswersLocal content local o) gap.1 tells in
      not_empty (IsInstantOf content local) none.0 t first.is
  none_first given tells (inr same) t first =
      let none = subst (λ (o : LocalInstants). AnswersLocal content local o) same tells in
      not_empty (IsInstantOf content local) none.0 t first.is

module _ (content : Content) (schedule : Schedule) (day : ℤ) (weekday : HasWeekdayOf schedule.weekdays day)
    (range : IsInRange (local_time_on day schedule.time)) where
  -- what is meant by the local time of one of the weekdays is due
  pub due_meant : (due : Option ℤ)
      → MatchOption due ((t : ℤ) → IsMeant content (local_time_on day schedule.time) schedule.policy t → ⊥)
      (IsMeant content (local_time_on day schedule.time) schedule.policy)
      → MatchOption due ((t : ℤ) → IsDueOn content schedule day t → ⊥) (IsDueOn content schedule day)
  due_meant None none = λ t is. none t is.meant
  due_meant (Some t) meant = record { weekday = weekday; range = range; meant = meant }
