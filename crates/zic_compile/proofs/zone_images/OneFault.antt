-- A zone of a sound source has one fault.
use Rattle.std.proofs.Common.{◌≡◌, ◌<◌, List, length, inl, inr, refl, sym, ap, subst, ◌∙◌, arith}
use Rattle.std.specs.Prelude.{ℤ, pos, ◌+ℤ◌}
use Rattle.std.proofs.lemmas.Bool.{cases_lt}
use Rattle.std.proofs.lemmas.Option.{same_Some}
use Rattle.zic_base.specs.Check.{first_failed}
use Rattle.zic_base.specs.Fault.{kind_number}
use Rattle.zic_base.specs.declared.fault.Fault.{Fault}
use Rattle.zic_base.specs.declared.fault.Kind.{Kind}
use Rattle.zic_base.specs.declared.fault.Kind.TheVariants.{OffsetRange, RulesOutOfOrder, UntilNotRising, NoLetter, BadAbbreviation}
use Rattle.zic_base.specs.declared.fault.Place.{Place}
use Rattle.zic_lines.specs.declared.rules.Rules.{Rules}
use Rattle.zic_source.specs.Sound.{IsSoundSource}
use Rattle.zic_source.specs.Source.{ZoneLines}
use Rattle.zic_source.proofs.reading.Stops.{same_fault}
use Rattle.zic_states.specs.Occurrence.{year_second}
use Rattle.zic_states.specs.End.{IsEnd, IsEndBy}
use Rattle.zic_states.specs.Fault.{Applies, IsFaultOfStates, IsSound}
use Rattle.zic_states.specs.Zone.{Zone, lines_of}
use Rattle.zic_states.proofs.Lines.{orderly, some_and_has}
use Rattle.zic_rules.specs.Tail.{IsTailBy}
use Rattle.zic_rules.specs.Timeline.{IsWholeZone}
use Rattle.zic_rules.specs.declared.tail.TailRule.{TailRule}
use Rattle.zic_posix.specs.Footer.{TzString}
use Rattle.zic_footer.specs.Making.{IsMade, IsFaultOfFooter}
use Rattle.zic_table.specs.ContentOf.{limits, IsFaultOfTable}
use Rattle.zic_compile.specs.Image.{IsFaultOfImage}
use Rattle.zic_compile.specs.Laws.{OneFaultOfZone}
use Rattle.zic_compile.proofs.zone_images.OneImage.{not_both, no_fault_of_footer, one_list, one_first}

-- a kind of fault of a zone's states is known by its number
by_number : (zone : Zone) (a b : Kind) → Applies zone a → kind_number a ≡ kind_number b → a ≡ b
by_number zone OffsetRange OffsetRange is same = refl
by_number zone RulesOutOfOrder RulesOutOfOrder is same = refl
by_number zone UntilNotRising UntilNotRising is same = refl
by_number zone NoLetter NoLetter is same = refl
by_number zone BadAbbreviation BadAbbreviation is same = refl
by_number zone OffsetRange b is same = absurd (omega (arith, same))
by_number zone RulesOutOfOrder b is same = absurd (omega (arith, same))
by_number zone UntilNotRising b is same = absurd (omega (arith, same))
by_number zone NoLetter b is same = absurd (omega (arith, same))
by_number zone BadAbbreviation b is same = absurd (omega (arith, same))
by_number zone _ b is same = absurd is

-- of two kinds that apply the least is one
one_kind : (zone : Zone) (a b : Kind) → Applies zone a → (kind_number a < kind_number b → ⊥) → (kind_number b < kind_number a → ⊥) → a ≡ b
one_kind zone a b is not_before not_after =
    elim (cases_lt (kind_number a) (kind_number b)) [
      | inl lt ↦ absurd (not_before lt)
      | inr ge ↦ elim (cases_lt (kind_number b) (kind_number a)) [
        | inl gt ↦ absurd (not_after gt)
        | inr le ↦ by_number zone a b is (omega (arith, ge, le))
      ]
    ]

module _ (zone : Zone) where
  one_of_states : (a b : Fault) → IsFaultOfStates zone a → IsFaultOfStates zone b → a ≡ b
  one_of_states a b one other =
      let (lines, is_lines, at) = some_and_has (lines_of zone) (λ lines. a.place ≡ lines.first.place) one.place in
      let (others, are_lines, other_at) = some_and_has (lines_of zone) (λ lines. b.place ≡ lines.first.place) other.place in
      let same = same_Some lines others (sym is_lines ∙ are_lines) in
      same_fault a b (at ∙ ap (λ (z : ZoneLines). z.first.place) same ∙ sym other_at)
      (one_kind zone a.kind b.kind one.applies (other.least a.kind one.applies) (one.least b.kind other.applies))

  -- a zone with two rules that go on has an explicit end
  end_by_tail : (standard year : ℤ) (tails : List TailRule) → IsTailBy zone standard year tails → (end : ℤ) × IsEnd zone end
  end_by_tail standard year tails by =
      let last = by.last_set in
      let end = year_second (by.last +ℤ pos 3) in
      (end, (by.number, by.line, last.is_last, subst (λ (says : Rules). IsEndBy zone by.number says end) (sym last.has_set) (by.last, last.last_year, refl)))

  -- and so has one with a footer
  pub has_end : (f : TzString) → IsMade zone f → (end : ℤ) × IsEnd zone end
  has_end f (inl (state, one, standard, is)) = (one.end, one.is_end)
  has_end f (inr (offset, starting, ending, turns, is)) = end_by_tail offset turns.year turns.tails turns.by

  module _ (source : IsSoundSource zone.source) (is_zone : zone.number < length zone.source.zones) (sound : IsSound zone) where
    whole : (end : ℤ) × IsEnd zone end → IsWholeZone zone
    whole some_end = record { source = source; is_zone = is_zone; sound = sound; orderly = orderly zone source sound; has_end = some_end }

    one_of_footer : (place : Place) (a b : Fault) → IsFaultOfFooter zone place a → IsFaultOfFooter zone place b → a ≡ b
    one_of_footer place a b (inl (is, daylight)) (inl (is_too, daylight_too)) = is ∙ sym is_too
    one_of_footer place a b (inl (is, (state, one, daylight))) (inr (is_too, none)) =
        absurd (not_both zone (whole (one.end, one.is_end)) none.standard none.year none.tails one.few none.by)
    one_of_footer place a b (inr (is, none)) (inl (is_too, (state, one, daylight))) =
        absurd (not_both zone (whole (one.end, one.is_end)) none.standard none.year none.tails one.few none.by)
    one_of_footer place a b (inr (is, none)) (inr (is_too, none_too)) = is ∙ sym is_too

    one_of_table : (f : TzString) → IsMade zone f → (place : Place) (a b : Fault) → IsFaultOfTable zone place a → IsFaultOfTable zone place b → a ≡ b
    one_of_table f made place a b x y =
        let is_whole = whole (has_end f made) in
        let changes = one_list zone is_whole x.first y.first x.changes y.changes x.is_first y.is_first x.are_changes y.are_changes in
        let first = one_first zone is_whole x.first y.first x.changes y.changes x.is_first y.is_first x.are_changes y.are_changes in
        let kinds = sym x.first_exceeded.1 ∙ (λ k. first_failed (limits (first k) (changes k))) ∙ y.first_exceeded.1 in
        same_fault a b (x.first_exceeded.0 ∙ sym y.first_exceeded.0) (same_Some a.kind b.kind kinds)

    one_of_image : (place : Place) (a b : Fault) → IsFaultOfImage zone place a → IsFaultOfImage zone place b → a ≡ b
    one_of_image place a b (inl one) (inl other) = one_of_footer place a b one other
    one_of_image place a b (inl one) (inr ((f, made), other)) = absurd (no_fault_of_footer zone (whole (has_end f made)) f made place a one)
    one_of_image place a b (inr ((f, made), one)) (inl other) = absurd (no_fault_of_footer zone (whole (has_end f made)) f made place b other)
    one_of_image place a b (inr ((f, made), one)) (inr (is_made, other)) = one_of_table f made place a b one other

pub one_fault : OneFaultOfZone
one_fault zone source is_zone a b (inl one) (inl other) = one_of_states zone a b one other
one_fault zone source is_zone a b (inl one) (inr (sound, other)) = absurd (sound a.kind one.applies)
one_fault zone source is_zone a b (inr (sound, one)) (inl other) = absurd (sound b.kind other.applies)
one_fault zone source is_zone a b (inr (sound, one)) (inr (sound_too, other)) =
    let (lines, is_lines, of_lines) = some_and_has (lines_of zone) (λ lines. IsFaultOfImage zone lines.first.place a) one in
    let (others, are_lines, of_others) = some_and_has (lines_of zone) (λ lines. IsFaultOfImage zone lines.first.place b) other in
    let same = same_Some lines others (sym is_lines ∙ are_lines) in
    let of_same = subst (λ (z : ZoneLines). IsFaultOfImage zone z.first.place a) same of_lines in
    one_of_image zone source is_zone sound others.first.place a b of_same of_others
