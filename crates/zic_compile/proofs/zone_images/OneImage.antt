-- A zone has one image, and with one it has no fault.
use Rattle.std.proofs.Common.{◌≡◌, ◌<◌, ◌≤◌, ℕ, List, [], ◌∷◌, length, get_or, inl, inr, sym, ap, subst, ◌∙◌, arith}
use Rattle.std.specs.Prelude.{ℤ, pos, ◌-ℤ◌, Contains}
use Rattle.std.proofs.lemmas.Bool.{cases_lt}
use Rattle.std.proofs.lemmas.Option.{none-some, same_Some}
use Rattle.zic_base.specs.Check.{first_failed}
use Rattle.zic_base.specs.State.{Shown}
use Rattle.zic_base.specs.declared.fault.Fault.{Fault}
use Rattle.zic_base.specs.declared.fault.Place.{Place}
use Rattle.zic_lines.specs.declared.rules.Rules.{Rules}
use Rattle.zic_lines.specs.declared.rules.Rules.TheVariants.{Set}
use Rattle.zic_lines.specs.declared.zone_line.ZoneLine.{ZoneLine}
use Rattle.zic_base.proofs.Elements.{only_one}
use Rattle.zic_states.specs.Occurrence.{IsMember}
use Rattle.zic_states.specs.Change as of_zone
use Rattle.zic_states.specs.End.{IsLastLine}
use Rattle.zic_states.specs.Tail.{HasNoSet}
use Rattle.zic_states.specs.Until.{set_of}
use Rattle.zic_states.specs.Zone.{Zone, Shows, line_at, lines_of}
use Rattle.zic_states.proofs.Changes.{has_beginning, one_first_state, one_list_of_changes}
use Rattle.zic_states.proofs.Ends.{one_end}
use Rattle.zic_states.proofs.Lines.{last_line, some_and_has}
use Rattle.zic_states.proofs.States.{one_state}
use Rattle.zic_rules.specs.Tail.{AreContinuing, IsTailBy, HasConstantTail}
use Rattle.zic_rules.specs.Timeline.{IsWholeZone}
use Rattle.zic_rules.specs.declared.tail.TailRule.{TailRule}
use Rattle.zic_posix.specs.Footer.{TzString, constant}
use Rattle.zic_footer.specs.Making.{IsForEver, AreInTurn, IsByRules, IsMade, IsFaultOfFooter}
use Rattle.zic_footer.specs.code.Edges.{by_rules}
use Rattle.zic_footer.proofs.OneTail.{same_pair}
use Rattle.zic_footer.proofs.Outcomes.{sound_turns}
use Rattle.zic_footer.proofs.Pairs.{one_pair}
use Rattle.zic_footer.proofs.SaidEdges.{one_string}
use Rattle.zic_tzif.specs.Content.{Content}
use Rattle.zic_table.specs.ContentOf.{content_of, limits, IsContentOf, IsFaultOfTable}
use Rattle.zic_tzif.specs.Writing.{written}
use Rattle.zic_files.specs.File.{FileImage}
use Rattle.zic_compile.specs.Image.{IsImageOf, IsFaultOfImage, IsFaultOfZone}
use Rattle.zic_compile.specs.Laws.{OneImage, ImagesHaveNoFault}

no_set : (says : Rules) (name : List ℕ) → HasNoSet says → says ≡ Set name → ⊥
no_set says name none e = subst HasNoSet e none

same_set : (says : Rules) (a b : List ℕ) → says ≡ Set a → says ≡ Set b → a ≡ b
same_set says a b e f = cc

-- a list of one has no two elements
only_one_of : (xs : List ℕ) (m n : ℕ) → length xs ≤ 1 → Contains xs m → Contains xs n → m ≡ n
only_one_of [] m n short has other = absurd (omega (arith, has.1))
only_one_of (x ∷ []) m n short has other = sym (only_one x m has) ∙ only_one x n other
only_one_of (x ∷ y ∷ xs) m n short has other = absurd (omega (arith, short))

module _ (zone : Zone) (whole : IsWholeZone zone) where
  -- ---- one last line

  same_line : (i j : ℕ) (a b : ZoneLine) → IsLastLine zone i a → IsLastLine zone j b → a ≡ b
  same_line i j a b one other =
      let not_before = last_line zone whole.orderly.sets i j a b one.is_line other.is_line one.no_until in
      let not_after = last_line zone whole.orderly.sets j i b a other.is_line one.is_line other.no_until in
      let same : i ≡ j = elim (cases_lt i j) [
        | inl lt ↦ absurd (not_before lt)
        | inr ge ↦ elim (cases_lt j i) [ inl gt ↦ absurd (not_after gt) | inr le ↦ omega (arith, ge, le) ]
      ] in
      same_Some a b (sym one.is_line ∙ ap (line_at zone) same ∙ other.is_line)

  -- ---- one footer

  among : (standard year : ℤ) (tails : List TailRule) (by : IsTailBy zone standard year tails) (name numbers : List ℕ) → by.name ≡ name
      → AreContinuing (set_of zone.source.rules name) numbers → (k : ℕ) → k < length by.numbers → Contains numbers (get_or by.numbers k 0)
  among standard year tails by name numbers named all k lt =
      let n = get_or by.numbers k 0 in
      let (rule, member, continues) = by.continuing.each k 0 lt in
      all.all n rule (subst (λ (x : List ℕ). IsMember (set_of zone.source.rules x) n rule) named member) continues

  -- a zone without two rules that go on has no two
  pub not_both : (standard year : ℤ) (tails : List TailRule) → HasConstantTail zone → IsTailBy zone standard year tails → ⊥
  not_both standard year tails few by =
      let same = same_line by.number few.number by.line few.line by.last_set.is_last few.last in
      let has_set = ap (λ (l : ZoneLine). l.rules) (sym same) ∙ by.last_set.has_set in
      elim few.few [
        | inl none ↦ no_set few.line.rules by.name none has_set
        | inr (name, last, numbers, last_set, all, short) ↦
            let named = same_set few.line.rules by.name name has_set last_set.has_set in
            let many = by.several in
            let first = among standard year tails by name numbers named all 0 (omega (arith, many)) in
            let second = among standard year tails by name numbers named all 1 (omega (arith, many)) in
            let less = by.continuing.in_order 0 1 0 (omega arith) (omega (arith, many)) in
            let equal = only_one_of numbers (get_or by.numbers 0 0) (get_or by.numbers 1 0) short first second in
            omega (arith, less, equal)
      ]

  one_for_ever : (a b : Shown) → IsForEver zone a → IsForEver zone b → a ≡ b
  one_for_ever a b one other =
      let same = one_end zone whole.orderly.sets other.end one.end other.is_end one.is_end in
      let showed = subst (λ (e : ℤ). Shows zone (e -ℤ pos 1) b) same other.shows in
      one_state zone whole.orderly (one.end -ℤ pos 1) a b one.shows showed

  one_offset : (standard year other other_year : ℤ) (tails others : List TailRule) → IsTailBy zone standard year tails → IsTailBy zone other other_year others → standard ≡ other
  one_offset standard year other other_year tails others one two =
      let line = same_line one.number two.number one.line two.line one.last_set.is_last two.last_set.is_last in
      one.of_line ∙ ap (λ (l : ZoneLine). l.offset) line ∙ sym two.of_line

  rules_one : (standard other : ℤ) (a b x y : TailRule) → AreInTurn zone standard a b → AreInTurn zone other x y → by_rules standard a b ≡ by_rules other x y
  rules_one standard other a b x y one two =
      let offset = one_offset standard one.year other two.year one.tails two.tails one.by two.by in
      let pair = same_pair zone whole.orderly standard other one.year two.year one.tails two.tails one.by two.by x y two.pair in
      let (start, stop) = one_pair one.tails a b x y one.pair pair in
      λ k. by_rules (offset k) (sym start k) (sym stop k)

  by_string : (standard : ℤ) (a b : TailRule) → AreInTurn zone standard a b → (f : TzString) → IsByRules standard a b f → f ≡ by_rules standard a b
  by_string standard a b turns f is =
      let (sound_start, sound_stop) = sound_turns zone whole standard a b turns in
      one_string standard a b sound_start sound_stop f is

  one_footer : (f g : TzString) → IsMade zone f → IsMade zone g → f ≡ g
  one_footer f g (inl (a, one, standard, is)) (inl (b, other, standard_too, is_too)) = is ∙ ap (λ (s : Shown). constant s.name s.offset) (one_for_ever a b one other) ∙ sym is_too
  one_footer f g (inl (a, one, standard, is)) (inr (offset, x, y, turns, is_too)) = absurd (not_both offset turns.year turns.tails one.few turns.by)
  one_footer f g (inr (offset, x, y, turns, is)) (inl (b, other, standard, is_too)) = absurd (not_both offset turns.year turns.tails other.few turns.by)
  one_footer f g (inr (offset, a, b, one, is)) (inr (other, x, y, two, is_too)) =
      by_string offset a b one f is ∙ rules_one offset other a b x y one two ∙ sym (by_string other x y two g is_too)

  -- ---- a footer, or a fault

  pub no_fault_of_footer : (f : TzString) → IsMade zone f → (place : Place) (fault : Fault) → IsFaultOfFooter zone place fault → ⊥
  no_fault_of_footer f (inl (a, one, standard, is)) place fault (inl (kind, (b, other, daylight))) =
      let same = ap (λ (s : Shown). s.daylight) (one_for_ever a b one other) in absurd cc
  no_fault_of_footer f (inl (a, one, standard, is)) place fault (inr (kind, none)) = not_both none.standard none.year none.tails one.few none.by
  no_fault_of_footer f (inr (offset, x, y, turns, is)) place fault (inl (kind, (b, other, daylight))) = not_both offset turns.year turns.tails other.few turns.by
  no_fault_of_footer f (inr (offset, x, y, turns, is)) place fault (inr (kind, none)) =
      let same = one_offset offset turns.year none.standard none.year turns.tails none.tails turns.by none.by in
      none.none x y (subst (λ (o : ℤ). AreInTurn zone o x y) same turns)

  -- ---- one content

  module _ (a b : Shown) (xs ys : List of_zone.Change) (first_a : of_zone.IsFirstState zone a) (first_b : of_zone.IsFirstState zone b)
      (are_xs : of_zone.AreChanges zone xs) (are_ys : of_zone.AreChanges zone ys) where
    pub one_list : xs ≡ ys
    one_list = one_list_of_changes zone whole.orderly xs ys are_xs are_ys

    pub one_first : a ≡ b
    one_first =
        let (end, is_end) = whole.has_end in
        one_first_state zone whole.orderly (has_beginning zone end xs is_end are_xs) a b first_a first_b

  one_content : (a b : FileImage) → IsImageOf zone a → IsImageOf zone b → a.content ≡ b.content
  one_content a b one other =
      let x = one.is_content in
      let y = other.is_content in
      let changes = one_list x.first y.first x.changes y.changes x.is_first y.is_first x.are_changes y.are_changes in
      let first = one_first x.first y.first x.changes y.changes x.is_first y.is_first x.are_changes y.are_changes in
      let footer = one_footer one.footer other.footer one.is_made other.is_made in
      x.is ∙ (λ k. content_of (first k) (changes k) (footer k)) ∙ sym y.is

  -- ---- an image, or a fault

  no_fault_of_table : (f : TzString) (content : Content) → IsContentOf zone f content → (place : Place) (fault : Fault) → IsFaultOfTable zone place fault → ⊥
  no_fault_of_table f content x place fault y =
      let changes = one_list x.first y.first x.changes y.changes x.is_first y.is_first x.are_changes y.are_changes in
      let first = one_first x.first y.first x.changes y.changes x.is_first y.is_first x.are_changes y.are_changes in
      none-some fault.kind (sym x.fits ∙ (λ k. first_failed (limits (first k) (changes k))) ∙ y.first_exceeded.1)

  no_fault : (image : FileImage) → IsImageOf zone image → (fault : Fault) → IsFaultOfZone zone fault → ⊥
  no_fault image of fault (inl states) = of.sound fault.kind states.applies
  no_fault image of fault (inr (sound, at)) =
      let (lines, is_lines, is) = some_and_has (lines_of zone) (λ lines. IsFaultOfImage zone lines.first.place fault) at in
      elim is [
        | inl footer ↦ no_fault_of_footer of.footer of.is_made lines.first.place fault footer
        | inr table ↦ no_fault_of_table of.footer image.content of.is_content lines.first.place fault table.1
      ]

pub one_image : OneImage
one_image zone whole a b one other =
    let content = one_content zone whole a b one other in
    let octets = one.are_written ∙ ap written content ∙ sym other.are_written in
    λ k. record { octets = octets k; content = content k }

pub images_without_fault : ImagesHaveNoFault
images_without_fault zone whole image of fault is = no_fault zone whole image of fault is
