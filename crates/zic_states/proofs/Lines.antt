-- The lines of a zone, and when they end.
use Rattle.std.proofs.Common.{◌≡◌, ◌<◌, ℕ, zero, suc, Bool, true, false, ◌⊎◌, inl, inr, ⊎_elim, List, [], ◌∷◌, ◌++◌, length, map, Option, Some, None, refl, sym, ap, subst, ◌∙◌, arith}
use Rattle.std.specs.Prelude.{ℤ, IsSomeAnd, slice_get, is_some, option_and_then, option_map}
use Rattle.std.proofs.lemmas.Option.{option_and_then_some, same_Some, slice_get-map, slice_get_within}
use Rattle.zic_base.specs.declared.fault.Kind.TheVariants as kind
use Rattle.zic_lines.specs.Entry.{has_until}
use Rattle.zic_lines.specs.declared.rules.Rules.TheVariants.{Set}
use Rattle.zic_lines.specs.declared.until.Until.{Until}
use Rattle.zic_lines.specs.declared.zone_line.ZoneLine.{ZoneLine}
use Rattle.zic_source.specs.Sound.{IsSoundLine, IsSoundZone, IsSoundSource}
use Rattle.zic_source.specs.Source.{ZoneLines, lines_of_zone}
use Rattle.zic_base.proofs.Elements.{all_got, got}
use Rattle.zic_states.specs.Order.{IsInOrder}
use Rattle.zic_states.specs.Fault.{IsSound}
use Rattle.zic_states.specs.Laws.{HasSetsInOrder, IsOrderly}
use Rattle.zic_states.specs.Until.{IsUntil, set_of}
use Rattle.zic_states.specs.Zone.{Zone, lines_of, line_at, Ends, IsNotOver}
use Rattle.zic_states.proofs.Ordered.{one_until}
use Rattle.zic_states.proofs.Orders.{in_order_unless_out}

pub some_and_has : {A : Type 0} (o : Option A) (P : A → Type 0) → IsSomeAnd o P → (x : A) × (o ≡ Some x) × P x
some_and_has None P h = absurd h
some_and_has (Some x) P h = (x, refl, h)

some_if : {A : Type 0} (o : Option A) → is_some o ≡ true → (x : A) × (o ≡ Some x)
some_if None e = absurd cc
some_if (Some x) e = (x, refl)

-- ---- what stands in the source

pub line_of : (zone : Zone) (i : ℕ) (line : ZoneLine) → line_at zone i ≡ Some line
    → (lines : ZoneLines) × (lines_of zone ≡ Some lines) × (slice_get (lines_of_zone lines) i ≡ Some line)
line_of zone i line e =
    option_and_then_some (λ lines. slice_get (lines_of_zone lines) i) (lines_of zone) line e (λ lines is at. (lines, is, at))

pub line_at_is : (zone : Zone) (lines : ZoneLines) (i : ℕ) → lines_of zone ≡ Some lines → line_at zone i ≡ slice_get (lines_of_zone lines) i
line_at_is zone lines i is = ap (λ (o : Option ZoneLines). option_and_then (λ ls. slice_get (lines_of_zone ls) i) o) is

-- which lines have an UNTIL, where all but the last do
flags : {X : Type 0} (xs : List X) (i : ℕ) (b : Bool) → slice_get (map (λ _. true) xs ++ false ∷ []) i ≡ Some b
    → ((i < length xs) × (b ≡ true)) ⊎ ((i ≡ length xs) × (b ≡ false))
flags [] zero b e = inr (refl, cc)
flags [] (suc i) b e = absurd cc
flags (x ∷ xs) zero b e = inl (omega arith, cc)
flags (x ∷ xs) (suc i) b e =
    ⊎_elim (λ early. inl (omega (arith, early.0), early.1)) (λ last. inr (ap suc last.0, last.1)) (flags xs i b e)

-- a line without an UNTIL is never over
pub always_not_over : (zone : Zone) (line : ZoneLine) (t : ℤ) → line.until ≡ None → IsNotOver zone line t
always_not_over zone line t none = rw none tt

-- ---- order

-- a zone with no fault is orderly
pub orderly : (zone : Zone) → IsSoundSource zone.source → IsSound zone → IsOrderly zone
orderly zone source sound = record {
  sets = record { sound = source; in_order = sound kind.RulesOutOfOrder };
  untils = sound kind.UntilNotRising;
}

-- ---- a zone whose sets are in order

module _ (zone : Zone) (sets : HasSetsInOrder zone) where
  sound_zone : (lines : ZoneLines) → lines_of zone ≡ Some lines → IsSoundZone zone.source.rules lines
  sound_zone lines is = all_got (IsSoundZone zone.source.rules) zone.source.zones zone.number lines sets.sound.zones is

  pub sound_line : (i : ℕ) (line : ZoneLine) → line_at zone i ≡ Some line → IsSoundLine zone.source.rules line
  sound_line i line e =
      let found = line_of zone i line e in
      all_got (IsSoundLine zone.source.rules) (lines_of_zone found.0) i line (sound_zone found.0 found.1).lines found.2

  pub set_in_order : (i : ℕ) (line : ZoneLine) → line_at zone i ≡ Some line
      → (name : List ℕ) → line.rules ≡ Set name → IsInOrder (set_of zone.source.rules name) line.offset
  set_in_order i line e name has = in_order_unless_out (set_of zone.source.rules name) line.offset
      (λ out. sets.in_order (record { number = i; line = line; is_line = e; name = name; has_set = has; disorder = out }))

  pub flagged : (lines : ZoneLines) (i : ℕ) (line : ZoneLine) → lines_of zone ≡ Some lines → line_at zone i ≡ Some line
      → ((i < length lines.continuations) × (has_until line ≡ true)) ⊎ ((i ≡ length lines.continuations) × (has_until line ≡ false))
  flagged lines i line is e =
      let untils = ap (λ (bs : List Bool). slice_get bs i) (sym (sound_zone lines is).untils) in
      let at = ap (option_map has_until) (sym (line_at_is zone lines i is) ∙ e) in
      flags lines.continuations i (has_until line) (untils ∙ slice_get-map has_until (lines_of_zone lines) i ∙ at)

  -- a line that another follows has an UNTIL
  pub until_before : (i j : ℕ) (a b : ZoneLine) → line_at zone i ≡ Some a → line_at zone j ≡ Some b → i < j
      → (until : Until) × (a.until ≡ Some until)
  until_before i j a b at_i at_j lt =
      let found = line_of zone j b at_j in
      let within = slice_get_within (lines_of_zone found.0) j b found.2 in
      ⊎_elim (λ early. some_if a.until early.1) (λ last. absurd (omega (arith, last.0, within))) (flagged found.0 i a found.1 at_i)

  -- the line without one is the last
  pub last_line : (i j : ℕ) (a b : ZoneLine) → line_at zone i ≡ Some a → line_at zone j ≡ Some b → a.until ≡ None → i < j → ⊥
  last_line i j a b at_i at_j none lt = let has = until_before i j a b at_i at_j lt in let e = has.1 in cc

  -- before a line stands each of a lesser number
  pub line_before : (i j : ℕ) (b : ZoneLine) → line_at zone j ≡ Some b → i < j → (a : ZoneLine) × (line_at zone i ≡ Some a)
  line_before i j b at_j lt =
      let found = line_of zone j b at_j in
      let within = slice_get_within (lines_of_zone found.0) j b found.2 in
      let one = got (lines_of_zone found.0) i (omega (arith, within)) in
      (one.0, line_at_is zone found.0 i found.1 ∙ one.1)

  -- ---- when lines end

  pub ends_at : (i : ℕ) (line : ZoneLine) (t : ℤ) → line_at zone i ≡ Some line → IsUntil zone.source.rules line t → Ends zone i t
  ends_at i line t e is = subst (λ (o : Option ZoneLine). IsSomeAnd o (λ l. IsUntil zone.source.rules l t)) (sym e) is

  -- a line ends once
  pub one_end_of : (i : ℕ) (t u : ℤ) → Ends zone i t → Ends zone i u → t ≡ u
  one_end_of i t u ends ends' =
      let (line, at, is) = some_and_has (line_at zone i) (λ l. IsUntil zone.source.rules l t) ends in
      let (line', at', is') = some_and_has (line_at zone i) (λ l. IsUntil zone.source.rules l u) ends' in
      let same = same_Some line' line (sym at' ∙ at) in
      let is_too = subst (λ (l : ZoneLine). IsUntil zone.source.rules l u) same is' in
      one_until zone.source.rules line (set_in_order i line at) t u is is_too

  pub same_end : (i j : ℕ) (t u : ℤ) → i ≡ j → Ends zone i t → Ends zone j u → t ≡ u
  same_end i j t u same ends later = one_end_of j t u (subst (λ (k : ℕ). Ends zone k t) same ends) later
