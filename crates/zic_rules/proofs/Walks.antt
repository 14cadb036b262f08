-- The walk through the lines of a zone.
use Rattle.std.proofs.Common.{◌≡◌, ℕ, zero, suc, ◌+◌, ◌<◌, ◌≤◌, Bool, true, false, ◌⊎◌, inl, inr, ⊎_elim, List, [], ◌∷◌, ◌++◌, length, map, Option, Some, None, refl, sym, ap, subst, ◌∙◌, arith, ℤ, pos, ◌+ℤ◌, ◌<ℤ◌, ◌≤ℤ◌}
use Rattle.std.specs.Prelude.{IfSome, IsSomeAnd, slice_get, option_map, is_some}
use Rattle.std.proofs.lemmas.Bool.{cases_lt}
use Rattle.std.proofs.lemmas.Int.{ints}
use Rattle.std.proofs.lemmas.Option.{same_Some, slice_get-map, slice_get_within}
use Rattle.zic_base.specs.declared.fault.Kind.{Kind}
use Rattle.zic_base.specs.declared.fault.Kind.TheVariants as kind
use Rattle.zic_lines.specs.Entry.{has_until}
use Rattle.zic_lines.specs.declared.rules.Rules.{Rules}
use Rattle.zic_lines.specs.declared.rules.Rules.TheVariants.{Standard, Amount, Set}
use Rattle.zic_lines.specs.declared.until.Until.{Until}
use Rattle.zic_lines.specs.declared.zone_line.ZoneLine.{ZoneLine}
use Rattle.zic_source.specs.Sound.{IsSoundLine, IsSoundZone, IsSoundSource}
use Rattle.zic_source.specs.Source.{ZoneLines, lines_of_zone}
use Rattle.zic_base.proofs.Elements.{all_got}
use Rattle.zic_states.specs.declared.occurrence.TimedOccurrence.{TimedOccurrence}
use Rattle.zic_states.specs.Occurrence.{year_second}
use Rattle.zic_states.specs.ByList.{before}
use Rattle.zic_states.specs.End.{IsYearOf}
use Rattle.zic_states.proofs.Instants.{never_both}
use Rattle.zic_states.specs.Fault.{HasRulesOutOfOrder, HasUntilNotRising}
use Rattle.zic_states.specs.Until.{IsUntil, set_of}
use Rattle.zic_states.specs.Zone.{Zone, lines_of, line_at, Ends, HasBegun, IsNotOver, Governs}
use Rattle.zic_states.proofs.Lines.{line_of, line_at_is}
use Rattle.zic_states.proofs.Ordered.{one_until}
use Rattle.zic_rules.specs.declared.line.Period.{Period}
use Rattle.zic_rules.specs.code.Period.{IsFaultOfPeriods}
use Rattle.zic_rules.specs.code.End.{IsStart, IsInYears, IsEndAfter, IsEndFrom}
use Rattle.zic_rules.specs.code.Held.{IsFrom, AreSoFar}
use Rattle.zic_rules.specs.code.Line.{IsOrderedOn, IsDisorderedOn, AreOccurrencesOn, GivesInForce, IsLineTo, bound_of}
use Rattle.zic_rules.specs.code.Walk.{AreOrderedTo, DoRiseTo}
use Rattle.zic_rules.proofs.Years.{years_rise}
use Rattle.zic_rules.proofs.Untils.{near_until, near_enough, in_years}
use Rattle.zic_rules.proofs.OccurrencesOfLines.{ordered_set, not_over_until, gives_to_until, gives_last, before_limit}

-- ---- lines of a sound source

some_and_has : {A : Type 0} (o : Option A) (P : A → Type 0) → IsSomeAnd o P → (x : A) × (o ≡ Some x) × P x
some_and_has None P h = absurd h
some_and_has (Some x) P h = (x, refl, h)

sound_zone : (zone : Zone) (lines : ZoneLines) → IsSoundSource zone.source → lines_of zone ≡ Some lines → IsSoundZone zone.source.rules lines
sound_zone zone lines sound is = all_got (IsSoundZone zone.source.rules) zone.source.zones zone.number lines sound.zones is

pub sound_line : (zone : Zone) (i : ℕ) (line : ZoneLine) → IsSoundSource zone.source → line_at zone i ≡ Some line → IsSoundLine zone.source.rules line
sound_line zone i line sound e =
    let found = line_of zone i line e in
    let of = sound_zone zone found.0 sound found.1 in
    all_got (IsSoundLine zone.source.rules) (lines_of_zone found.0) i line of.lines found.2

-- which lines have an UNTIL, where all but the last do
flags : {X : Type 0} (xs : List X) (i : ℕ) (b : Bool) → slice_get (map (λ _. true) xs ++ false ∷ []) i ≡ Some b
    → ((i < length xs) × (b ≡ true)) ⊎ ((i ≡ length xs) × (b ≡ false))
flags [] zero b e = inr (refl, cc)
flags [] (suc i) b e = absurd cc
flags (x ∷ xs) zero b e = inl (omega arith, cc)
flags (x ∷ xs) (suc i) b e =
    ⊎_elim (λ early. inl (omega (arith, early.0), early.1)) (λ last. inr (ap suc last.0, last.1)) (flags xs i b e)

flagged : (zone : Zone) (lines : ZoneLines) (i : ℕ) (line : ZoneLine) → IsSoundSource zone.source → lines_of zone ≡ Some lines → line_at zone i ≡ Some line
    → ((i < length lines.continuations) × (has_until line ≡ true)) ⊎ ((i ≡ length lines.continuations) × (has_until line ≡ false))
flagged zone lines i line sound is e =
    let of = sound_zone zone lines sound is in
    let untils = ap (λ (bs : List Bool). slice_get bs i) (sym of.untils) in
    let at = ap (option_map has_until) (sym (line_at_is zone lines i is) ∙ e) in
    flags lines.continuations i (has_until line) (untils ∙ slice_get-map has_until (lines_of_zone lines) i ∙ at)

none_if : {A : Type 0} (o : Option A) → is_some o ≡ false → o ≡ None
none_if None e = refl
none_if (Some x) e = absurd cc

-- a line that another follows has an UNTIL
pub until_stands : (zone : Zone) (lines : ZoneLines) (i : ℕ) (line : ZoneLine) → IsSoundSource zone.source → lines_of zone ≡ Some lines → i + 1 < length (lines_of_zone lines)
    → line_at zone i ≡ Some line → line.until ≡ None → ⊥
until_stands zone lines i line sound is lt e none = ⊎_elim
    (λ early. let has = early.1 in cc)
    (λ last. absurd (omega (arith, last.0, lt)))
    (flagged zone lines i line sound is e)

-- the last has none
pub last_has_none : (zone : Zone) (lines : ZoneLines) (i : ℕ) (line : ZoneLine) → IsSoundSource zone.source → lines_of zone ≡ Some lines → i + 1 ≡ length (lines_of_zone lines)
    → line_at zone i ≡ Some line → line.until ≡ None
last_has_none zone lines i line sound is last e = ⊎_elim
    (λ early. absurd (omega (arith, early.0, last)))
    (λ at. none_if line.until at.1)
    (flagged zone lines i line sound is e)

ends_early : (zone : Zone) (lines : ZoneLines) (i : ℕ) (t : ℤ) → IsSoundSource zone.source → lines_of zone ≡ Some lines → Ends zone i t → i + 1 < length (lines_of_zone lines)
ends_early zone lines i t sound is ends =
    let (line, at, until) = some_and_has (line_at zone i) (λ l. IsUntil zone.source.rules l t) ends in
    ⊎_elim
    (λ early. omega (arith, early.0))
    (λ last. let none = none_if line.until last.1 in let has = until.has in absurd cc)
    (flagged zone lines i line sound is at)

-- ---- order

pub more_ordered : (zone : Zone) (number : ℕ) (line : ZoneLine) → AreOrderedTo zone number → line_at zone number ≡ Some line
    → IsOrderedOn zone.source.rules line.offset line.rules → AreOrderedTo zone (suc number)
more_ordered zone number line ordered at order i other lt e = elim (cases_lt i number) [
  | inl less ↦ ordered i other less e
  | inr ge ↦
      let place : i ≡ number = omega (arith, lt) in
      let same : line ≡ other = same_Some line other (sym at ∙ ap (line_at zone) (sym place) ∙ e) in
      subst (λ (l : ZoneLine). IsOrderedOn zone.source.rules l.offset l.rules) same order
]

pub all_in_order : (zone : Zone) (lines : ZoneLines) (number : ℕ) → lines_of zone ≡ Some lines → length (lines_of_zone lines) ≤ number → AreOrderedTo zone number
    → HasRulesOutOfOrder zone → ⊥
all_in_order zone lines number is le ordered out =
    let within = slice_get_within (lines_of_zone lines) out.number out.line (sym (line_at_is zone lines out.number is) ∙ out.is_line) in
    let order = ordered out.number out.line (omega (arith, within, le)) out.is_line in
    never_both (set_of zone.source.rules out.name) out.line.offset (ordered_set zone.source.rules out.line.offset out.line.rules order out.name out.has_set) out.disorder

out_of_order : (zone : Zone) (number : ℕ) (line : ZoneLine) (says : Rules) → line.rules ≡ says → line_at zone number ≡ Some line
    → IsDisorderedOn zone.source.rules line.offset says → HasRulesOutOfOrder zone
out_of_order zone number line Standard has at out = absurd out
out_of_order zone number line (Amount saving) has at out = absurd out
out_of_order zone number line (Set name) has at out = record { number = number; line = line; is_line = at; name = name; has_set = has; disorder = out }

pub fault_of_order : (zone : Zone) (number : ℕ) (line : ZoneLine) (fault : Kind) → line_at zone number ≡ Some line
    → (fault ≡ kind.RulesOutOfOrder) × IsDisorderedOn zone.source.rules line.offset line.rules → IsFaultOfPeriods zone fault
fault_of_order zone number line fault at (is, out) = inl (is, out_of_order zone number line line.rules refl at out)

-- ---- ends

pub ends_here : (zone : Zone) (i : ℕ) (line : ZoneLine) (t : ℤ) → line_at zone i ≡ Some line → IsUntil zone.source.rules line t → Ends zone i t
ends_here zone i line t at is = subst (λ (o : Option ZoneLine). IsSomeAnd o (λ l. IsUntil zone.source.rules l t)) (sym at) is

-- a line whose set is in order ends once
one_end : (zone : Zone) (number i : ℕ) (t u : ℤ) → IsSoundSource zone.source → AreOrderedTo zone number → i < number → Ends zone i t → Ends zone i u → t ≡ u
one_end zone number i t u sound ordered lt ends other =
    let (line, at, is) = some_and_has (line_at zone i) (λ l. IsUntil zone.source.rules l t) ends in
    let is_too = subst (λ (o : Option ZoneLine). IsSomeAnd o (λ l. IsUntil zone.source.rules l u)) at other in
    one_until zone.source.rules line
    (ordered_set zone.source.rules line.offset line.rules (ordered i line lt at)) t u is is_too

-- the UNTIL of one line more
pub more_rise : (zone : Zone) (number : ℕ) (start : Option ℤ) (end : ℤ) → IsSoundSource zone.source → AreOrderedTo zone (suc number) → DoRiseTo zone number
    → IsStart zone number start → IfSome start (λ s. s <ℤ end) → Ends zone number end → DoRiseTo zone (suc number)
more_rise zone zero start end sound ordered rise starts lt ends i t u less one other = absurd (omega (arith, less))
more_rise zone (suc n) None end sound ordered rise starts lt ends i t u less one other = absurd starts
more_rise zone (suc n) (Some s) end sound ordered rise starts lt ends i t u less one other = elim (cases_lt (suc i) (suc n)) [
  | inl early ↦ rise i t u early one other
  | inr ge ↦
      let place : i ≡ n = omega (arith, less) in
      let from = one_end zone (suc (suc n)) n t s sound ordered (omega arith) (subst (λ (j : ℕ). Ends zone j t) place one) starts in
      let to = one_end zone (suc (suc n)) (suc n) u end sound ordered (omega arith) (subst (λ (j : ℕ). Ends zone (suc j) u) place other) ends in
      omega (arith, ints, from, to, lt)
]

pub untils_rise : (zone : Zone) (lines : ZoneLines) (number : ℕ) → IsSoundSource zone.source → lines_of zone ≡ Some lines → number + 1 ≡ length (lines_of_zone lines) → DoRiseTo zone number
    → HasUntilNotRising zone → ⊥
untils_rise zone lines number sound is last rise falls =
    let early = ends_early zone lines (suc falls.number) falls.later sound is falls.next_ends in
    let lt = rise falls.number falls.earlier falls.later (omega (arith, early, last)) falls.ends falls.next_ends in
    omega (arith, ints, lt, falls.not_after)

-- ---- starts

pub starts : (zone : Zone) (number : ℕ) (start : Option ℤ) (ss : List Period) → AreSoFar zone number start ss → IsStart zone number start
starts zone zero None ss so_far = tt
starts zone zero (Some s) ss so_far = so_far
starts zone (suc i) None ss so_far = so_far
starts zone (suc i) (Some s) ss so_far = so_far.0

pub until_in_years : (zone : Zone) (i : ℕ) (t : ℤ) → IsSoundSource zone.source → Ends zone i t → IsInYears 9002 t
until_in_years zone i t sound ends =
    let (line, at, is) = some_and_has (line_at zone i) (λ l. IsUntil zone.source.rules l t) ends in
    in_years is.until t (near_until zone.source.rules line is.until t sound.rules (sound_line zone i line sound at) is.has is)

pub start_in_years : (zone : Zone) (number : ℕ) (start : Option ℤ) → IsSoundSource zone.source → IsStart zone number start → IfSome start (IsInYears 9002)
start_in_years zone number None sound is = tt
start_in_years zone zero (Some s) sound is = absurd is
start_in_years zone (suc i) (Some s) sound is = until_in_years zone i s sound is

has_begun : (zone : Zone) (number : ℕ) (start : Option ℤ) (t : ℤ) → IsStart zone number start → IsFrom start t → HasBegun zone number t
has_begun zone zero start t is from = tt
has_begun zone (suc i) None t is from = absurd is
has_begun zone (suc i) (Some s) t is from = (s, is, from)

-- a line governs from its start until it is over
pub governs_from : (zone : Zone) (number : ℕ) (start : Option ℤ) (end : ℤ) (line : ZoneLine) → IsStart zone number start → line_at zone number ≡ Some line
    → ((t : ℤ) → t <ℤ end → IsNotOver zone line t)
    → (other : ZoneLine) → line_at zone number ≡ Some other → (t : ℤ) → IsFrom start t → t <ℤ end → Governs zone number other t
governs_from zone number start end line is at not_over other e t from lt =
    let same : line ≡ other = same_Some line other (sym at ∙ e) in
    record {
      is_line = e;
      begun = has_begun zone number start t is from;
      not_over = subst (λ (l : ZoneLine). IsNotOver zone l t) same (not_over t lt);
    }

-- ---- what one line adds

-- a line with an UNTIL, up to its instant
pub line_to_until : (zone : Zone) (number : ℕ) (start : Option ℤ) (end : ℤ) (line : ZoneLine) (until : Until) (xs : List TimedOccurrence) → IsSoundSource zone.source → line_at zone number ≡ Some line
    → line.until ≡ Some until → IsStart zone number start → IsOrderedOn zone.source.rules line.offset line.rules → AreOccurrencesOn zone.source.rules line.offset (until.year + 2) line.rules xs
    → IsUntil zone.source.rules line end → IsLineTo zone number start end (before xs end)
line_to_until zone number start end line until xs sound at has from order are is =
    let line_sound = sound_line zone number line sound at in
    let near = near_until zone.source.rules line until end sound.rules line_sound has is in
    let facts = gives_to_until zone line sound.rules line_sound order xs end (bound_of start end) (until.year + 2) is are (near_enough until end near) in
    record {
      governs = governs_from zone number start end line from at (λ t lt. (not_over_until zone line sound.rules line_sound order xs end t is).1 lt);
      gives = λ other e. subst (λ (l : ZoneLine). GivesInForce zone (bound_of start end) l (before xs end)) (same_Some line other (sym at ∙ e)) facts;
      before_end = before_limit xs end;
    }

-- the last line, up to the explicit end
pub line_to_end : (zone : Zone) (number : ℕ) (start : Option ℤ) (end : ℤ) (year : ℕ) (line : ZoneLine) (xs : List TimedOccurrence) → IsSoundSource zone.source → line_at zone number ≡ Some line
    → line.until ≡ None → IsStart zone number start → IsOrderedOn zone.source.rules line.offset line.rules → AreOccurrencesOn zone.source.rules line.offset (year + 2) line.rules xs
    → IsEndFrom zone number start line end → IsYearOf end (pos year) → IsLineTo zone number start end (before xs end)
line_to_end zone number start end year line xs sound at none from order are is of =
    let line_sound = sound_line zone number line sound at in
    let next = years_rise (pos year +ℤ pos 1) (pos (year + 2)) (omega (arith, ints)) in
    let within : (end +ℤ pos 172_800) ≤ℤ year_second (pos (year + 2)) = omega (arith, ints, next, of.not_over) in
    let facts = gives_last zone line sound.rules line_sound order xs start end (year + 2) none are within is.after in
    record {
      governs = governs_from zone number start end line from at (λ t lt. rw none tt);
      gives = λ other e. subst (λ (l : ZoneLine). GivesInForce zone (bound_of start end) l (before xs end)) (same_Some line other (sym at ∙ e)) facts;
      before_end = before_limit xs end;
    }

end_follows : (says : Rules) (start end : ℤ) → IsEndAfter says start end → start <ℤ end
end_follows Standard start end after = after
end_follows (Amount saving) start end after = after
end_follows (Set name) start end after = omega (arith, ints, after)

pub start_before_end : (zone : Zone) (number : ℕ) (start : Option ℤ) (line : ZoneLine) (end : ℤ) → IsEndFrom zone number start line end → IfSome start (IsInYears 9002)
    → IfSome start (λ s. IsInYears 9002 s × (s <ℤ end))
start_before_end zone number None line end is near = tt
start_before_end zone number (Some s) line end is near = (near, end_follows line.rules s end is.after)

pub falls_from : (zone : Zone) (number : ℕ) (s end : ℤ) → IsStart zone number (Some s) → Ends zone number end → end ≤ℤ s → HasUntilNotRising zone
falls_from zone zero s end is ends le = absurd is
falls_from zone (suc i) s end is ends le = record { number = i; earlier = s; later = end; ends = is; next_ends = ends; not_after = le }
