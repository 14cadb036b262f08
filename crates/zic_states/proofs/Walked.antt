-- The walk through the occurrences in a list, up to those after which an UNTIL is read.
use Rattle.std.proofs.Common.{◌≡◌, ℕ, ◌+◌, ◌<◌, List, length, Option, Some, None, All, ◌⊎◌, inl, inr, refl, ap, subst, arith, ℤ, pos, ◌+ℤ◌, ◌-ℤ◌, ◌<ℤ◌, ◌≤ℤ◌, lit≤}
use Rattle.std.proofs.lemmas.Int.{ints, by_lt_z}
use Rattle.std.proofs.lemmas.Option.{slice_get_within}
use Rattle.zic_lines.specs.declared.clock.ClockForm.{ClockForm}
use Rattle.zic_lines.specs.declared.clock.ClockForm.TheVariants.{Wall, Standard, Universal}
use Rattle.zic_lines.specs.declared.until.Until.{Until}
use Rattle.zic_source.specs.Sound.{IsSoundRule, IsSoundUntil, IsWithinDay}
use Rattle.zic_base.proofs.Elements.{all_got}
use Rattle.zic_states.specs.declared.occurrence.TimedOccurrence.{TimedOccurrence}
use Rattle.zic_states.specs.Occurrence.{RuleSet, Occurrence, IsOccurrence, nominal, nominal_second, year_second}
use Rattle.zic_states.specs.Order.{IsInstant, instant_by}
use Rattle.zic_states.specs.Until.{IsNext, IsStage, ComesBefore, Stops, IsReadAfter, saved_after, until_by}
use Rattle.zic_states.proofs.Bounds.{moment_to, years_apart}
use Rattle.zic_states.proofs.Given.{one_instant, near}
use Rattle.zic_states.proofs.Ordered.{IsOrdered, compare_occurrences, next_is, one_next}
use Rattle.zic_states.proofs.Listed.{IsListing, IsAt, find, stands_before, first_is_next, later_is_next}

-- b is the last of the first k occurrences of the list, and none where k is 0
abbrev pub IsStageAt : RuleSet → ℤ → ℤ → List TimedOccurrence → ℕ → Option Occurrence → Type 0
IsStageAt set offset bound xs k None = k ≡ 0
IsStageAt set offset bound xs k (Some o) = (j : ℕ) × (k ≡ j + 1) × IsAt set offset bound xs j o

-- The reading doesn't stop before the first k occurrences, after which so much is saved.
pub record IsPassed (set : RuleSet) (offset bound : ℤ) (until : Until) (xs : List TimedOccurrence) (k : ℕ) (saved : ℤ) : Type 0 where
  pub b : Option Occurrence
  pub is_at : IsStageAt set offset bound xs k b
  pub saved_is : saved ≡ saved_after b
  pub first : (c : Option Occurrence) → IsStage set c → ComesBefore c b → Stops set offset until c → ⊥

-- ---- bounds

-- an instant comes at most 48 hours after what its clock shows
pub instant_not_after : (form : ClockForm) (offset saved second : ℤ) → IsWithinDay offset → IsWithinDay saved
    → instant_by form offset saved second ≤ℤ (second +ℤ pos 172_800)
instant_not_after Universal offset saved second within_offset within_saved = omega (arith, ints)
instant_not_after Standard offset saved second within_offset within_saved = omega (arith, ints)
instant_not_after Wall offset saved second within_offset within_saved = omega (arith, ints)

pub saved_within : (set : RuleSet) → All IsSoundRule set.rules → (b : Option Occurrence) → IsStage set b → IsWithinDay (saved_after b)
saved_within set sound None is = lit≤ tt
saved_within set sound (Some o) is = (all_got IsSoundRule set.rules o.number o.rule sound is.member.numbered).saving

-- an occurrence two years after an UNTIL, or later, comes after it
beyond : {set : RuleSet} {offset : ℤ} → IsOrdered set offset → (until : Until) → IsSoundUntil until → (bound saved : ℤ) → IsWithinDay saved
    → year_second (pos (until.year + 2)) ≤ℤ bound → (o : Occurrence) (u : ℤ) → IsOccurrence set o → IsInstant set offset o u
    → bound ≤ℤ nominal o → until_by offset until saved ≤ℤ u
beyond {set} {offset} given until sound bound saved within enough o u is at past =
    let second = nominal_second (pos until.year) until.moment in
    let a : until_by offset until saved ≤ℤ (second +ℤ pos 172_800) =
    instant_not_after until.moment.at.form offset saved second given.within within
    in
    let b : second <ℤ (year_second (pos until.year +ℤ pos 1) +ℤ pos 1_641_600) =
    moment_to (pos until.year) (pos until.year +ℤ pos 1) until.moment refl sound.moment sound.fits
    in
    let lt : (pos until.year +ℤ pos 1) <ℤ pos (until.year + 2) = omega (arith, ints) in
    let c : (year_second (pos until.year +ℤ pos 1) +ℤ pos 31_536_000) ≤ℤ year_second (pos (until.year + 2)) =
    years_apart (pos until.year +ℤ pos 1) (pos (until.year + 2)) lt
    in
    let d : (nominal o -ℤ pos 172_800) ≤ℤ u = (near set offset given.sound given.within given.order o u is at).0 in
    omega (arith, ints)

-- ---- stages

stage_is : {set : RuleSet} {offset bound : ℤ} {xs : List TimedOccurrence} → IsListing set offset bound xs
    → (k : ℕ) (b : Option Occurrence) → IsStageAt set offset bound xs k b → IsStage set b
stage_is g k None is_at = tt
stage_is g k (Some o) is_at = is_at.2.located.is

next_at : {set : RuleSet} {offset bound : ℤ} {xs : List TimedOccurrence} → IsListing set offset bound xs
    → (k : ℕ) (b : Option Occurrence) (p : Occurrence) → IsStageAt set offset bound xs k b → IsAt set offset bound xs k p → IsNext set b p
next_at g k None p is_at at = first_is_next g k p is_at at
next_at g k (Some o) p is_at at = later_is_next g is_at.0 k o p is_at.1 is_at.2 at

-- what comes before the one that stands next is b, or comes before b
before_or_same : {set : RuleSet} {offset bound : ℤ} {xs : List TimedOccurrence} → IsListing set offset bound xs
    → (k : ℕ) (b : Option Occurrence) (p : Occurrence) → IsStageAt set offset bound xs k b → IsAt set offset bound xs k p
    → (c : Option Occurrence) → IsStage set c → ComesBefore c (Some p) → ComesBefore c b ⊎ (c ≡ b)
before_or_same g k None p is_at at None is_c before = inr refl
before_or_same g k (Some o) p is_at at None is_c before = inl tt
before_or_same g k None p is_at at (Some c) is_c before =
    let place = find g c is_c (let end = at.before in omega (arith, ints)) in
    let less : place.0 < k = stands_before g place.0 k c p place.1 at before in
    absurd (omega arith)
before_or_same {set} {offset} {bound} {xs} g k (Some o) p is_at at (Some c) is_c before =
    elim (compare_occurrences set offset g.ordered.order c o is_c is_at.2.located.is) [
      | inl lt ↦ inl lt
      | inr (inl same) ↦ inr (ap Some same)
      | inr (inr gt) ↦
          let place = find g c is_c (let end = at.before in omega (arith, ints)) in
          let less : place.0 < k = stands_before g place.0 k c p place.1 at before in
          let more : is_at.0 < place.0 = stands_before g is_at.0 place.0 o c is_at.2 place.1 gt in
          let one_more = is_at.1 in
          absurd (omega arith)
    ]

-- ---- the walk

-- before all
pub none_passed : (set : RuleSet) (offset bound : ℤ) (until : Until) (xs : List TimedOccurrence) → IsPassed set offset bound until xs 0 (pos 0)
none_passed set offset bound until xs = record { b = None; is_at = refl; saved_is = refl; first = λ c is before stops. before }

-- past an occurrence whose instant comes before the UNTIL
pub one_more_passed : {set : RuleSet} {offset bound : ℤ} {xs : List TimedOccurrence} → IsListing set offset bound xs
    → (until : Until) (k : ℕ) (saved : ℤ) (p : Occurrence) → IsPassed set offset bound until xs k saved → (at : IsAt set offset bound xs k p)
    → at.x.instant <ℤ until_by offset until saved → IsPassed set offset bound until xs (k + 1) p.rule.saving.seconds
one_more_passed {set} {offset} {bound} {xs} g until k saved p passed at lt =
    let goes_on : Stops set offset until passed.b → ⊥ = λ stops.
    let ge : until_by offset until (saved_after passed.b) ≤ℤ at.x.instant =
    stops p at.x.instant (next_at g k passed.b p passed.is_at at) at.located.instant
    in
    let same : until_by offset until saved ≡ until_by offset until (saved_after passed.b) = ap (until_by offset until) passed.saved_is in
    absurd (omega (arith, ints))
    in
    let first : (c : Option Occurrence) → IsStage set c → ComesBefore c (Some p) → Stops set offset until c → ⊥ = λ c is_c before stops.
    elim (before_or_same g k passed.b p passed.is_at at c is_c before) [
      | inl earlier ↦ passed.first c is_c earlier stops
      | inr same ↦ goes_on (subst (Stops set offset until) same stops)
    ]
    in
    record { b = Some p; is_at = (k, refl, at); saved_is = refl; first = first }

-- at an occurrence whose instant isn't before the UNTIL
pub stops_at : {set : RuleSet} {offset bound : ℤ} {xs : List TimedOccurrence} → IsListing set offset bound xs
    → (until : Until) (k : ℕ) (saved : ℤ) (p : Occurrence) → (passed : IsPassed set offset bound until xs k saved) → (at : IsAt set offset bound xs k p)
    → until_by offset until saved ≤ℤ at.x.instant → IsReadAfter set offset until passed.b
stops_at {set} {offset} {bound} {xs} g until k saved p passed at le =
    let given = g.ordered in
    let stops : Stops set offset until passed.b = λ next u is_next at_u.
    let same_next : next ≡ p = one_next set offset given.order passed.b next p is_next (next_at g k passed.b p passed.is_at at) in
    let At : Occurrence → Type 0 = λ q. IsInstant set offset q u in
    let same : u ≡ at.x.instant =
    one_instant set offset given.sound given.within given.order p u at.x.instant at.located.is (subst At same_next at_u) at.located.instant
    in
    let read : until_by offset until saved ≡ until_by offset until (saved_after passed.b) = ap (until_by offset until) passed.saved_is in
    omega (arith, ints)
    in
    record { is = stage_is g k passed.b passed.is_at; stops = stops; first = passed.first }

-- what comes after the whole list isn't in it
past_end : {set : RuleSet} {offset bound : ℤ} {xs : List TimedOccurrence} → IsListing set offset bound xs
    → (b : Option Occurrence) (next : Occurrence) → IsStageAt set offset bound xs (length xs) b → IsNext set b next → nominal next <ℤ bound → ⊥
past_end {set} {offset} {bound} {xs} g None next is_at is_next before =
    let place = find g next is_next.0 before in
    let inside : place.0 < length xs = slice_get_within xs place.0 place.1.x place.1.got in
    absurd (omega arith)
past_end {set} {offset} {bound} {xs} g (Some o) next is_at is_next before =
    let place = find g next is_next.0 before in
    let inside : place.0 < length xs = slice_get_within xs place.0 place.1.x place.1.got in
    let more : is_at.0 < place.0 = stands_before g is_at.0 place.0 o next is_at.2 place.1 is_next.1.earlier in
    let end = is_at.1 in
    absurd (omega arith)

-- at the end of a list that goes on two years past the UNTIL
pub stops_at_end : {set : RuleSet} {offset bound : ℤ} {xs : List TimedOccurrence} → IsListing set offset bound xs
    → (until : Until) → IsSoundUntil until → year_second (pos (until.year + 2)) ≤ℤ bound → (k : ℕ) → k ≡ length xs → (saved : ℤ)
    → (passed : IsPassed set offset bound until xs k saved) → IsReadAfter set offset until passed.b
stops_at_end {set} {offset} {bound} {xs} g until sound enough k end saved passed =
    let given = g.ordered in
    let At : ℕ → Type 0 = λ n. IsStageAt set offset bound xs n passed.b in
    let is_b = stage_is g k passed.b passed.is_at in
    let stops : Stops set offset until passed.b = λ next u is_next at_u.
    by_lt_z (nominal next) bound
    (λ before. absurd (past_end g passed.b next (subst At end passed.is_at) is_next before))
    (λ past. beyond given until sound bound (saved_after passed.b) (saved_within set given.sound passed.b is_b) enough next u (next_is set passed.b next is_next) at_u past)
    in
    record { is = is_b; stops = stops; first = passed.first }
