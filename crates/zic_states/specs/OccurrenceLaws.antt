-- Laws of a set's occurrences, in all years.
use Rattle.std.specs.Prelude.{◌≡◌, ℕ, ◌*◌, ℤ, pos, ◌+ℤ◌, ◌<ℤ◌, ◌≤ℤ◌, ◌⊎◌, ◌↔◌, All}
use Rattle.zic_source.specs.Sound.{IsSoundRule, IsWithinDay}
use Rattle.zic_states.specs.Occurrence.{RuleSet, Occurrence, IsOccurrence, nominal, year_second}
use Rattle.zic_states.specs.Order.{IsPredecessor, IsInstant, IsInOrder, IsOutOfOrder}
use Rattle.zic_states.specs.Listing.{IsLastNamed}

-- an instant lies within 21 days outside its year
abbrev pub StaysNearYear : Type 0
StaysNearYear =
    (set : RuleSet) (offset : ℤ) (o : Occurrence) (t : ℤ)
    → All IsSoundRule set.rules → IsWithinDay offset → IsOccurrence set o → IsInstant set offset o t
    → (year_second o.year ≤ℤ (t +ℤ pos (21 * 86_400)))
    × (t <ℤ (year_second (o.year +ℤ pos 1) +ℤ pos (21 * 86_400)))

-- After the last year that a set names each of its rules that occurs does so in every year. 400 years are 146,097 days. From the
-- third year after it on instants and predecessors come again after them too, and from the fourth on the predecessors' instants.
pub record RepeatAfterLast : Type 0 where
  pub occurrences : (set : RuleSet) (last : ℕ) (o : Occurrence) (year : ℤ) → IsLastNamed set last → IsOccurrence set o
      → pos last <ℤ o.year → pos last <ℤ year → IsOccurrence set (record o { year = year })
  pub nominals : (o : Occurrence) → nominal (record o { year = o.year +ℤ pos 400 }) ≡ nominal o +ℤ pos (146_097 * 86_400)
  pub instants : (set : RuleSet) (offset : ℤ) (last : ℕ) (o : Occurrence) (t : ℤ)
      → All IsSoundRule set.rules → IsLastNamed set last → IsOccurrence set o → (pos last +ℤ pos 3) ≤ℤ o.year
      → IsInstant set offset o t ↔ IsInstant set offset (record o { year = o.year +ℤ pos 400 }) (t +ℤ pos (146_097 * 86_400))
  pub predecessors : (set : RuleSet) (last : ℕ) (o p : Occurrence)
      → All IsSoundRule set.rules → IsLastNamed set last → IsOccurrence set o → (pos last +ℤ pos 3) ≤ℤ o.year
      → IsPredecessor set o p ↔ IsPredecessor set (record o { year = o.year +ℤ pos 400 }) (record p { year = p.year +ℤ pos 400 })
  pub predecessor_instants : (set : RuleSet) (offset : ℤ) (last : ℕ) (o p : Occurrence) (t : ℤ)
      → All IsSoundRule set.rules → IsLastNamed set last → IsOccurrence set o → (pos last +ℤ pos 3) <ℤ o.year → IsPredecessor set o p
      → IsInstant set offset p t ↔ IsInstant set offset (record p { year = p.year +ℤ pos 400 }) (t +ℤ pos (146_097 * 86_400))

-- an occurrence of a sound set has an instant, and where the set is in order no other
pub record EachHasOneInstant : Type 0 where
  pub some : (set : RuleSet) (offset : ℤ) (o : Occurrence) → All IsSoundRule set.rules → IsOccurrence set o
      → (t : ℤ) × IsInstant set offset o t
  pub only : (set : RuleSet) (offset : ℤ) (o : Occurrence) (t u : ℤ) → IsInOrder set offset
      → IsInstant set offset o t → IsInstant set offset o u → t ≡ u

-- where a sound set is in order, instants rise with nominal seconds, also of occurrences far apart
abbrev pub InstantsRise : Type 0
InstantsRise =
    (set : RuleSet) (offset : ℤ) (p q : Occurrence) (u t : ℤ)
    → All IsSoundRule set.rules → IsInOrder set offset → IsOccurrence set p → IsOccurrence set q
    → IsInstant set offset p u → IsInstant set offset q t → nominal p <ℤ nominal q → u <ℤ t

-- no set is both in order and out of order
abbrev pub NeverBoth : Type 0
NeverBoth = (set : RuleSet) (offset : ℤ) → IsInOrder set offset → IsOutOfOrder set offset → ⊥

-- o is the last occurrence whose instant isn't after t, and this instant is u
pub record IsLastOccurrence (set : RuleSet) (offset t : ℤ) (o : Occurrence) (u : ℤ) : Type 0 where
  pub is : IsOccurrence set o
  pub instant : IsInstant set offset o u
  pub not_after : u ≤ℤ t
  pub last : (q : Occurrence) (v : ℤ) → IsOccurrence set q → IsInstant set offset q v → v ≤ℤ t → v ≤ℤ u

-- for each instant there is a last occurrence not after it, or all come after it
abbrev pub LastNotAfter : Type 0
LastNotAfter =
    (set : RuleSet) (offset t : ℤ) → All IsSoundRule set.rules → IsWithinDay offset → IsInOrder set offset
    → ((o : Occurrence) × (u : ℤ) × IsLastOccurrence set offset t o u)
    ⊎ ((q : Occurrence) (v : ℤ) → IsOccurrence set q → IsInstant set offset q v → t <ℤ v)
