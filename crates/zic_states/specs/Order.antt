-- The order of a set's occurrences in all years, and their instants: zic(8), FILES, Rule lines. The order by nominal seconds, that
-- no two of them are equal, and that each instant comes after the one before it, are own choices.
use Rattle.std.specs.Prelude.{◌≡◌, ℤ, pos, ◌-ℤ◌, ◌<ℤ◌, ◌≤ℤ◌, ◌⊎◌}
use Rattle.zic_lines.specs.declared.clock.ClockForm.{ClockForm}
use Rattle.zic_lines.specs.declared.clock.ClockForm.TheVariants.{Wall, Standard, Universal}
use Rattle.zic_states.specs.Occurrence.{RuleSet, Occurrence, IsOccurrence, AreSame, nominal}

-- p is the occurrence before o: the one of the greatest lesser nominal second
pub record IsPredecessor (set : RuleSet) (o : Occurrence) (p : Occurrence) : Type 0 where
  pub is : IsOccurrence set p
  pub earlier : nominal p <ℤ nominal o
  pub greatest : (q : Occurrence) → IsOccurrence set q → nominal q <ℤ nominal o → nominal q ≤ℤ nominal p

-- No occurrence comes before o.
abbrev pub IsFirst : RuleSet → Occurrence → Type 0
IsFirst set o = (q : Occurrence) → IsOccurrence set q → nominal o ≤ℤ nominal q

-- the saving just before o: that of the occurrence before it, and 0 before the first
abbrev pub IsSavedBefore : RuleSet → Occurrence → ℤ → Type 0
IsSavedBefore set o saved =
    (IsFirst set o × (saved ≡ pos 0))
    ⊎ ((p : Occurrence) × IsPredecessor set o p × (saved ≡ p.rule.saving.seconds))

-- the instant at which a clock of this form shows a nominal second, where standard time is this number of seconds east of UT and
-- this saving holds
abbrev pub instant_by : ClockForm → ℤ → ℤ → ℤ → ℤ
instant_by Universal offset saved second = second
instant_by Standard offset saved second = second -ℤ offset
instant_by Wall offset saved second = second -ℤ offset -ℤ saved

-- the instant of an occurrence on a line of this standard offset: its clock is read with what was saved just before
pub record IsInstant (set : RuleSet) (offset : ℤ) (o : Occurrence) (t : ℤ) : Type 0 where
  pub saved : ℤ
  pub is_saved : IsSavedBefore set o saved
  pub is : t ≡ instant_by o.rule.moment.at.form offset saved (nominal o)

-- In all years different occurrences have different nominal seconds, and the instant of each comes after that of the occurrence
-- before it.
pub record IsInOrder (set : RuleSet) (offset : ℤ) : Type 0 where
  pub differ : (o p : Occurrence) → IsOccurrence set o → IsOccurrence set p → nominal o ≡ nominal p → AreSame o p
  pub rise : (o p : Occurrence) (t u : ℤ) → IsOccurrence set o → IsPredecessor set o p
      → IsInstant set offset o t → IsInstant set offset p u → u <ℤ t

-- two different occurrences of one nominal second
pub record AreTied (set : RuleSet) (o p : Occurrence) : Type 0 where
  pub one : IsOccurrence set o
  pub other : IsOccurrence set p
  pub different : AreSame o p → ⊥
  pub tied : nominal o ≡ nominal p

-- The instant of o isn't after that of p, the occurrence before it.
pub record DoesNotRise (set : RuleSet) (offset : ℤ) (o p : Occurrence) : Type 0 where
  pub is : IsOccurrence set o
  pub predecessor : IsPredecessor set o p
  pub later : ℤ
  pub earlier : ℤ
  pub at_later : IsInstant set offset o later
  pub at_earlier : IsInstant set offset p earlier
  pub not_after : later ≤ℤ earlier

-- the set is out of order on a line of this standard offset, in some year
abbrev pub IsOutOfOrder : RuleSet → ℤ → Type 0
IsOutOfOrder set offset = (o p : Occurrence) × (AreTied set o p ⊎ DoesNotRise set offset o p)
