-- What is listed of two lists of files, by numbers that C has. Own choice.
use Rattle.std.specs.Prelude.{◌≡◌, ℕ, Bool, true, false}
use Rattle.zic_compare.specs.Files.{HasInstants}
use Rattle.zic_compare.specs.declared.sides.Grouping.TheVariants as groupings
use Rattle.zic_layouts.specs.declared.compared.Compared.{Compared}
use Rattle.zic_compare.specs.declared.sides.Listed.{Listed}
use Rattle.zic_compare.specs.declared.sides.Listed.TheVariants as listed
use Rattle.zic_compare.specs.declared.sides.Style.TheVariants as styles
use Rattle.pzic_zones.specs.Zone.{instants}
use Rattle.pzic_files.specs.declared.diff_options.DiffOptions.{DiffOptions}

-- whether a part of answers is left out of the comparison
abbrev pub ignore_number : Bool → ℕ
ignore_number true = 0
ignore_number false = 1

-- the parts that are compared
pub record IsComparedBy (given : DiffOptions) (compared : Compared) : Type 0 where
  pub daylight : given.ignore_daylight ≡ ignore_number compared.daylight
  pub abbreviation : given.ignore_abbreviation ≡ ignore_number compared.abbreviation

-- what is listed: by 0 spans, from the first instant to the last, and by 1 summaries, from the first instant on; instants are counts, and
-- each name has lines of its own
abbrev pub HasNumbers : DiffOptions → Listed → Type 0
HasNumbers given (listed.Spans how) =
    (given.listed ≡ 0) × IsComparedBy given how.compared × (how.style ≡ styles.Count) × (how.grouping ≡ groupings.Apart)
    × (how.bounds ≡ instants given.first given.last)
HasNumbers given (listed.Summaries survey) =
    (given.listed ≡ 1) × IsComparedBy given survey.compared × (survey.style ≡ styles.Count) × (survey.grouping ≡ groupings.Apart)
    × (survey.since ≡ given.first) × (survey.present ≡ given.present)

-- The options say this of what is listed, and the last instant of spans isn't before the first.
pub record IsListedBy (given : DiffOptions) (how : Listed) : Type 0 where
  pub numbers : HasNumbers given how
  pub has_instants : HasInstants how

-- Nothing is listed by the options: a number is that of nothing, or the last instant of spans is before the first.
abbrev pub HasNoListing : DiffOptions → Type 0
HasNoListing given = (how : Listed) → IsListedBy given how → ⊥
