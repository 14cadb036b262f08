-- Lists of occurrences.
use Rattle.std.specs.Prelude.{◌≡◌, ℕ, ◌≤◌, ℤ, pos, ◌<ℤ◌, ◌≤ℤ◌, List, All, Any, AllPairs, unwrap_or}
use Rattle.zic_lines.specs.declared.rule_line.Rule.{Rule}
use Rattle.zic_states.specs.declared.occurrence.TimedOccurrence.{TimedOccurrence}
use Rattle.zic_states.specs.Occurrence.{RuleSet, IsMember, Occurrence, IsOccurrence, nominal, year_second}
use Rattle.zic_states.specs.Order.{IsInstant}

-- the last year that a Rule line names: TO, and FROM where there is no last year
abbrev pub last_named : Rule → ℕ
last_named rule = unwrap_or rule.last rule.first

-- the last year that the lines of a set name
pub record IsLastNamed (set : RuleSet) (year : ℕ) : Type 0 where
  pub greatest : (number : ℕ) (rule : Rule) → IsMember set number rule → last_named rule ≤ year
  pub named : (number : ℕ) × (rule : Rule) × IsMember set number rule × (last_named rule ≡ year)

-- x is the occurrence o with its instant
pub record IsTimedOf (set : RuleSet) (offset : ℤ) (x : TimedOccurrence) (o : Occurrence) : Type 0 where
  pub is : IsOccurrence set o
  pub number : x.rule ≡ o.number
  pub year : pos x.year ≡ o.year
  pub instant : IsInstant set offset o x.instant

-- x is an occurrence with its instant, and its nominal second lies before the bound
abbrev pub IsListed : RuleSet → ℤ → ℤ → TimedOccurrence → Type 0
IsListed set offset bound x = (o : Occurrence) × IsTimedOf set offset x o × (nominal o <ℤ bound)

-- all occurrences whose nominal seconds lie before the bound, in the order of their instants
pub record AreOccurrencesBefore (set : RuleSet) (offset bound : ℤ) (xs : List TimedOccurrence) : Type 0 where
  pub each : All (IsListed set offset bound) xs
  pub all : (o : Occurrence) → IsOccurrence set o → nominal o <ℤ bound → Any (λ x. (x.rule ≡ o.number) × (pos x.year ≡ o.year)) xs
  pub rising : AllPairs (λ a b. a.instant <ℤ b.instant) xs

-- all occurrences of nominal seconds before this year, or before a later second
abbrev pub AreOccurrencesTo : RuleSet → ℤ → ℕ → List TimedOccurrence → Type 0
AreOccurrencesTo set offset year xs = (bound : ℤ) × (year_second (pos year) ≤ℤ bound) × AreOccurrencesBefore set offset bound xs
