-- What is read, by what each event says.
use Rattle.std.proofs.Common.{◌≡◌, ℕ, ◌≤◌, false, cond, List, length, Option, refl, sym, subst, ◌∙◌, arith}
use Rattle.std.specs.Prelude.{flat_map, sum_by, bytes_eq}
use Rattle.std.specs.List.{AllZip}
use Rattle.zic_lines.specs.declared.entry.Entry.{Entry}
use Rattle.zic_lines.specs.Entry.{names_in}
use Rattle.zic_source.specs.Event.{Event}
use Rattle.zic_source.specs.Source.{SourceLines}
use Rattle.zic_source.specs.Grammar.{Statement, EventSays, said, entries_in, is_open, IsRead}
use Rattle.zic_source.proofs.Counts.{sum_flat_map, times, once_differ, differ_once}
use Rattle.zic_source.proofs.reading.Continuations.{Continued, are_continued, in_turn}
use Rattle.zic_source.proofs.reading.Limits.{IsOf, Limit, OfSet, Rules, Lines, Names, OfName, amount, amount_in, most, amount_said, ones}

-- the entries of all lines
abbrev pub entries_of : List (Option Statement) → List Entry
entries_of statements = flat_map entries_in (said statements)

-- Each event says this, continuation lines stand where they have to, and the source has what is said, within the limits.
pub record Read (events : List Event) (source : SourceLines) : Type 0 where
  pub statements : List (Option Statement)
  pub each : AllZip EventSays events statements
  pub continued : Continued false (said statements) (is_open source)
  pub is : IsOf source (entries_of statements)
  pub within : (limit : Limit) → amount source limit ≤ most limit

names_counted : (entries : List Entry) (name : List ℕ) → times name (flat_map names_in entries) ≡ sum_by (amount_in (OfName name)) entries
names_counted entries name = sum_flat_map names_in (λ (other : List ℕ). cond (bytes_eq other name) 1 0) (amount_in (OfName name)) (λ entry. refl) entries

all_names : (entries : List Entry) → length (flat_map names_in entries) ≡ sum_by (amount_in Names) entries
all_names entries = sym (ones (flat_map names_in entries)) ∙ sum_flat_map names_in (λ (name : List ℕ). 1) (amount_in Names) (λ entry. refl) entries

pub read_is : (events : List Event) (source : SourceLines) → Read events source → IsRead events source
read_is events source r = record {
  statements = r.statements;
  entries = entries_of r.statements;
  each = r.each;
  in_order = refl;
  continued = are_continued (is_open source) (said r.statements) r.continued;
  rules = r.is.rules;
  zones = r.is.zones;
  links = r.is.links;
  small_sets = λ name. r.within (OfSet name);
  few_rules = r.within Rules;
  few_zone_lines = r.within Lines;
  few_names = omega (arith, r.within Names, amount_said source (entries_of r.statements) r.is Names, all_names (entries_of r.statements));
  names_differ = once_differ _ (λ name. omega (arith, r.within (OfName name), amount_said source (entries_of r.statements) r.is (OfName name), names_counted (entries_of r.statements) name));
}

module _ (events : List Event) (source : SourceLines) (is : IsRead events source) where
  said_of : IsOf source is.entries
  said_of = record { rules = is.rules; zones = is.zones; links = is.links }

  all_within : (limit : Limit) → amount source limit ≤ most limit
  all_within (OfSet name) = is.small_sets name
  all_within Rules = is.few_rules
  all_within Lines = is.few_zone_lines
  all_within Names = omega (arith, is.few_names, amount_said source is.entries said_of Names, all_names is.entries)
  all_within (OfName name) = omega (arith, differ_once _ is.names_differ name, amount_said source is.entries said_of (OfName name), names_counted is.entries name)

  pub is_read : Read events source
  is_read = record {
    statements = is.statements;
    each = is.each;
    continued = in_turn (is_open source) (said is.statements) is.continued;
    is = subst (IsOf source) is.in_order said_of;
    within = all_within;
  }
