-- A file doesn't differ from itself, and its offsets are short.
use Rattle.std.proofs.Common.{◌≡◌, inl, ℕ, ℤ, List, [], Option, Some, None, refl, sym, subst, arith}
use Rattle.std.specs.Prelude.{IsSomeAnd}
use Rattle.std.proofs.lemmas.List.Elements.{All-nil}
use Rattle.zic_base.specs.State.{Shown}
use Rattle.zic_compare.specs.Answers.{pair, IsSeenAt, seen}
use Rattle.zic_compare.specs.Differences.{AreDifferences, IsDifference}
use Rattle.zic_compare.specs.Files.{AreLinesOfBoth}
use Rattle.zic_compare.specs.Summary.{AgreeAt}
use Rattle.zic_compare.specs.code.Short.{AreShort, IsShort}
use Rattle.zic_layouts.specs.declared.compared.Compared.{Compared}
use Rattle.zic_compare.specs.declared.sides.Listed.{Listed}
use Rattle.zic_compare.specs.declared.sides.Listed.TheVariants as listed
use Rattle.zic_compare.proofs.RunLemmas.{one_seen_of}
use Rattle.zic_files.specs.Sound.{IsAlwaysKnown}
use Rattle.zic_posix.specs.declared.span.Instants.{Instants}
use Rattle.zic_tzif.specs.Content.{Content}
use Rattle.zic_tzif.specs.Laws.{FilesSayOne}
use Rattle.zic_tzif.specs.Reading.{IsFile}
use Rattle.zic_lines.specs.Limits.{IsWithinLimits}

never_differs_from_itself : (content : Content) (compared : Compared) (t : ℤ) → AgreeAt (pair content content compared) t
never_differs_from_itself content compared t differs = differs.differ (one_seen_of compared content t differs.old differs.new differs.are_seen.of_old differs.are_seen.of_new)

pub no_difference_from_itself : (content : Content) (compared : Compared) (bounds : Instants) → AreDifferences (pair content content compared) bounds []
no_difference_from_itself content compared bounds = record {
  each = All-nil (IsDifference (pair content content compared) bounds);
  in_order = λ i j d lt within. absurd (omega (arith, lt, within));
  all = λ t inside differs. absurd (never_differs_from_itself content compared t differs);
}

-- a file beside itself has no lines
no_lines : (how : Listed) (name : List ℕ) (content : Content) → AreLinesOfBoth how name content content []
no_lines (listed.Spans how) name content = record { differences = []; are = no_difference_from_itself content how.compared how.bounds; are_lines = refl }
no_lines (listed.Summaries survey) name content = inl (λ later from within. never_differs_from_itself content survey.compared later, refl)

-- nor have files with the same bytes
pub same_bytes : FilesSayOne → (how : Listed) (name a b : List ℕ) (old new : Content) → IsFile a old → IsFile b new → a ≡ b → AreLinesOfBoth how name old new []
same_bytes one how name a b old new of_old of_new same =
    let is : old ≡ new = one b old new (subst (λ (bytes : List ℕ). IsFile bytes old) same of_old) of_new in
    subst (λ (c : Content). AreLinesOfBoth how name old c []) is (no_lines how name old)

-- ---- offsets

short_state : (answer : Option Shown) → IsSomeAnd answer IsWithinLimits → IsShort answer
short_state None known = tt
short_state (Some state) known = let within = known.offset in omega (arith, within)

pub known_is_short : (content : Content) → IsAlwaysKnown content → AreShort content
known_is_short content known = λ t answer answers. short_state answer (known t answer answers)

pub seen_is_short : (compared : Compared) (answer : Option Shown) → IsShort answer → IsShort (seen compared answer)
seen_is_short compared None short = tt
seen_is_short compared (Some state) short = short

-- what is seen of a file whose offsets are short is short
pub state_is_short : (compared : Compared) (content : Content) (t : ℤ) (facts : Option Shown) → AreShort content → IsSeenAt compared content t facts → IsShort facts
state_is_short compared content t facts short is = subst IsShort (sym is.2) (seen_is_short compared is.0 (short t is.0 is.1))
