-- What bytes that pass all checks of a reader have.
use Rattle.std.proofs.Common.{◌≡◌, ℕ, zero, suc, ◌<◌, ◌≤◌, Bool, true, false, List, [], ◌∷◌, length, Option, None, All, AllPairs, refl, subst, sym, ◌∙◌, arith}
use Rattle.std.specs.Prelude.{◌<ℤ◌, ◌&&◌, ◌||◌, ◌==◌, nat_lt, if◌then◌else◌, Some, drop}
use Rattle.std.specs.List.{list_all}
use Rattle.std.proofs.lemmas.Bool.{and_parts, ltb-true}
use Rattle.std.proofs.lemmas.List.{length-map}
use Rattle.std.proofs.lemmas.List.Elements.{All-nil, All-cons}
use Rattle.zic_base.specs.Check.{Check, check, first_failed}
use Rattle.zic_tzif.specs.declared.content.Change.{Change}
use Rattle.zic_tzif.specs.declared.reason.Reason.{Reason}
use Rattle.zic_tzif.specs.declared.reason.Reason.TheVariants as reason
use Rattle.zic_tzif.specs.Header.{second_counts, types_place}
use Rattle.zic_tzif.specs.Block.{pieces, type_in, times_in, do_rise, numbers_in, type_records}
use Rattle.zic_tzif.specs.Reading.{are_counts, checks, content_in}
use Rattle.zic_tzif.proofs.Transitions.{changes_rise, changes_have_types}

one_passes : (passes : Bool) (rest : Option Reason) (r : Reason) → (if passes then rest else Some r) ≡ None → (passes ≡ true) × (rest ≡ None)
one_passes true rest r none = (refl, none)
one_passes false rest r none = absurd cc

-- where no check fails each passes
pub each_passes : (cs : List (Check Reason)) → first_failed cs ≡ None → All (λ (c : Check Reason). c.passes ≡ true) cs
each_passes [] none = All-nil (λ (c : Check Reason). c.passes ≡ true)
each_passes (c ∷ cs) none =
    let p = one_passes c.passes (first_failed cs) c.reason none in
    All-cons (λ (c : Check Reason). c.passes ≡ true) c cs p.0 (each_passes cs p.1)

pub pieces_length : (width n : ℕ) (octets : List ℕ) → length (pieces width n octets) ≡ n
pieces_length width zero octets = refl
pieces_length width (suc n) octets = let rest = pieces_length width n (drop width octets) in omega (arith, rest)

module _ (octets : List ℕ) (passes : first_failed (checks octets) ≡ None) where
  abbrev none : Check Reason
  none = check true reason.Short

  counts : are_counts (second_counts octets) ≡ true
  counts = each_passes (checks octets) passes 7 none (omega arith)

  pub times_rise : do_rise (times_in octets) ≡ true
  times_rise = each_passes (checks octets) passes 10 none (omega arith)

  pub numbers_below : list_all (λ number. nat_lt number (second_counts octets).types) (numbers_in octets) ≡ true
  numbers_below = each_passes (checks octets) passes 11 none (omega arith)

  number_of_types : length (content_in octets).types ≡ (second_counts octets).types
  number_of_types = length-map (type_records octets) type_in ∙ pieces_length 6 (second_counts octets).types (drop (types_place octets) octets)

  -- transitions rise
  pub rising : AllPairs (λ (a b : Change). a.instant <ℤ b.instant) (content_in octets).changes
  rising = changes_rise (times_in octets) (numbers_in octets) times_rise

  -- and have types
  pub have_types : All (λ (c : Change). c.number < length (content_in octets).types) (content_in octets).changes
  have_types =
      subst (λ n. All (λ (c : Change). c.number < n) (content_in octets).changes) (sym number_of_types)
      (changes_have_types (second_counts octets).types (times_in octets) (numbers_in octets) numbers_below)

  -- of which there is one
  pub some_type : 1 ≤ length (content_in octets).types
  some_type =
      let c = second_counts octets in
      let p = and_parts (nat_lt 0 c.types && nat_lt 0 c.characters && ((c.standard_indicators == 0) || (c.standard_indicators == c.types))) ((c.ut_indicators == 0) || (c.ut_indicators == c.types)) counts in
      let q = and_parts (nat_lt 0 c.types && nat_lt 0 c.characters) ((c.standard_indicators == 0) || (c.standard_indicators == c.types)) p.0 in
      let r = and_parts (nat_lt 0 c.types) (nat_lt 0 c.characters) q.0 in
      let some : 0 < c.types = ltb-true 0 c.types r.0 in
      let number = number_of_types in
      omega (arith, some, number)
