-- The parts that a reader finds in bytes that pass a group of checks.
use Rattle.std.specs.Prelude.{◌≡◌, ℕ, ◌+◌, ◌-◌, ◌≤◌, ◌⊎◌, nat_lt, nat_le, ℤ, List, [], ◌∷◌, map, slice_index, length, Some, None, Result, Ok, Err}
use Rattle.std.specs.List.{list_all}
use Rattle.zic_base.specs.Check.{Check, check, first_failed}
use Rattle.zic_base.specs.State.{Shown}
use Rattle.zic_posix.specs.Footer.{TzString}
use Rattle.zic_posix.specs.Meaning.{Means}
use Rattle.zic_tzif.specs.declared.content.Change.{Change}
use Rattle.zic_tzif.specs.Content.{Content, IsLastTransition, IsStateOfType}
use Rattle.zic_tzif.specs.Designation.{is_designated}
use Rattle.zic_tzif.specs.declared.data_block.DataBlock.{DataBlock}
use Rattle.zic_tzif.specs.declared.reader.FirstPart.{FirstPart}
use Rattle.zic_tzif.specs.declared.reader.Parts.{Parts}
use Rattle.zic_tzif.specs.declared.reason.Reason.{Reason}
use Rattle.zic_tzif.specs.declared.reason.Reason.TheVariants as reason
use Rattle.zic_tzif.specs.Header.{second_header, second_counts, footer_place}
use Rattle.zic_tzif.specs.Block.{pieces, time_in, type_in, times_in, do_rise, numbers_in, changes_at, type_records, names_in, indicators_in, footer_text, is_type_record}

-- the checks pass, and this was found; or this is the reason of the first that fails
abbrev pub Checks : {A : Type 0} → List (Check Reason) → (A → Type 0) → Result A Reason → Type 0
Checks cs Found (Ok x) = (first_failed cs ≡ None) × Found x
Checks cs Found (Err r) = first_failed cs ≡ Some r

-- the version, and where the second header is
pub record IsFirstPart (octets : List ℕ) (s : FirstPart) : Type 0 where
  pub version : s.version ≡ slice_index octets 4 - 48
  pub known : (s.version ≡ 2) ⊎ (s.version ≡ 3)
  pub second_header : s.second_header ≡ second_header octets
  pub inside : s.second_header + 44 ≤ length octets

-- the times of a block's transitions, and the bytes of its types
abbrev pub times_of : DataBlock → List ℤ
times_of b = map time_in (pieces 8 b.transitions b.times.now)

abbrev pub records_of : DataBlock → List (List ℕ)
records_of b = pieces 6 b.types b.records.now

-- the checks of a block
abbrev pub checks_of : DataBlock → List (Check Reason)
checks_of b =
    check (do_rise (times_of b)) reason.TimesNotRising
    ∷ check (list_all (λ number. nat_lt number b.types) b.numbers.now) reason.TypeIndex
    ∷ check (list_all (λ r. is_designated b.names.now (type_in r).place) (records_of b)) reason.Designation
    ∷ check (list_all is_type_record (records_of b)) reason.TypeRecord
    ∷ check (list_all (λ b. nat_le b 1) b.indicators.now) reason.Indicators
    ∷ []

-- the parts of the second data block
pub record HasParts (octets : List ℕ) (b : DataBlock) : Type 0 where
  pub times : times_of b ≡ times_in octets
  pub numbers : b.numbers.now ≡ numbers_in octets
  pub types : b.types ≡ (second_counts octets).types
  pub records : records_of b ≡ type_records octets
  pub names : b.names.now ≡ names_in octets
  pub indicators : b.indicators.now ≡ indicators_in octets
  pub end : b.end ≡ footer_place octets

-- of which there is at least one type
abbrev pub IsBlock : List ℕ → DataBlock → Type 0
IsBlock octets b = HasParts octets b × (1 ≤ b.types)

-- the text between the newlines, both of which are inside
pub record IsText (octets text : List ℕ) : Type 0 where
  pub is : text ≡ footer_text octets
  pub inside : footer_place octets + length text + 2 ≤ length octets

-- the parts of a file that passes all these checks
pub record AreParts (octets : List ℕ) (p : Parts) : Type 0 where
  pub version : p.version ≡ slice_index octets 4 - 48
  pub known : (p.version ≡ 2) ⊎ (p.version ≡ 3)
  pub block : IsBlock octets p.block
  pub passes : first_failed (checks_of p.block) ≡ None
  pub text : IsText octets p.text.now

-- their content
abbrev pub content_of : Parts → Content
content_of p = record {
  version = p.version;
  changes = changes_at (times_of p.block) p.block.numbers.now;
  types = map type_in (records_of p.block);
  names = p.block.names.now;
  text = p.text.now;
}

-- At the last transition, if there is one, the string means the type that begins there.
abbrev pub DoesAgree : Content → TzString → Type 0
DoesAgree content f = (c : Change) (state : Shown) → IsLastTransition content c → IsStateOfType content c.number state → Means f c.instant state
