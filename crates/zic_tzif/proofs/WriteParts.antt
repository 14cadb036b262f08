-- What stands where in a written file.
use Rattle.std.proofs.Common.{◌≡◌, ℕ, ◌+◌, ◌*◌, ◌≤◌, List, [], ◌∷◌, ◌++◌, map, length, take, drop, slice_index, refl, ap, ap₂, sym, ◌∙◌, arith, length-append, append_assoc, take_at, drop_at, drop-drop, get_or-drop, All, FitsSigned, w64}
use Rattle.std.proofs.lemmas.List.{length-map}
use Rattle.std.specs.List.{flat_map}
use Rattle.byteorder.specs.Endian.{big_bytes, big_number}
use Rattle.zic_tzif.specs.declared.content.Change.{Change}
use Rattle.zic_tzif.specs.declared.content.TheConstants.{MAX_TRANSITIONS, MAX_TYPES, MAX_CHARACTERS}
use Rattle.zic_tzif.specs.Content.{Content}
use Rattle.zic_tzif.specs.Header.{Counts, counts_at, second_header, second_block, second_counts, numbers_place, types_place, names_place, indicators_place, footer_place, block_length}
use Rattle.zic_tzif.specs.Block.{time_in, pieces, times_in, numbers_in, type_records, names_in, indicators_in, after_newline}
use Rattle.zic_tzif.specs.Writing.{time_octets, type_octets, written}
use Rattle.zic_tzif.proofs.WriteBlock.{number_again, times_again, types_again, types_length, times_length}

-- the number of bytes that are written
pub length_written : (content : Content) → length (written content) ≡ 95 + (length content.changes * 9 + length content.types * 6 + length content.names) + 1 + length content.text + 1
length_written content =
    let times = flat_map time_octets content.changes in
    let numbers = map (λ (c : Change). c.number) content.changes in
    let types = flat_map type_octets content.types in
    let text : List ℕ = content.text ++ 10 ∷ [] in
    omega (
      arith,
      times_length content.changes,
      length-map content.changes (λ (c : Change). c.number),
      types_length content.types,
      length-append times numbers,
      length-append (times ++ numbers) types,
      length-append (times ++ numbers ++ types) content.names,
      length-append (times ++ numbers ++ types ++ content.names) (10 ∷ text),
      length-append content.text (10 ∷ []),
    )

-- ---- the written form of a content

abbrev numbers_of : List Change → List ℕ
numbers_of changes = map (λ c. c.number) changes

-- what stands after the designations, the local time types, the numbers of types and the times
abbrev after_names : Content → List ℕ
after_names content = 10 ∷ (content.text ++ 10 ∷ [])

abbrev after_types : Content → List ℕ
after_types content = content.names ++ after_names content

abbrev after_numbers : Content → List ℕ
after_numbers content = flat_map type_octets content.types ++ after_types content

abbrev after_times : Content → List ℕ
after_times content = numbers_of content.changes ++ after_numbers content

-- the second header's counts
abbrev pub counts_of : Content → Counts
counts_of content = record {
  ut_indicators = 0;
  standard_indicators = 0;
  leap_seconds = 0;
  transitions = length content.changes;
  types = length content.types;
  characters = length content.names;
}

-- the bytes are the written form of the content, part by part
pub record IsLaid (octets : List ℕ) (content : Content) : Type 0 where
  pub size : length octets ≡ 95 + (length content.changes * 9 + length content.types * 6 + length content.names) + 1 + length content.text + 1
  pub magic : take 4 octets ≡ 84 ∷ 90 ∷ 105 ∷ 102 ∷ []
  pub version : slice_index octets 4 ≡ 48 + content.version
  pub no_leap_seconds : (counts_at octets 0).leap_seconds ≡ 0
  pub second : second_header octets ≡ 51
  pub same_start : take 5 (drop 51 octets) ≡ take 5 octets
  pub counts : counts_at octets 51 ≡ counts_of content
  pub block : drop 95 octets ≡ flat_map time_octets content.changes ++ after_times content

counts_are : (content : Content) → length content.changes ≤ MAX_TRANSITIONS → length content.types ≤ MAX_TYPES → length content.names ≤ MAX_CHARACTERS → counts_at (written content) 51 ≡ counts_of content
counts_are content few_changes few short =
    ap₂ (λ (n t : ℕ). record { ut_indicators = 0; standard_indicators = 0; leap_seconds = 0; transitions = n; types = t; characters = big_number 4 (big_bytes 4 (length content.names)) })
    (number_again (length content.changes) [] (omega arith)) (number_again (length content.types) [] (omega arith))
    ∙ ap (λ (c : ℕ). record { ut_indicators = 0; standard_indicators = 0; leap_seconds = 0; transitions = length content.changes; types = length content.types; characters = c })
    (number_again (length content.names) [] (omega arith))

four_parts : (times numbers types names rest : List ℕ) → (((times ++ numbers) ++ types) ++ names) ++ rest ≡ times ++ (numbers ++ (types ++ (names ++ rest)))
four_parts times numbers types names rest = simp append_assoc

pub is_laid : (content : Content) → length content.changes ≤ MAX_TRANSITIONS → length content.types ≤ MAX_TYPES → length content.names ≤ MAX_CHARACTERS → IsLaid (written content) content
is_laid content few_changes few short = record {
  size = length_written content;
  magic = refl;
  version = refl;
  no_leap_seconds = refl;
  second = refl;
  same_start = refl;
  counts = counts_are content few_changes few short;
  block = four_parts (flat_map time_octets content.changes) (numbers_of content.changes) (flat_map type_octets content.types) content.names (after_names content);
}

-- what stands after a part
further : (octets front rest : List ℕ) (place size next : ℕ) → drop place octets ≡ front ++ rest → length front ≡ size → place + size ≡ next → drop next octets ≡ rest
further octets front rest place size next from long is =
    ap (λ (n : ℕ). drop n octets) (sym is) ∙ sym (drop-drop size place octets) ∙ ap (drop size) from ∙ drop_at front rest size long

-- a part
piece_at : (octets front rest : List ℕ) (place at size : ℕ) → drop place octets ≡ front ++ rest → length front ≡ size → at ≡ place → take size (drop at octets) ≡ front
piece_at octets front rest place at size from long is =
    ap (λ (n : ℕ). take size (drop n octets)) is ∙ ap (take size) from ∙ take_at front rest size long

module _ (octets : List ℕ) (content : Content) (laid : IsLaid octets content) where
  abbrev n : ℕ
  n = length content.changes

  abbrev k : ℕ
  k = length content.types

  -- ---- what stands from each place on

  from_numbers : drop (95 + n * 8) octets ≡ after_times content
  from_numbers = further octets (flat_map time_octets content.changes) (after_times content) 95 (n * 8) (95 + n * 8) laid.block (times_length content.changes) refl

  from_types : drop (95 + n * 9) octets ≡ after_numbers content
  from_types =
      further octets (numbers_of content.changes) (after_numbers content) (95 + n * 8) n (95 + n * 9) from_numbers (length-map content.changes (λ (c : Change). c.number)) (omega arith)

  from_names : drop (95 + n * 9 + k * 6) octets ≡ after_types content
  from_names = further octets (flat_map type_octets content.types) (after_types content) (95 + n * 9) (k * 6) (95 + n * 9 + k * 6) from_types (types_length content.types) refl

  from_newline : drop (95 + n * 9 + k * 6 + length content.names) octets ≡ after_names content
  from_newline =
      further octets content.names (after_names content) (95 + n * 9 + k * 6) (length content.names) (95 + n * 9 + k * 6 + length content.names) from_names refl refl

  -- ---- the places

  pub second_counts_are : second_counts octets ≡ counts_of content
  second_counts_are = ap (counts_at octets) laid.second ∙ laid.counts

  number_of_changes : (second_counts octets).transitions ≡ n
  number_of_changes = ap (λ (c : Counts). c.transitions) second_counts_are

  pub number_of_types : (second_counts octets).types ≡ k
  number_of_types = ap (λ (c : Counts). c.types) second_counts_are

  number_of_characters : (second_counts octets).characters ≡ length content.names
  number_of_characters = ap (λ (c : Counts). c.characters) second_counts_are

  block_at : second_block octets ≡ 95
  block_at = ap (λ (m : ℕ). m + 44) laid.second

  numbers_at : numbers_place octets ≡ 95 + n * 8
  numbers_at = ap₂ (λ (place count : ℕ). place + count * 8) block_at number_of_changes

  types_at : types_place octets ≡ 95 + n * 9
  types_at = ap₂ (λ (place count : ℕ). place + count * 9) block_at number_of_changes

  names_at : names_place octets ≡ 95 + n * 9 + k * 6
  names_at = ap₂ (λ (place count : ℕ). place + count * 6) types_at number_of_types

  pub footer_at : footer_place octets ≡ 95 + n * 9 + k * 6 + length content.names
  footer_at =
      let whole : 95 + block_length (counts_of content) 8 ≡ 95 + n * 9 + k * 6 + length content.names = omega arith in
      ap₂ (λ (place : ℕ) (c : Counts). place + block_length c 8) block_at second_counts_are ∙ whole

  -- ---- what stands there

  pub times_are : All (λ (c : Change). FitsSigned w64 c.instant) content.changes → times_in octets ≡ map (λ c. c.instant) content.changes
  times_are fit =
      ap₂ (λ (count place : ℕ). map time_in (pieces 8 count (drop place octets))) number_of_changes block_at
      ∙ ap (λ (rest : List ℕ). map time_in (pieces 8 n rest)) laid.block
      ∙ times_again content.changes (after_times content) fit

  pub numbers_are : numbers_in octets ≡ numbers_of content.changes
  numbers_are =
      ap (λ (count : ℕ). take count (drop (numbers_place octets) octets)) number_of_changes
      ∙ piece_at octets (numbers_of content.changes) (after_numbers content) (95 + n * 8) (numbers_place octets) n from_numbers
      (length-map content.changes (λ (c : Change). c.number)) numbers_at

  pub type_records_are : type_records octets ≡ map type_octets content.types
  type_records_are =
      ap₂ (λ (count place : ℕ). pieces 6 count (drop place octets)) number_of_types types_at
      ∙ ap (pieces 6 k) from_types
      ∙ types_again content.types (after_types content)

  pub names_are : names_in octets ≡ content.names
  names_are =
      ap (λ (count : ℕ). take count (drop (names_place octets) octets)) number_of_characters
      ∙ piece_at octets content.names (after_names content) (95 + n * 9 + k * 6) (names_place octets) (length content.names) from_names refl names_at

  pub no_indicators : indicators_in octets ≡ []
  no_indicators = ap (λ (c : Counts). take (c.standard_indicators + c.ut_indicators) (drop (indicators_place octets) octets)) second_counts_are

  from_footer : drop (footer_place octets) octets ≡ after_names content
  from_footer = ap (λ (place : ℕ). drop place octets) footer_at ∙ from_newline

  pub newline_is_there : slice_index octets (footer_place octets) ≡ 10
  newline_is_there =
      let same : slice_index (drop (footer_place octets) octets) 0 ≡ slice_index octets (footer_place octets + 0) = get_or-drop (footer_place octets) octets 0 0 in
      let plain : footer_place octets + 0 ≡ footer_place octets = omega arith in
      ap (slice_index octets) (sym plain) ∙ sym same ∙ ap (λ (rest : List ℕ). slice_index rest 0) from_footer

  pub after_newline_is : after_newline octets ≡ content.text ++ 10 ∷ []
  after_newline_is = sym (drop-drop 1 (footer_place octets) octets) ∙ ap (drop 1) from_footer
