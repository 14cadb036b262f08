-- What is written is read.
use Rattle.std.proofs.Common.{◌≡◌, ◌⊎◌, inl, inr, ℕ, ◌+◌, ◌-◌, ◌*◌, ◌<◌, ◌≤◌, pos, Bool, true, false, ◌&&◌, ◌||◌, ◌==◌, nat_lt, nat_le, if◌then◌else◌, List, [], ◌∷◌, ◌++◌, map, length, take, drop, slice_index, get_or, Option, Some, None, All, unsigned_abs, refl, ap, ap₂, sym, ◌∙◌, arith, take_at, length-append, eq-eqb, ne_eqb, le-leb, lt-ltb, ltb-true}
use Rattle.std.proofs.lemmas.Bool.{cond-true, and_from, and_parts, or_right}
use Rattle.std.proofs.lemmas.List.{get_or_append_left, get_or_at}
use Rattle.std.proofs.lemmas.List.Elements.{All-head, All-tail, All-map, All-weaker}
use Rattle.std.proofs.lemmas.List.Folds.{list_any-append}
use Rattle.std.proofs.lemmas.List.Sums.{list_all-from_AllPass, position_or_len_is}
use Rattle.std.specs.List.{list_all, list_any, before_first, position_or_len}
use Rattle.std.specs.Str.{bytes_eq}
use Rattle.zic_base.specs.Check.{first_failed}
use Rattle.zic_base.specs.declared.constants.TheConstants.{FARTHEST_FILE_OFFSET, LONGEST_FILE}
use Rattle.zic_tzif.specs.declared.content.Change.{Change}
use Rattle.zic_tzif.specs.declared.content.LocalType.{LocalType}
use Rattle.zic_tzif.specs.Content.{Content, IsLocalType, IsWritable}
use Rattle.zic_tzif.specs.Designation.{designation, is_designated}
use Rattle.zic_tzif.specs.declared.reason.Reason.{Reason}
use Rattle.zic_tzif.specs.declared.reason.Reason.TheVariants as reason
use Rattle.zic_tzif.specs.Header.{Counts, counts_at, second_header, second_block, second_counts, footer_place}
use Rattle.zic_tzif.specs.Block.{type_in, times_in, do_rise, numbers_in, changes_at, type_records, names_in, indicators_in, after_newline, footer_text, is_type_record}
use Rattle.zic_tzif.specs.Reading.{are_counts, checks, content_in, EndsAfterFooter, IsFile}
use Rattle.zic_tzif.specs.Writing.{type_octets, written, WrittenIsFile}
use Rattle.zic_tzif.proofs.Transitions.{do_rise_again, numbers_again, changes_again}
use Rattle.zic_tzif.proofs.WriteText.{IsOneLine, one_line}
use Rattle.zic_tzif.proofs.WriteBlock.{offset_again, type_again}
use Rattle.zic_tzif.proofs.WriteParts.{IsLaid, is_laid, second_counts_are, number_of_types, footer_at, times_are, numbers_are, type_records_are, names_are, no_indicators, newline_is_there, after_newline_is}

-- ---- the footer's text

newline_found : (text : List ℕ) → list_any (λ b. b == 10) (text ++ 10 ∷ []) ≡ true
newline_found text = list_any-append (λ b. b == 10) text (10 ∷ []) ∙ or_right (list_any (λ b. b == 10) text) true refl

up_to_newline : (text : List ℕ) → IsOneLine text → before_first (λ b. b == 10) (text ++ 10 ∷ []) ≡ text
up_to_newline text line =
    let whole : List ℕ = text ++ 10 ∷ [] in
    let longer : length text ≤ length whole = omega (arith, length-append text (10 ∷ [])) in
    let place : position_or_len (λ b. b == 10) whole ≡ length text =
    position_or_len_is (λ b. b == 10) whole (length text) 0 longer
    (λ k below. ap (λ (b : ℕ). b == 10) (get_or_append_left text (10 ∷ []) 0 k below) ∙ ne_eqb (get_or text k 0) 10 (line k 0 below))
    (λ _. ap (λ (b : ℕ). b == 10) (get_or_at text 10 [] 0 (length text) refl)) in
    ap (λ (n : ℕ). take n whole) place ∙ take_at text (10 ∷ []) (length text) refl

-- ---- the types

each_designated : (names : List ℕ) (types : List LocalType) → All (IsLocalType names) types → list_all (λ r. is_designated names (type_in r).place) (map type_octets types) ≡ true
each_designated names types each =
    let passes : List ℕ → Bool = λ r. is_designated names (type_in r).place in
    list_all-from_AllPass passes (map type_octets types)
    (All-map (λ r. passes r ≡ true) type_octets types (All-weaker (IsLocalType names) (λ t. passes (type_octets t) ≡ true) (λ t good. good.designation) types each))

flag_fits : (b : Bool) → nat_le (if b then 1 else 0) 1 ≡ true
flag_fits true = refl
flag_fits false = refl

is_record : (t : LocalType) → unsigned_abs t.offset ≤ FARTHEST_FILE_OFFSET → is_type_record (type_octets t) ≡ true
is_record t small =
    let again = offset_again t.offset ((if t.daylight then 1 else 0) ∷ t.place ∷ []) small in
    and_from (nat_le (if t.daylight then 1 else 0) 1) (nat_le (unsigned_abs (type_in (type_octets t)).offset) FARTHEST_FILE_OFFSET) (flag_fits t.daylight) (ap (λ z. nat_le (unsigned_abs z) FARTHEST_FILE_OFFSET) again ∙ le-leb (unsigned_abs t.offset) FARTHEST_FILE_OFFSET small)

each_is_record : (names : List ℕ) (types : List LocalType) → All (IsLocalType names) types → list_all is_type_record (map type_octets types) ≡ true
each_is_record names types each =
    list_all-from_AllPass is_type_record (map type_octets types)
    (All-map (λ r. is_type_record r ≡ true) type_octets types (All-weaker (IsLocalType names) (λ t. is_type_record (type_octets t) ≡ true) (λ t good. is_record t good.offset) types each))

types_again : (names : List ℕ) (types : List LocalType) → All (IsLocalType names) types → map type_in (map type_octets types) ≡ types
types_again names [] each = refl
types_again names (t ∷ ts) each =
    let here : type_in (type_octets t) ≡ t = type_again t (All-head (IsLocalType names) t ts each).offset in
    let rest : map type_in (map type_octets ts) ≡ ts = types_again names ts (All-tail (IsLocalType names) t ts each) in
    ap₂ (λ (u : LocalType) (us : List LocalType). u ∷ us) here rest

-- there are designations where there is a type
some_names : (names : List ℕ) (types : List LocalType) → 1 ≤ length types → All (IsLocalType names) types → 0 < length names
some_names names types some each =
    let first : LocalType = record { offset = pos 0; daylight = false; place = 0 } in
    let t : LocalType = get_or types 0 first in
    let good : IsLocalType names t = each 0 first some in
    let inner = and_parts (nat_lt t.place (length names) && list_any (λ b. b == 0) (drop t.place names)) (list_all (λ b. nat_le 32 b && nat_le b 126) (designation names t.place)) good.designation in
    let inside = and_parts (nat_lt t.place (length names)) (list_any (λ b. b == 0) (drop t.place names)) inner.0 in
    let below : t.place < length names = ltb-true t.place (length names) inside.0 in
    omega arith

-- ---- the checks

bytes_same : (bytes : List ℕ) → bytes_eq bytes bytes ≡ true
bytes_same [] = refl
bytes_same (b ∷ bs) = and_from (b == b) (bytes_eq bs bs) (eq-eqb b b refl) (bytes_same bs)

-- a check that passes leaves it to those after it
on : {passes : Bool} (r : Reason) {rest : Option Reason} → passes ≡ true → rest ≡ None → (if passes then rest else Some r) ≡ None
on {passes} r {rest} pass others = cond-true passes rest (Some r) pass ∙ others

-- a content is known by its parts
from_parts : (content : Content) (version : ℕ) (changes : List Change) (types : List LocalType) (names text : List ℕ) → content.version ≡ version → content.changes ≡ changes → content.types ≡ types → content.names ≡ names → content.text ≡ text
    → content ≡ record { version = version; changes = changes; types = types; names = names; text = text }
from_parts content version changes types names text v c t n x =
    ap₂ (λ (a : ℕ) (b : List Change). record { version = a; changes = b; types = content.types; names = content.names; text = content.text }) v c
    ∙ ap₂ (λ (a : List LocalType) (b : List ℕ). record { version = version; changes = changes; types = a; names = b; text = content.text }) t n
    ∙ ap (λ (a : List ℕ). record { version = version; changes = changes; types = types; names = names; text = a }) x

module _ (octets : List ℕ) (content : Content) (laid : IsLaid octets content) (fits : IsWritable content) where
  small : nat_le (length octets) LONGEST_FILE ≡ true
  small = le-leb (length octets) LONGEST_FILE (omega (arith, laid.size, fits.transitions_fit, fits.types_fit, fits.names_fit, fits.text_fits))

  header_there : nat_le 44 (length octets) ≡ true
  header_there = le-leb 44 (length octets) (omega (arith, laid.size))

  magic : bytes_eq (take 4 octets) (84 ∷ 90 ∷ 105 ∷ 102 ∷ []) ≡ true
  magic = ap (λ (bytes : List ℕ). bytes_eq bytes (84 ∷ 90 ∷ 105 ∷ 102 ∷ [])) laid.magic

  two_or_three : (v : ℕ) → (v ≡ 2) ⊎ (v ≡ 3) → ((48 + v == 50) || (48 + v == 51)) ≡ true
  two_or_three v (inl e) = ap (λ (n : ℕ). (48 + n == 50) || (48 + n == 51)) e
  two_or_three v (inr e) = ap (λ (n : ℕ). (48 + n == 50) || (48 + n == 51)) e

  version : ((slice_index octets 4 == 50) || (slice_index octets 4 == 51)) ≡ true
  version = ap (λ (b : ℕ). (b == 50) || (b == 51)) laid.version ∙ two_or_three content.version fits.version

  first_leap_seconds : ((counts_at octets 0).leap_seconds == 0) ≡ true
  first_leap_seconds = ap (λ (n : ℕ). n == 0) laid.no_leap_seconds

  second_there : nat_le (second_block octets) (length octets) ≡ true
  second_there = ap (λ (n : ℕ). nat_le (n + 44) (length octets)) laid.second ∙ le-leb 95 (length octets) (omega (arith, laid.size))

  headers_agree : bytes_eq (take 5 (drop (second_header octets) octets)) (take 5 octets) ≡ true
  headers_agree =
      ap (λ (n : ℕ). bytes_eq (take 5 (drop n octets)) (take 5 octets)) laid.second
      ∙ ap (λ (bytes : List ℕ). bytes_eq bytes (take 5 octets)) laid.same_start ∙ bytes_same (take 5 octets)

  counts : are_counts (second_counts octets) ≡ true
  counts =
      let characters : nat_lt 0 (length content.names) ≡ true = lt-ltb 0 (length content.names) (some_names content.names content.types fits.some_type fits.types) in
      ap are_counts (second_counts_are octets content laid)
      ∙ ap₂ (λ (t c : Bool). t && c && true && true) (lt-ltb 0 (length content.types) fits.some_type) characters

  second_leap_seconds : ((second_counts octets).leap_seconds == 0) ≡ true
  second_leap_seconds = ap (λ (c : Counts). c.leap_seconds == 0) (second_counts_are octets content laid)

  block_there : nat_le (footer_place octets) (length octets) ≡ true
  block_there = ap (λ (n : ℕ). nat_le n (length octets)) (footer_at octets content laid) ∙ le-leb (95 + length content.changes * 9 + length content.types * 6 + length content.names) (length octets) (omega (arith, laid.size))

  times : do_rise (times_in octets) ≡ true
  times = ap do_rise (times_are octets content laid fits.instants) ∙ do_rise_again content.changes fits.rising

  numbers : list_all (λ number. nat_lt number (second_counts octets).types) (numbers_in octets) ≡ true
  numbers =
      ap₂ (λ (n : ℕ) (numbers : List ℕ). list_all (λ number. nat_lt number n) numbers) (number_of_types octets content laid) (numbers_are octets content laid)
      ∙ numbers_again (length content.types) content.changes fits.have_types

  designations : list_all (λ r. is_designated (names_in octets) (type_in r).place) (type_records octets) ≡ true
  designations =
      ap₂ (λ (names : List ℕ) (records : List (List ℕ)). list_all (λ r. is_designated names (type_in r).place) records) (names_are octets content laid) (type_records_are octets content laid)
      ∙ each_designated content.names content.types fits.types

  records : list_all is_type_record (type_records octets) ≡ true
  records = ap (list_all is_type_record) (type_records_are octets content laid) ∙ each_is_record content.names content.types fits.types

  indicators : list_all (λ b. nat_le b 1) (indicators_in octets) ≡ true
  indicators = ap (list_all (λ b. nat_le b 1)) (no_indicators octets content laid)

  footer_there : nat_lt (footer_place octets) (length octets) ≡ true
  footer_there = ap (λ (n : ℕ). nat_lt n (length octets)) (footer_at octets content laid) ∙ lt-ltb (95 + length content.changes * 9 + length content.types * 6 + length content.names) (length octets) (omega (arith, laid.size))

  newline : (slice_index octets (footer_place octets) == 10) ≡ true
  newline = ap (λ (b : ℕ). b == 10) (newline_is_there octets content laid)

  ended : list_any (λ b. b == 10) (after_newline octets) ≡ true
  ended = ap (list_any (λ b. b == 10)) (after_newline_is octets content laid) ∙ newline_found content.text

  all_pass : first_failed (checks octets) ≡ None
  all_pass =
      on reason.TooLarge small (on reason.Short header_there (on reason.Magic magic (on reason.Version version (on reason.LeapSeconds first_leap_seconds
      (on reason.Short second_there (on reason.HeadersDiffer headers_agree (on reason.Counts counts (on reason.LeapSeconds second_leap_seconds
      (on reason.Short block_there (on reason.TimesNotRising times (on reason.TypeIndex numbers (on reason.Designation designations (on reason.TypeRecord records (on reason.Indicators indicators
      (on reason.Short footer_there (on reason.Footer newline (on reason.Short ended refl)))))))))))))))))

  text_is : footer_text octets ≡ content.text
  text_is = ap (before_first (λ b. b == 10)) (after_newline_is octets content laid) ∙ up_to_newline content.text (one_line content.version content.text fits.footer.0 fits.footer.1.spells)

  whole : EndsAfterFooter octets
  whole = omega (arith, laid.size, footer_at octets content laid, ap length text_is)

  says : content ≡ content_in octets
  says =
      let version : content.version ≡ slice_index octets 4 - 48 = omega (arith, laid.version) in
      let changes : changes_at (times_in octets) (numbers_in octets) ≡ content.changes =
      ap₂ changes_at (times_are octets content laid fits.instants) (numbers_are octets content laid) ∙ changes_again content.changes in
      let types : map type_in (type_records octets) ≡ content.types = ap (map type_in) (type_records_are octets content laid) ∙ types_again content.names content.types fits.types in
      from_parts content (slice_index octets 4 - 48) (changes_at (times_in octets) (numbers_in octets)) (map type_in (type_records octets)) (names_in octets) (footer_text octets) version (sym changes) (sym types) (sym (names_are octets content laid)) (sym text_is)

  pub is_file : IsFile octets content
  is_file = record { passes = all_pass; footer = inr fits.footer; whole = whole; says = says }

pub written_is_file : WrittenIsFile
written_is_file content fits = is_file (written content) content (is_laid content fits.transitions_fit fits.types_fit fits.names_fit) fits
