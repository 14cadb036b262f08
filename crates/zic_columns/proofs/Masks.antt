-- Masks of bytes.
use Rattle.std.proofs.Common.{◌≡◌, ℕ, ◌+◌, ◌-◌, ◌*◌, ◌%◌, ◌^◌, ◌<◌, ◌≤◌, ◌==◌, ◌||◌, ◌&&◌, not, Bool, true, false, cond, eqb, leb, List, [], ◌∷◌, map, length, get_or, replicate, Some, inl, inr, ◌⊎◌, refl, sym, ap, ap₂, subst, ◌∙◌, arith, w64, bit_and, bit_or}
use Rattle.std.specs.Int.{bit_at, trailing_zeros}
use mir.Val.{bool_byte}
use Rattle.std.specs.Int.Bits.{and_le_r}
use Rattle.std.specs.Int.RustNames.{count_ones}
use Rattle.std.specs.Simd.Lanes.{chunk, mask_l, top, zip2}
use Rattle.std.proofs.Math.Nat.{mod-eq_of_lt}
use Rattle.std.proofs.lemmas.Bool.{both_ways, cases_lt, eqb-false}
use Rattle.std.proofs.lemmas.List.{get_or-map, get_or_default, get_or_past, length-map}
use Rattle.std.proofs.lemmas.Nat.Bits.{bit_at-trailing_zeros}
use Rattle.std.proofs.lemmas.Nat.{and_block, and_comm, and_mod, and-not}
use Rattle.std.proofs.lemmas.Simd.{bit_mask_l, get_or-chunk, length-chunk, map-map, mask_l-lt, mask_l-mod, none_from_empty_mask, ones-mask_l_cons, zip2_of_maps, zip2_splat}
use Rattle.memchr.specs.Find.{IsFirst, Passes}
use Rattle.zic_columns.specs.Column.{HasNoQuote, ends_line}
use Rattle.zic_columns.specs.code.Block.{ends_field, mask_at, records_ended}
use Rattle.zic_columns.specs.code.Pairs.{is_mark}

-- ---- from lanes to a mask

-- a lane of the comparison with a byte
abbrev hit : ℕ → ℕ → ℕ
hit a b = cond (eqb a b) 255 0

-- a lane of the comparison with a greatest byte
abbrev at_most : ℕ → ℕ → ℕ
at_most a b = cond (leb a b) 255 0

map_same : (f g : ℕ → Bool) → ((x : ℕ) → f x ≡ g x) → (xs : List ℕ) → map f xs ≡ map g xs
map_same f g same [] = refl
map_same f g same (x ∷ xs) = ap₂ (λ a b. a ∷ b) (same x) (map_same f g same xs)

-- lanes that were computed from a block, as a mask
mask_of : (lane : ℕ → ℕ) (test : ℕ → Bool) → ((x : ℕ) → top 7 (lane x) ≡ test x) → (block lanes : List ℕ) → length block ≤ 64 → lanes ≡ map lane block
    → mask_l (map (top 7) lanes) % 2 ^ 64 ≡ mask_l (map test block)
mask_of lane test same block lanes long are =
    ap (λ l. mask_l (map (top 7) l) % 2 ^ 64) are ∙ ap (λ l. mask_l l % 2 ^ 64) (map-map (top 7) lane block ∙ map_same (λ x. top 7 (lane x)) test same block)
    ∙ mask_l-mod (map test block) 64 (omega (arith, long, length-map block test))

top_either : (a b : Bool) → top 7 (bit_or (cond a 255 0) (cond b 255 0)) ≡ (a || b)
top_either true true = refl
top_either true false = refl
top_either false true = refl
top_either false false = refl

top_any : (a b c : Bool) → top 7 (bit_or (bit_or (cond a 255 0) (cond b 255 0)) (cond c 255 0)) ≡ (a || (b || c))
top_any true true true = refl
top_any true true false = refl
top_any true false true = refl
top_any true false false = refl
top_any false true true = refl
top_any false true false = refl
top_any false false true = refl
top_any false false false = refl

module _ (size : ℕ) (small : size ≤ 64) (bytes : List ℕ) (at : ℕ) (within : at + size ≤ length bytes) where
  block_long : length (chunk at size bytes) ≡ size
  block_long = length-chunk at size bytes within

  few : length (chunk at size bytes) ≤ 64
  few = omega (arith, block_long, small)

  equal_lanes : (byte : ℕ) → zip2 hit (chunk at size bytes) (replicate size byte) ≡ map (λ x. hit x byte) (chunk at size bytes)
  equal_lanes byte = zip2_splat hit (chunk at size bytes) size byte block_long

  either_lanes : zip2 bit_or (zip2 hit (chunk at size bytes) (replicate size 13)) (zip2 hit (chunk at size bytes) (replicate size 10))
      ≡ map (λ x. bit_or (hit x 13) (hit x 10)) (chunk at size bytes)
  either_lanes = zip2_of_maps bit_or (λ x. hit x 13) (λ x. hit x 10) (chunk at size bytes) (equal_lanes 13) (equal_lanes 10)

  pub quotes_mask : mask_l (map (top 7) (zip2 hit (chunk at size bytes) (replicate size 34))) % 2 ^ 64 ≡ mask_l (map (λ byte. byte == 34) (chunk at size bytes))
  quotes_mask = mask_of (λ x. hit x 34) (λ x. x == 34) (λ x. top_one (x == 34)) (chunk at size bytes) _ few (equal_lanes 34)
    where
      top_one : (a : Bool) → top 7 (cond a 255 0) ≡ a
      top_one true = refl
      top_one false = refl

  pub line_ends_mask : mask_l (map (top 7) (zip2 bit_or (zip2 hit (chunk at size bytes) (replicate size 13)) (zip2 hit (chunk at size bytes) (replicate size 10)))) % 2 ^ 64
      ≡ mask_l (map ends_line (chunk at size bytes))
  line_ends_mask = mask_of (λ x. bit_or (hit x 13) (hit x 10)) ends_line (λ x. top_either (x == 13) (x == 10)) (chunk at size bytes) _ few either_lanes

  low_lanes : (byte : ℕ) → zip2 at_most (chunk at size bytes) (replicate size byte) ≡ map (λ x. at_most x byte) (chunk at size bytes)
  low_lanes byte = zip2_splat at_most (chunk at size bytes) size byte block_long

  module _ (d : ℕ) where
    mark_lanes : zip2 bit_or (zip2 hit (chunk at size bytes) (replicate size d)) (zip2 at_most (chunk at size bytes) (replicate size 34))
        ≡ map (λ x. bit_or (hit x d) (at_most x 34)) (chunk at size bytes)
    mark_lanes = zip2_of_maps bit_or (λ x. hit x d) (λ x. at_most x 34) (chunk at size bytes) (equal_lanes d) (low_lanes 34)

    pub marks_mask : mask_l (map (top 7) (zip2 bit_or (zip2 hit (chunk at size bytes) (replicate size d)) (zip2 at_most (chunk at size bytes) (replicate size 34)))) % 2 ^ 64
        ≡ mask_l (map (is_mark d) (chunk at size bytes))
    marks_mask = mask_of (λ x. bit_or (hit x d) (at_most x 34)) (is_mark d) (λ x. top_either (x == d) (leb x 34)) (chunk at size bytes) _ few mark_lanes

    delimiter_lanes : zip2 bit_or (zip2 hit (chunk at size bytes) (replicate size d)) (zip2 hit (chunk at size bytes) (replicate size 13))
        ≡ map (λ x. bit_or (hit x d) (hit x 13)) (chunk at size bytes)
    delimiter_lanes = zip2_of_maps bit_or (λ x. hit x d) (λ x. hit x 13) (chunk at size bytes) (equal_lanes d) (equal_lanes 13)

    any_lanes : zip2 bit_or (zip2 bit_or (zip2 hit (chunk at size bytes) (replicate size d)) (zip2 hit (chunk at size bytes) (replicate size 13))) (zip2 hit (chunk at size bytes) (replicate size 10))
        ≡ map (λ x. bit_or (bit_or (hit x d) (hit x 13)) (hit x 10)) (chunk at size bytes)
    any_lanes = zip2_of_maps bit_or (λ x. bit_or (hit x d) (hit x 13)) (λ x. hit x 10) (chunk at size bytes) delimiter_lanes (equal_lanes 10)

    pub field_ends_mask : mask_l (map (top 7) (zip2 bit_or (zip2 bit_or (zip2 hit (chunk at size bytes) (replicate size d)) (zip2 hit (chunk at size bytes) (replicate size 13))) (zip2 hit (chunk at size bytes) (replicate size 10)))) % 2 ^ 64
        ≡ mask_l (map (ends_field d) (chunk at size bytes))
    field_ends_mask = mask_of (λ x. bit_or (bit_or (hit x d) (hit x 13)) (hit x 10)) (ends_field d) (λ x. top_any (x == d) (x == 13) (x == 10)) (chunk at size bytes) _ few any_lanes

module _ (bytes : List ℕ) (at : ℕ) (within : at + 32 ≤ length bytes) where
  pub mask_small : (test : ℕ → Bool) → mask_at test bytes at < 2 ^ 32
  mask_small test = let size = length-map (chunk at 32 bytes) test ∙ length-chunk at 32 bytes within in rw size at (mask_l-lt (map test (chunk at 32 bytes)))

-- ---- from a mask to bytes

one_tells : (b : Bool) → cond {A = ℕ} b 1 0 ≡ 1 → b ≡ true
one_tells true one = refl
one_tells false one = absurd (omega (arith, one))

zero_tells : (b : Bool) → cond {A = ℕ} b 1 0 ≡ 0 → b ≡ false
zero_tells true none = absurd (omega (arith, none))
zero_tells false none = refl

module _ (size : ℕ) (test : ℕ → Bool) (bytes : List ℕ) (at : ℕ) (within : at + size ≤ length bytes) (k : ℕ) where
  bit_is : k < size → get_or (map test (chunk at size bytes)) k false ≡ test (get_or bytes (at + k) 0)
  bit_is below =
      get_or-map test (chunk at size bytes) k 0 false (omega (arith, length-chunk at size bytes within, below))
      ∙ ap test (get_or-chunk at size bytes k 0 below)

  pub bit_within : bit_at (mask_l (map test (chunk at size bytes))) k ≡ 1 → k < size
  bit_within one = in_range (cases_lt k size)
    where
      set : get_or (map test (chunk at size bytes)) k false ≡ true
      set = one_tells _ (sym (bit_mask_l (map test (chunk at size bytes)) k) ∙ one)

      in_range : (k < size) ⊎ (size ≤ k) → k < size
      in_range (inl below) = below
      in_range (inr past) = absurd (let none = get_or_past (map test (chunk at size bytes)) k false (omega (arith, past, length-map (chunk at size bytes) test, length-chunk at size bytes within)) in cc (none, set))

  pub bit_set : bit_at (mask_l (map test (chunk at size bytes))) k ≡ 1 → test (get_or bytes (at + k) 0) ≡ true
  bit_set one = sym (bit_is (bit_within one)) ∙ one_tells _ (sym (bit_mask_l (map test (chunk at size bytes)) k) ∙ one)

  pub bit_clear : k < size → bit_at (mask_l (map test (chunk at size bytes))) k ≡ 0 → test (get_or bytes (at + k) 0) ≡ false
  bit_clear below none = sym (bit_is below) ∙ zero_tells _ (sym (bit_mask_l (map test (chunk at size bytes)) k) ∙ none)

  pub bit_found : k < size → test (get_or bytes (at + k) 0) ≡ true → bit_at (mask_l (map test (chunk at size bytes))) k ≡ 1
  bit_found below passes = bit_mask_l (map test (chunk at size bytes)) k ∙ ap (λ (b : Bool). cond {A = ℕ} b 1 0) (bit_is below ∙ passes)

-- the lowest bit of a mask shows the first byte that passes the test
pub first_in_mask : (test : ℕ → Bool) (bytes : List ℕ) (at : ℕ) → at + 32 ≤ length bytes → 0 < mask_at test bytes at
    → IsFirst (Passes test bytes) at (length bytes) (Some (at + trailing_zeros w64 (mask_at test bytes at)))
first_in_mask test bytes at within some =
    let mask = mask_at test bytes at in
    let lowest = bit_at-trailing_zeros w64 mask some (omega (arith, mask_small bytes at within test)) in
    let k = trailing_zeros w64 mask in
    let below : k < 32 = bit_within 32 test bytes at within k lowest.1 in (
      record {
        low = omega arith;
        high = omega (arith, below, within);
        before = λ j from lt passes.
            let place : at + (j - at) ≡ j = omega (arith, from) in
            let clear = bit_clear 32 test bytes at within (j - at) (omega (arith, lt, below)) (lowest.2 (j - at) (omega (arith, lt, from))) in
            absurd (both_ways (test (get_or bytes j 0)) (subst (λ (i : ℕ). test (get_or bytes i 0) ≡ false) place clear) passes);
      },
      bit_set 32 test bytes at within k lowest.1,
    )

-- an empty mask shows that no byte is a double quote
pub none_in_mask : (bytes : List ℕ) (at : ℕ) → at + 64 ≤ length bytes → mask_l (map (λ byte. byte == 34) (chunk at 64 bytes)) ≡ 0 → HasNoQuote (chunk at 64 bytes)
none_in_mask bytes at within none = λ k d lt is.
    let below : k < 64 = omega (arith, lt, length-chunk at 64 bytes within) in
    let clear = none_from_empty_mask (λ byte. byte == 34) bytes at 64 0 within none (at + k) (omega arith) (omega (arith, below)) in
    eqb-false (get_or bytes (at + k) 0) 34 clear (sym (get_or-chunk at 64 bytes k 0 below) ∙ sym (get_or_default (chunk at 64 bytes) k d 0 lt) ∙ is)

-- ---- the records that end in a block

-- whether a record ends at each of the bytes
abbrev record_ends : Bool → List ℕ → List Bool
record_ends before [] = []
record_ends before (byte ∷ bytes) = (ends_line byte && not before) ∷ record_ends (ends_line byte) bytes

ends_counted : (before : Bool) (bytes : List ℕ) → count_ones (mask_l (record_ends before bytes)) ≡ records_ended before bytes
unfolding records_ended count_ones
ends_counted before [] = refl
ends_counted before (byte ∷ bytes) =
    ones-mask_l_cons (ends_line byte && not before) (record_ends (ends_line byte) bytes)
    ∙ ap (λ (n : ℕ). cond (ends_line byte && not before) 1 0 + n) (ends_counted (ends_line byte) bytes)

one_or_none : (b : Bool) → cond {A = ℕ} b 1 0 < 2 ^ 1
one_or_none true = omega arith
one_or_none false = omega arith

last_bit : (before ends : Bool) → cond {A = ℕ} ends 1 0 ≡ bit_and (cond before 1 0) (cond ends 1 0) + cond (ends && not before) 1 0
last_bit true true = refl
last_bit true false = refl
last_bit false true = refl
last_bit false false = refl

no_bits : (before : Bool) → bit_and (2 * 0 + cond before 1 0) 0 ≡ 0
no_bits true = refl
no_bits false = refl

-- a line end follows another one, or ends a record
ends_apart : (before : Bool) (bytes : List ℕ)
    → bit_and (2 * mask_l (map ends_line bytes) + cond before 1 0) (mask_l (map ends_line bytes)) + mask_l (record_ends before bytes) ≡ mask_l (map ends_line bytes)
ends_apart before [] = omega (arith, no_bits before)
ends_apart before (byte ∷ bytes) =
    let later = mask_l (map ends_line bytes) in
    let here = cond {A = ℕ} (ends_line byte) 1 0 in
    let order : here + 2 * later ≡ 2 * later + here = omega arith in
    let both : bit_and (2 * (here + 2 * later) + cond before 1 0) (here + 2 * later) ≡ bit_and (2 * later + here) later * 2 ^ 1 + bit_and (cond before 1 0) here =
    ap₂ bit_and (omega arith) (omega arith) ∙ and_block 1 (2 * later + here) later (cond before 1 0) here (one_or_none before) (one_or_none (ends_line byte)) in
    omega (arith, both, ends_apart (ends_line byte) bytes, last_bit before (ends_line byte))

pub ends_masked : (before : Bool) (bytes : List ℕ) (at : ℕ) → at + 64 ≤ length bytes → (follow : ℕ)
    → follow ≡ (2 * mask_l (map ends_line (chunk at 64 bytes)) + cond before 1 0) % 2 ^ 64
    → count_ones (bit_and (mask_l (map ends_line (chunk at 64 bytes))) (2 ^ 64 - 1 - follow)) ≡ records_ended before (chunk at 64 bytes)
ends_masked before bytes at within follow is =
    let block = chunk at 64 bytes in
    let mask = mask_l (map ends_line block) in
    let shifted = 2 * mask + cond before 1 0 in
    let size : length (map ends_line block) ≡ 64 = length-map block ends_line ∙ length-chunk at 64 bytes within in
    let small : mask < 2 ^ 64 = subst (λ (n : ℕ). mask < 2 ^ n) size (mask_l-lt (map ends_line block)) in
    let fits : follow < 2 ^ 64 = omega (arith, is) in
    let apart = ends_apart before block in
    let low : bit_and shifted mask % 2 ^ 64 ≡ bit_and shifted mask = mod-eq_of_lt (omega (arith, and_le_r shifted mask, small)) in
    let unchanged : mask % 2 ^ 64 ≡ mask = mod-eq_of_lt small in
    let both : bit_and follow mask ≡ bit_and shifted mask =
    ap₂ bit_and is (sym unchanged) ∙ sym (and_mod shifted mask 64) ∙ low in
    let rest : bit_and mask (2 ^ 64 - 1 - follow) ≡ mask_l (record_ends before block) =
    and_comm mask (2 ^ 64 - 1 - follow) ∙ omega (arith, and-not 64 follow mask fits small, both, apart) in
    ap count_ones rest ∙ ends_counted before block

-- a Boolean value as a number
pub bool_is : (b : Bool) → bool_byte b ≡ cond b 1 0
bool_is true = refl
bool_is false = refl
