-- The parts of a written data block, read again.
use Rattle.std.proofs.Common.{◌≡◌, ℕ, suc, ◌+◌, ◌-◌, ◌*◌, ◌^◌, ◌<◌, ◌≤◌, ℤ, pos, negsuc, ◌-ℤ◌, Bool, true, false, ◌==◌, if◌then◌else◌, ltb, lt-ltb, le-ltb, List, [], ◌∷◌, ◌++◌, map, length, refl, ap, ap₂, ◌∙◌, arith, unsigned_abs, All, FitsSigned}
use Rattle.std.proofs.lemmas.List.Elements.{All-head, All-tail}
use Rattle.std.proofs.lemmas.Bool.{cond-true, cond-false}
use Rattle.std.proofs.lemmas.Int.{ints}
use Rattle.std.proofs.Math.Nat.{mod-eq_of_lt}
use Rattle.std.specs.Int.{w32, w64, cast_unsigned}
use Rattle.std.specs.List.{flat_map}
use Rattle.byteorder.specs.Endian.{big_bytes, big_number, twos_complement}
use Rattle.byteorder.specs.Numbers.{big_from-bytes}
use Rattle.zic_base.specs.declared.constants.TheConstants.{FARTHEST_FILE_OFFSET}
use Rattle.zic_tzif.specs.declared.content.Change.{Change}
use Rattle.zic_tzif.specs.declared.content.LocalType.{LocalType}
use Rattle.zic_tzif.specs.Block.{type_in, time_in, pieces}
use Rattle.zic_tzif.specs.Writing.{time_octets, type_octets}

-- a number's four bytes are the number
pub number_again : (n : ℕ) (rest : List ℕ) → n < 2 ^ 32 → big_number 4 (big_bytes 4 n ++ rest) ≡ n
number_again n rest fits = big_from-bytes 4 n rest ∙ mod-eq_of_lt fits

-- a number below half of all is itself, and one above stands for a negative one
low : (n : ℕ) → n < 2 ^ 31 → twos_complement 4 n ≡ pos n
low n fits = cond-true (ltb n (2 ^ 31)) (pos n) (pos n -ℤ pos (2 ^ 32)) (lt-ltb n (2 ^ 31) fits)

high : (n k : ℕ) → 2 ^ 31 ≤ n → n + suc k ≡ 2 ^ 32 → twos_complement 4 n ≡ negsuc k
high n k fits sum =
    let less : pos n -ℤ pos (2 ^ 32) ≡ negsuc k = omega (arith, ints) in
    cond-false (ltb n (2 ^ 31)) (pos n) (pos n -ℤ pos (2 ^ 32)) (le-ltb n (2 ^ 31) fits) ∙ less

-- an offset's four bytes are the offset
pub offset_again : (z : ℤ) (rest : List ℕ) → unsigned_abs z ≤ FARTHEST_FILE_OFFSET → twos_complement 4 (big_number 4 (big_bytes 4 (cast_unsigned w32 z) ++ rest)) ≡ z
offset_again (pos n) rest fits = ap (twos_complement 4) (number_again n rest (omega arith)) ∙ low n (omega arith)
offset_again (negsuc n) rest fits = ap (twos_complement 4) (number_again (2 ^ 32 - suc n) rest (omega arith)) ∙ high (2 ^ 32 - suc n) n (omega arith) (omega arith)

flag_again : (b : Bool) → ((if b then 1 else 0) == 1) ≡ b
flag_again true = refl
flag_again false = refl

-- a type's six bytes are the type
pub type_again : (t : LocalType) → unsigned_abs t.offset ≤ FARTHEST_FILE_OFFSET → type_in (type_octets t) ≡ t
type_again t fits =
    ap₂ (λ (o : ℤ) (d : Bool). record { offset = o; daylight = d; place = t.place }) (offset_again t.offset ((if t.daylight then 1 else 0) ∷ t.place ∷ []) fits) (flag_again t.daylight)

-- so many pieces of six bytes are the types' bytes
pub types_again : (types : List LocalType) (rest : List ℕ) → pieces 6 (length types) (flat_map type_octets types ++ rest) ≡ map type_octets types
types_again [] rest = refl
types_again (t ∷ ts) rest = ap (λ (others : List (List ℕ)). type_octets t ∷ others) (types_again ts rest)

pub types_length : (types : List LocalType) → length (flat_map type_octets types) ≡ length types * 6
types_length [] = refl
types_length (t ∷ ts) = omega (arith, types_length ts)

pub times_length : (changes : List Change) → length (flat_map time_octets changes) ≡ length changes * 8
times_length [] = refl
times_length (c ∷ cs) = omega (arith, times_length cs)

-- ---- transitions

-- a number's eight bytes are the number
wide_again : (n : ℕ) → n < 2 ^ 64 → big_number 8 (big_bytes 8 n) ≡ n
wide_again n fits = big_from-bytes 8 n [] ∙ mod-eq_of_lt fits

low_wide : (n : ℕ) → n < 2 ^ 63 → twos_complement 8 n ≡ pos n
low_wide n fits = cond-true (ltb n (2 ^ 63)) (pos n) (pos n -ℤ pos (2 ^ 64)) (lt-ltb n (2 ^ 63) fits)

high_wide : (n k : ℕ) → 2 ^ 63 ≤ n → n + suc k ≡ 2 ^ 64 → twos_complement 8 n ≡ negsuc k
high_wide n k fits sum =
    let less : pos n -ℤ pos (2 ^ 64) ≡ negsuc k = omega (arith, ints) in
    cond-false (ltb n (2 ^ 63)) (pos n) (pos n -ℤ pos (2 ^ 64)) (le-ltb n (2 ^ 63) fits) ∙ less

instant_again : (z : ℤ) → FitsSigned w64 z → twos_complement 8 (big_number 8 (big_bytes 8 (cast_unsigned w64 z))) ≡ z
instant_again (pos n) fits = ap (twos_complement 8) (wide_again n (omega arith)) ∙ low_wide n (omega arith)
instant_again (negsuc n) fits = ap (twos_complement 8) (wide_again (2 ^ 64 - suc n) (omega arith)) ∙ high_wide (2 ^ 64 - suc n) n (omega arith) (omega arith)

-- a transition's eight bytes are its instant
time_again : (c : Change) → FitsSigned w64 c.instant → time_in (time_octets c) ≡ c.instant
time_again c fits = instant_again c.instant fits

-- so many pieces of eight bytes are the transitions' times
pub times_again : (changes : List Change) (rest : List ℕ) → All (λ (c : Change). FitsSigned w64 c.instant) changes
    → map time_in (pieces 8 (length changes) (flat_map time_octets changes ++ rest)) ≡ map (λ c. c.instant) changes
times_again [] rest fits = refl
times_again (c ∷ cs) rest fits =
    ap₂ (λ (z : ℤ) (zs : List ℤ). z ∷ zs) (time_again c (All-head (λ (c : Change). FitsSigned w64 c.instant) c cs fits))
    (times_again cs rest (All-tail (λ (c : Change). FitsSigned w64 c.instant) c cs fits))
