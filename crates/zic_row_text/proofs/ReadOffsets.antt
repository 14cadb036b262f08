-- UT offsets, read again.
use Rattle.std.proofs.Common.{◌≡◌, ◌≤◌, ◌<◌, ℕ, ◌+◌, ◌*◌, ◌/◌, ◌%◌, Bool, true, false, ℤ, pos, negsuc, List, ◌∷◌, take, ap, arith, refl, Some, []}
use Rattle.std.proofs.lemmas.Bool.{le-leb}
use Rattle.std.proofs.lemmas.Bool.Decides.{nat_tests}
use Rattle.std.proofs.lemmas.Int.{ints}
use Rattle.std.specs.Prelude.{◌==◌, if◌then◌else◌, neg_ℤ, int_lt, option_map, unsigned_abs}
use Rattle.zic_base.specs.Digits.{clock_text, offset_text}
use Rattle.zic_row_text.specs.DateTime.{offset_from, offset_in, offset_size}
use Rattle.zic_row_text.specs.Row.{iso_offset_text}
use Rattle.zic_row_text.proofs.ReadDigits.{two_read}

-- a UT offset of these hours, minutes and seconds
pub clock_size : (h m s n : ℕ) → h ≤ 23 → m ≤ 59 → s ≤ 59 → h * 3600 + m * 60 + s ≡ n → offset_from (Some h) (Some m) (Some s) ≡ Some (pos n)
clock_size h m s n hours minutes seconds same = rw (le-leb h 23 hours, le-leb m 59 minutes, le-leb s 59 seconds) (ap (λ (k : ℕ). Some (pos k)) same)

-- what follows the sign, of fewer than 24 hours
short_read : (n : ℕ) → n < 86_400 → n % 60 ≡ 0 → offset_size (take 5 (clock_text n)) ≡ Some (pos n)
short_read n h even =
    let size = clock_size (n / 3600) (n / 60 % 60) 0 n (omega arith) (omega arith) (omega arith) (omega (arith, even)) in
    rw (two_read (n / 3600) (omega arith), two_read (n / 60 % 60) (omega arith)) size

long_read : (n : ℕ) → n < 86_400 → offset_size (clock_text n) ≡ Some (pos n)
long_read n h =
    let size = clock_size (n / 3600) (n / 60 % 60) (n % 60) n (omega arith) (omega arith) (omega arith) (omega arith) in
    rw (two_read (n / 3600) (omega arith), two_read (n / 60 % 60) (omega arith), two_read (n % 60) (omega arith)) size

not_below : (n : ℕ) → int_lt (pos n) (pos 0) ≡ false
not_below n = grind (arith, ints)

-- a sign and what follows it
signed_read : (offset : ℤ) (size : List ℕ) → offset_size size ≡ Some (pos (unsigned_abs offset)) → offset_in ((if int_lt offset (pos 0) then 45 else 43) ∷ size) ≡ Some offset
unfolding offset_in
signed_read (pos n) size read = rw (not_below n) read
signed_read (negsuc n) size read = ap (option_map neg_ℤ) read

-- an offset of less than 24 hours is read again
pub offset_read : (offset : ℤ) → unsigned_abs offset < 86_400 → offset_in (iso_offset_text offset) ≡ Some offset
offset_read offset h = by (unsigned_abs offset % 60 == 0) refl where
  by : (even : Bool) → (unsigned_abs offset % 60 == 0) ≡ even → offset_in (if even then take 6 (offset_text offset) else offset_text offset) ≡ Some offset
  by true is = signed_read offset (take 5 (clock_text (unsigned_abs offset))) (short_read (unsigned_abs offset) h (grind (arith, nat_tests, is)))
  by false is = signed_read offset (clock_text (unsigned_abs offset)) (long_read (unsigned_abs offset) h)

-- and so is a letter for UT
pub ut_read : offset_in (90 ∷ []) ≡ Some (pos 0)
unfolding offset_in
ut_read = refl
