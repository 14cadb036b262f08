-- The byte order mark at the start of some bytes.
use Rattle.std.proofs.Common.{◌≡◌, ◌==◌, ◌<◌, ◌≤◌, ◌&&◌, ℕ, Bool, true, false, List, [], ◌∷◌, ◌++◌, cond, length, take, drop, refl, sym, ◌∙◌, arith}
use Rattle.std.specs.Prelude.{nat_eq}
use Rattle.std.specs.Cmp.Lexicographic.{pointwise}
use Rattle.std.proofs.Math.Bool.{and-true}
use Rattle.std.proofs.lemmas.Bool.{and_left, and_right, both_ways, cond-true, cond-false}
use Rattle.csv.specs.Reading.{is_bom, strip_bom}
use Rattle.zic_columns.specs.code.Mark.{ShowsMark}

abbrev pub mark : List ℕ
mark = 0xEF ∷ 0xBB ∷ 0xBF ∷ []

same_tests : (x y z : Bool) → (x && (y && (z && true))) ≡ ((x && y) && z)
same_tests false y z = refl
same_tests true false z = refl
same_tests true true false = refl
same_tests true true true = refl

pub stripped : (bytes : List ℕ) → pointwise nat_eq (take 3 bytes) mark ≡ true → strip_bom bytes ≡ drop 3 bytes
unfolding strip_bom
stripped [] is = absurd (cc is)
stripped (a ∷ []) is = absurd (both_ways _ (and_right (a == 0xEF) false refl) is)
stripped (a ∷ b ∷ []) is = absurd (both_ways _ (and_right (a == 0xEF) ((b == 0xBB) && false) (and_right (b == 0xBB) false refl)) is)
stripped (a ∷ b ∷ c ∷ rest) is = cond-true (is_bom a b c) rest (a ∷ b ∷ c ∷ rest) (sym (same_tests (a == 0xEF) (b == 0xBB) (c == 0xBF)) ∙ is)

pub unmarked : (bytes : List ℕ) → pointwise nat_eq (take 3 bytes) mark ≡ false → strip_bom bytes ≡ bytes
unfolding strip_bom
unmarked [] is = refl
unmarked (a ∷ []) is = refl
unmarked (a ∷ b ∷ []) is = refl
unmarked (a ∷ b ∷ c ∷ rest) is = cond-false (is_bom a b c) rest (a ∷ b ∷ c ∷ rest) (sym (same_tests (a == 0xEF) (b == 0xBB) (c == 0xBF)) ∙ is)

pub mark_shown : (bytes rest : List ℕ) → 3 ≤ length bytes → strip_bom (bytes ++ rest) ≡ strip_bom bytes ++ rest
unfolding strip_bom
mark_shown [] rest le = absurd (omega arith)
mark_shown (a ∷ []) rest le = absurd (omega arith)
mark_shown (a ∷ b ∷ []) rest le = absurd (omega arith)
mark_shown (a ∷ b ∷ c ∷ bytes) rest le = cond_over (is_bom a b c) bytes (a ∷ b ∷ c ∷ bytes) rest
  where
    cond_over : (test : Bool) (xs ys zs : List ℕ) → cond test (xs ++ zs) (ys ++ zs) ≡ cond test xs ys ++ zs
    cond_over true xs ys zs = refl
    cond_over false xs ys zs = refl

-- the test whether the mark begins with bytes
abbrev pub begins : List ℕ → Bool
begins bytes = pointwise nat_eq bytes (take (length bytes) mark)

two_tests : (x y : Bool) → (x && (y && true)) ≡ (x && y)
two_tests false y = refl
two_tests true false = refl
two_tests true true = refl

no_bom : (a b c : ℕ) (rest : List ℕ) → ((a == 0xEF) && (b == 0xBB)) ≡ false → strip_bom (a ∷ b ∷ c ∷ rest) ≡ a ∷ b ∷ c ∷ rest
unfolding strip_bom
no_bom a b c rest none = cond-false (is_bom a b c) rest (a ∷ b ∷ c ∷ rest) (and_left ((a == 0xEF) && (b == 0xBB)) (c == 0xBF) none)

-- bytes that the mark does not begin with show that there is none
pub shown : (bytes : List ℕ) → length bytes < 3 → begins bytes ≡ false → ShowsMark bytes
unfolding strip_bom
shown [] few not rest = absurd (cc not)
shown (a ∷ []) few not [] = refl
shown (a ∷ []) few not (b ∷ []) = refl
shown (a ∷ []) few not (b ∷ c ∷ rest) = no_bom a b c rest (and_left (a == 0xEF) (b == 0xBB) (sym (and-true (a == 0xEF)) ∙ not))
shown (a ∷ b ∷ []) few not [] = refl
shown (a ∷ b ∷ []) few not (c ∷ rest) = no_bom a b c rest (sym (two_tests (a == 0xEF) (b == 0xBB)) ∙ not)
shown (a ∷ b ∷ c ∷ bytes) few not rest = absurd (omega (arith, few))

-- a proper beginning of the mark does not show it: the rest of the mark may follow, or not
pub not_shown : (bytes : List ℕ) → length bytes < 3 → begins bytes ≡ true → ShowsMark bytes → ⊥
unfolding strip_bom
not_shown [] few is shows = cc (shows mark)
not_shown (a ∷ []) few is shows = cc (sym (cond-true (is_bom a 0xBB 0xBF) [] (a ∷ 0xBB ∷ 0xBF ∷ []) (and-true _ ∙ is)) ∙ shows (0xBB ∷ 0xBF ∷ []))
not_shown (a ∷ b ∷ []) few is shows =
    cc (sym (cond-true (is_bom a b 0xBF) [] (a ∷ b ∷ 0xBF ∷ []) (and-true _ ∙ sym (two_tests (a == 0xEF) (b == 0xBB)) ∙ is)) ∙ shows (0xBF ∷ []))
not_shown (a ∷ b ∷ c ∷ bytes) few is shows = absurd (omega (arith, few))
