-- The first check that fails, by the outcome of each.
use Rattle.std.proofs.Common.{◌≡◌, ℕ, suc, ◌+◌, ◌<◌, ◌≤◌, ◌⊎◌, inl, inr, Bool, true, false, not, ◌||◌, cond, List, [], ◌∷◌, length, take, drop, Option, Some, None, refl, sym, ap, ◌∙◌, arith}
use Rattle.std.specs.Prelude.{nat_le, nat_lt, ◌==◌, slice_index}
use Rattle.std.specs.List.{list_any, position, position_or_len, before_first}
use Rattle.std.proofs.lemmas.Bool.{lt-ltb, ltb-true, not-true, not-false, and_parts}
use Rattle.std.proofs.lemmas.Bool.Decides.{nat_tests}
use Rattle.std.proofs.lemmas.Option.{cond_some}
use Rattle.std.specs.Str.{bytes_eq}
use Rattle.zic_base.specs.Check.{first_failed}
use Rattle.zic_tzif.specs.declared.reason.Reason.{Reason}
use Rattle.zic_tzif.specs.declared.reason.Reason.TheVariants as reason
use Rattle.zic_base.specs.declared.constants.TheConstants.{LONGEST_FILE}
use Rattle.zic_tzif.specs.Header.{Counts, counts_at, block_length, second_header, second_block, second_counts, footer_place}
use Rattle.zic_tzif.specs.Block.{after_newline}
use Rattle.zic_tzif.specs.Reading.{are_counts, first_checks, second_checks, footer_checks}

-- whether two headers begin alike, by the answer of `!=`
marks : (o : List ℕ) (header : ℕ) (m n : List ℕ) (same : Bool) → m ≡ take 5 (drop header o) → n ≡ take 5 o → bytes_eq m n ≡ same → bytes_eq (take 5 (drop header o)) (take 5 o) ≡ same
marks o header m n same m-is n-is e =
    ap (λ (x : List ℕ). bytes_eq x (take 5 o)) (sym m-is) ∙ ap (λ (x : List ℕ). bytes_eq m x) (sym n-is) ∙ e

pub marks_differ : (o : List ℕ) (header : ℕ) (m n : List ℕ) (ne : Bool) → m ≡ take 5 (drop header o) → n ≡ take 5 o → ne ≡ not (bytes_eq m n) → ne ≡ true → bytes_eq (take 5 (drop header o)) (take 5 o) ≡ false
marks_differ o header m n ne m-is n-is e t = marks o header m n false m-is n-is (not-true (bytes_eq m n) (sym e ∙ t))

pub marks_agree : (o : List ℕ) (header : ℕ) (m n : List ℕ) (ne : Bool) → m ≡ take 5 (drop header o) → n ≡ take 5 o → ne ≡ not (bytes_eq m n) → ne ≡ false → bytes_eq (take 5 (drop header o)) (take 5 o) ≡ true
marks_agree o header m n ne m-is n-is e t = marks o header m n true m-is n-is (not-false (bytes_eq m n) (sym e ∙ t))

abbrev of_first : Bool → Bool → Bool → Bool → Bool → Bool → Option Reason
of_first a b c d e f =
    cond a (cond b (cond c (cond d (cond e (cond f None (Some reason.Short)) (Some reason.LeapSeconds)) (Some reason.Version)) (Some reason.Magic)) (Some reason.Short)) (Some reason.TooLarge)

-- of the first header's checks
pub first_outcome : (o : List ℕ) (small there magic known leap whole : Bool)
    → nat_le (length o) LONGEST_FILE ≡ small → nat_le 44 (length o) ≡ there → bytes_eq (take 4 o) (84 ∷ 90 ∷ 105 ∷ 102 ∷ []) ≡ magic
    → ((slice_index o 4 == 50) || (slice_index o 4 == 51)) ≡ known → ((counts_at o 0).leap_seconds == 0) ≡ leap → nat_le (second_block o) (length o) ≡ whole
    → first_failed (first_checks o) ≡ of_first small there magic known leap whole
first_outcome o small there magic known leap whole e1 e2 e3 e4 e5 e6 =
    let b1 = nat_le 44 (length o) in
    let b2 = bytes_eq (take 4 o) (84 ∷ 90 ∷ 105 ∷ 102 ∷ []) in
    let b3 = (slice_index o 4 == 50) || (slice_index o 4 == 51) in
    let b4 = (counts_at o 0).leap_seconds == 0 in
    let b5 = nat_le (second_block o) (length o) in
    ap (λ a. of_first a b1 b2 b3 b4 b5) e1 ∙ ap (λ b. of_first small b b2 b3 b4 b5) e2 ∙ ap (λ c. of_first small there c b3 b4 b5) e3
    ∙ ap (λ d. of_first small there magic d b4 b5) e4 ∙ ap (λ e. of_first small there magic known e b5) e5 ∙ ap (of_first small there magic known leap) e6

-- a byte of one of the two versions
pub is_version : (byte : ℕ) → (byte ≡ 50) ⊎ (byte ≡ 51) → ((byte == 50) || (byte == 51)) ≡ true
is_version byte (inl e) = rw e refl
is_version byte (inr e) = rw e refl

abbrev of_second : Bool → Bool → Bool → Bool → Option Reason
of_second a b c d =
    cond a (cond b (cond c (cond d None (Some reason.Short)) (Some reason.LeapSeconds)) (Some reason.Counts)) (Some reason.HeadersDiffer)

-- of the second header's checks
pub second_outcome : (o : List ℕ) (header : ℕ) (c : Counts) (same counts leap there : Bool) → header ≡ second_header o → c ≡ counts_at o header
    → bytes_eq (take 5 (drop header o)) (take 5 o) ≡ same → are_counts c ≡ counts → (c.leap_seconds == 0) ≡ leap → nat_le (header + 44 + block_length c 8) (length o) ≡ there
    → first_failed (second_checks o) ≡ of_second same counts leap there
second_outcome o header c same counts leap there h-is c-was e1 e2 e3 e4 =
    let c-is : c ≡ second_counts o = c-was ∙ ap (counts_at o) h-is in
    let f1 : bytes_eq (take 5 (drop (second_header o) o)) (take 5 o) ≡ same = ap (λ n. bytes_eq (take 5 (drop n o)) (take 5 o)) (sym h-is) ∙ e1 in
    let f2 : are_counts (second_counts o) ≡ counts = ap are_counts (sym c-is) ∙ e2 in
    let f3 : ((second_counts o).leap_seconds == 0) ≡ leap = ap (λ (d : Counts). d.leap_seconds == 0) (sym c-is) ∙ e3 in
    let f4 : nat_le (footer_place o) (length o) ≡ there =
    ap (λ (d : Counts). nat_le (second_header o + 44 + block_length d 8) (length o)) (sym c-is) ∙ ap (λ n. nat_le (n + 44 + block_length c 8) (length o)) (sym h-is) ∙ e4 in
    ap (λ a. of_second a (are_counts (second_counts o)) ((second_counts o).leap_seconds == 0) (nat_le (footer_place o) (length o))) f1
    ∙ ap (λ b. of_second same b ((second_counts o).leap_seconds == 0) (nat_le (footer_place o) (length o))) f2
    ∙ ap (λ l. of_second same counts l (nat_le (footer_place o) (length o))) f3 ∙ ap (of_second same counts leap) f4

-- readable counts have a type
pub some_type : (c : Counts) → are_counts c ≡ true → 1 ≤ c.types
some_type c e =
    let a = and_parts _ _ e in
    let b = and_parts _ _ a.0 in
    let d = and_parts _ _ b.0 in
    ltb-true 0 c.types d.0

abbrev of_footer : Bool → Bool → Bool → Option Reason
of_footer a b c = cond a (cond b (cond c None (Some reason.Short)) (Some reason.Footer)) (Some reason.Short)

-- of the checks of the footer's newlines
pub footer_outcome : (o : List ℕ) (place : ℕ) (there newline closed : Bool) → place ≡ footer_place o
    → nat_lt place (length o) ≡ there → (slice_index o place == 10) ≡ newline → list_any (λ b. b == 10) (drop (place + 1) o) ≡ closed
    → first_failed (footer_checks o) ≡ of_footer there newline closed
footer_outcome o place there newline closed p-is e1 e2 e3 =
    let f1 : nat_lt (footer_place o) (length o) ≡ there = ap (λ n. nat_lt n (length o)) (sym p-is) ∙ e1 in
    let f2 : (slice_index o (footer_place o) == 10) ≡ newline = ap (λ n. slice_index o n == 10) (sym p-is) ∙ e2 in
    let f3 : list_any (λ b. b == 10) (after_newline o) ≡ closed = ap (λ n. list_any (λ b. b == 10) (drop (n + 1) o)) (sym p-is) ∙ e3 in
    ap (λ a. of_footer a (slice_index o (footer_place o) == 10) (list_any (λ b. b == 10) (after_newline o))) f1
    ∙ ap (λ b. of_footer there b (list_any (λ b. b == 10) (after_newline o))) f2 ∙ ap (of_footer there newline) f3

one_on : (n len : ℕ) → nat_lt n len ≡ nat_lt (1 + n) (suc len)
one_on n len = grind (arith, nat_tests)

first_any : (b any : Bool) (n len : ℕ) → any ≡ nat_lt n len → (b || any) ≡ nat_lt (cond (not b) (1 + n) 0) (suc len)
first_any true any n len e = sym (lt-ltb 0 (suc len) (omega arith))
first_any false any n len e = e ∙ one_on n len

chosen_none : (b : Bool) (n : ℕ) → cond b (Some n) None ≡ None → b ≡ false
chosen_none true n e = absurd cc
chosen_none false n e = refl

-- whether an element passes, by the place of the first
any_by_place : (p : ℕ → Bool) (xs : List ℕ) → list_any p xs ≡ nat_lt (position_or_len p xs) (length xs)
any_by_place p [] = refl
any_by_place p (x ∷ xs) = first_any (p x) (list_any p xs) (position_or_len p xs) (length xs) (any_by_place p xs)

pub not_there : (p : ℕ → Bool) (xs : List ℕ) → position p xs ≡ None → list_any p xs ≡ false
not_there p xs e = any_by_place p xs ∙ chosen_none (nat_lt (position_or_len p xs) (length xs)) (position_or_len p xs) e

pub is_there : (p : ℕ → Bool) (xs : List ℕ) (i : ℕ) → position p xs ≡ Some i → (list_any p xs ≡ true) × (take i xs ≡ before_first p xs) × (i < length xs)
is_there p xs i e =
    let found = cond_some (nat_lt (position_or_len p xs) (length xs)) (position_or_len p xs) i e in
    let lt = ltb-true (position_or_len p xs) (length xs) found.0 in
    (any_by_place p xs ∙ found.0, ap (λ n. take n xs) (sym found.1), rw found.1 at lt)
