-- The marks of a line's code, one after the other, and what each role says of its byte.
use Rattle.std.proofs.Common.{◌≡◌, ℕ, ◌+◌, ◌%◌, Bool, true, false, not, cond, eqb, List, [], ◌∷◌, ◌++◌, length, take, map, refl, sym, ap, subst, ◌∙◌, append_assoc, arith, inl, inr}
use Rattle.std.specs.Prelude.{count_by, take_while}
use Rattle.std.specs.List.{enumerate_from}
use Rattle.std.proofs.lemmas.Bool.{cases_Bool, cases_eq, eqb-true, eq-eqb, ne_eqb, and_parts, not-true}
use Rattle.std.proofs.lemmas.List.{take_at, length_push}
use Rattle.std.proofs.lemmas.List.Sums.{sum_by_push, sum_by-cons, take_while-cons}
use Rattle.zic_lines.specs.declared.field.Role.{Role}
use Rattle.zic_lines.specs.declared.field.Role.TheVariants as role
use Rattle.zic_lines.specs.Field.{Mark, code, is_quote, is_allowed, is_odd, is_gap, starts_comment}
use Rattle.zic_lines.specs.code.Taken.{role_of}

-- ---- marks, one after the other

abbrev pub flipped : ℕ → Bool → Bool
flipped byte quoted = cond (is_quote byte) (not quoted) quoted

abbrev pub mark_of : ℕ → Bool → Mark
mark_of byte quoted = record { byte = byte; quoted = quoted }

abbrev marked : Bool → List ℕ → List Mark
marked quoted [] = []
marked quoted (byte ∷ bytes) = mark_of byte quoted ∷ marked (flipped byte quoted) bytes

odd_more : (n : ℕ) → is_odd (n + 1) ≡ not (is_odd n)
odd_more n = elim (cases_eq (n % 2) 1) [
  | inl odd ↦ rw (eq-eqb (n % 2) 1 odd) (ne_eqb ((n + 1) % 2) 1 (λ e. omega arith))
  | inr even ↦ rw (ne_eqb (n % 2) 1 even) (eq-eqb ((n + 1) % 2) 1 (omega arith))
]

odd_plus : (n : ℕ) (b : Bool) → is_odd (n + cond b 1 0) ≡ cond b (not (is_odd n)) (is_odd n)
odd_plus n true = odd_more n
odd_plus n false = ap is_odd (omega arith)

odd_push : (front : List ℕ) (byte : ℕ) → is_odd (count_by is_quote (front ++ byte ∷ [])) ≡ flipped byte (is_odd (count_by is_quote front))
odd_push front byte = ap is_odd (sum_by_push (λ b. cond (is_quote b) 1 0) front byte) ∙ odd_plus (count_by is_quote front) (is_quote byte)

-- the marks of a part of a line, which begins at n
abbrev marks_at : List ℕ → ℕ → List ℕ → List Mark
marks_at line n part = map (λ at. mark_of at.1 (is_odd (count_by is_quote (take at.0 line)))) (enumerate_from n part)

marks_from : (front rest : List ℕ) → marks_at (front ++ rest) (length front) rest ≡ marked (is_odd (count_by is_quote front)) rest
marks_from front [] = refl
marks_from front (byte ∷ bytes) =
    let front-is : take (length front) (front ++ byte ∷ bytes) ≡ front = take_at front (byte ∷ bytes) (length front) refl in
    let head : mark_of byte (is_odd (count_by is_quote (take (length front) (front ++ byte ∷ bytes)))) ≡ mark_of byte (is_odd (count_by is_quote front)) = ap (λ (l : List ℕ). mark_of byte (is_odd (count_by is_quote l))) front-is in
    let regrouped : front ++ byte ∷ bytes ≡ (front ++ byte ∷ []) ++ bytes = sym (append_assoc front (byte ∷ []) bytes) in
    let tail : marks_at (front ++ byte ∷ bytes) (length front + 1) bytes ≡ marked (flipped byte (is_odd (count_by is_quote front))) bytes =
    ap (λ (l : List ℕ). marks_at l (length front + 1) bytes) regrouped
    ∙ ap (λ (n : ℕ). marks_at ((front ++ byte ∷ []) ++ bytes) n bytes) (sym (length_push front byte))
    ∙ marks_from (front ++ byte ∷ []) bytes
    ∙ ap (λ (b : Bool). marked b bytes) (odd_push front byte) in
    ap (λ (m : Mark). m ∷ marks_at (front ++ byte ∷ bytes) (length front + 1) bytes) head ∙ ap (λ (ms : List Mark). mark_of byte (is_odd (count_by is_quote front)) ∷ ms) tail

-- ---- the code of what is left

abbrev pub code_from : Bool → List ℕ → List Mark
code_from quoted bytes = take_while (λ mark. not (starts_comment mark)) (marked quoted bytes)

pub code_is : (line : List ℕ) → code line ≡ code_from false line
code_is line = ap (take_while (λ mark. not (starts_comment mark))) (marks_from [] line)

pub code_from-comment : (quoted : Bool) (byte : ℕ) (bytes : List ℕ) → starts_comment (mark_of byte quoted) ≡ true → code_from quoted (byte ∷ bytes) ≡ []
code_from-comment quoted byte bytes e = take_while-cons (λ mark. not (starts_comment mark)) (mark_of byte quoted) (marked (flipped byte quoted) bytes) ∙ ap (λ (b : Bool). cond (not b) (mark_of byte quoted ∷ code_from (flipped byte quoted) bytes) []) e

pub code_from-other : (quoted : Bool) (byte : ℕ) (bytes : List ℕ) → starts_comment (mark_of byte quoted) ≡ false → code_from quoted (byte ∷ bytes) ≡ mark_of byte quoted ∷ code_from (flipped byte quoted) bytes
code_from-other quoted byte bytes e = take_while-cons (λ mark. not (starts_comment mark)) (mark_of byte quoted) (marked (flipped byte quoted) bytes) ∙ ap (λ (b : Bool). cond (not b) (mark_of byte quoted ∷ code_from (flipped byte quoted) bytes) []) e

-- whether a quoted part is open after the code
abbrev pub open_after : Bool → List Mark → Bool
open_after quoted [] = quoted
open_after quoted (mark ∷ part) = open_after (flipped mark.byte quoted) part

pub open_after_is : (n : ℕ) (part : List Mark) → open_after (is_odd n) part ≡ is_odd (n + count_by (λ mark. is_quote mark.byte) part)
open_after_is n [] = ap is_odd (omega arith)
open_after_is n (mark ∷ part) =
    ap (λ (b : Bool). open_after b part) (sym (odd_plus n (is_quote mark.byte)))
    ∙ open_after_is (n + cond (is_quote mark.byte) 1 0) part
    ∙ ap is_odd (omega (arith, sum_by-cons (λ m. cond (is_quote m.byte) 1 0) mark part))

-- ---- roles

pub quote_is : (byte : ℕ) (quoted : Bool) → is_quote byte ≡ true → (is_allowed byte ≡ true) × (is_gap (mark_of byte quoted) ≡ false)
quote_is byte quoted e = let at : byte ≡ 34 = eqb-true byte 34 e in (ap is_allowed at, ap (λ (b : ℕ). is_gap (mark_of b quoted)) at)

module _ (byte : ℕ) (quoted : Bool) where
  pub role-comment : starts_comment (mark_of byte quoted) ≡ true → role_of byte quoted ≡ role.Comment
  unfolding role_of
  role-comment e = rw e refl

  pub role-quote : starts_comment (mark_of byte quoted) ≡ false → is_quote byte ≡ true → role_of byte quoted ≡ role.DoubleQuote
  unfolding role_of
  role-quote e q = rw (e, q) refl

  pub role-refused : starts_comment (mark_of byte quoted) ≡ false → is_quote byte ≡ false → is_allowed byte ≡ false → role_of byte quoted ≡ role.Refused
  unfolding role_of
  role-refused e q a = rw (e, q, a) refl

  pub role-gap : starts_comment (mark_of byte quoted) ≡ false → is_quote byte ≡ false → is_allowed byte ≡ true → is_gap (mark_of byte quoted) ≡ true → role_of byte quoted ≡ role.Gap
  unfolding role_of
  role-gap e q a g = rw (e, q, a, g) refl

  pub role-text : starts_comment (mark_of byte quoted) ≡ false → is_quote byte ≡ false → is_allowed byte ≡ true → is_gap (mark_of byte quoted) ≡ false → role_of byte quoted ≡ role.Text
  unfolding role_of
  role-text e q a g = rw (e, q, a, g) refl

-- it begins no comment, and may stand there
pub record IsTaken (byte : ℕ) (quoted : Bool) : Type 0 where
  pub plain : starts_comment (mark_of byte quoted) ≡ false
  pub allowed : is_allowed byte ≡ true

-- it is taken, and is no double quote
pub record IsOther (byte : ℕ) (quoted : Bool) : Type 0 where
  pub taken : IsTaken byte quoted
  pub other : is_quote byte ≡ false

abbrev pub Means : Role → ℕ → Bool → Type 0
Means role.Comment byte quoted = starts_comment (mark_of byte quoted) ≡ true
Means role.DoubleQuote byte quoted = IsTaken byte quoted × (is_quote byte ≡ true) × (is_gap (mark_of byte quoted) ≡ false)
Means role.Refused byte quoted = (starts_comment (mark_of byte quoted) ≡ false) × (is_allowed byte ≡ false)
Means role.Gap byte quoted = IsOther byte quoted × (is_gap (mark_of byte quoted) ≡ true)
Means role.Text byte quoted = IsOther byte quoted × (is_gap (mark_of byte quoted) ≡ false)

role_means : (byte : ℕ) (quoted : Bool) → Means (role_of byte quoted) byte quoted
role_means byte quoted = elim (cases_Bool (starts_comment (mark_of byte quoted))) [
  | inl comment ↦ subst (λ r. Means r byte quoted) (sym (role-comment byte quoted comment)) comment
  | inr plain ↦ elim (cases_Bool (is_quote byte)) [
    | inl quote ↦ let is = quote_is byte quoted quote in subst (λ r. Means r byte quoted) (sym (role-quote byte quoted plain quote)) (record { plain = plain; allowed = is.0 }, quote, is.1)
    | inr other ↦ elim (cases_Bool (is_allowed byte)) [
      | inr refused ↦ subst (λ r. Means r byte quoted) (sym (role-refused byte quoted plain other refused)) (plain, refused)
      | inl allowed ↦
          let taken : IsTaken byte quoted = record { plain = plain; allowed = allowed } in
          elim (cases_Bool (is_gap (mark_of byte quoted))) [
            | inl gap ↦ subst (λ r. Means r byte quoted) (sym (role-gap byte quoted plain other allowed gap)) (record { taken = taken; other = other }, gap)
            | inr inside ↦ subst (λ r. Means r byte quoted) (sym (role-text byte quoted plain other allowed inside)) (record { taken = taken; other = other }, inside)
          ]
    ]
  ]
]

pub means : {r : Role} (byte : ℕ) (quoted : Bool) → role_of byte quoted ≡ r → Means r byte quoted
means byte quoted e = subst (λ r. Means r byte quoted) e (role_means byte quoted)

-- no comment begins at a byte that is quoted
pub comment_outside : (byte : ℕ) (quoted : Bool) → role_of byte quoted ≡ role.Comment → quoted ≡ false
comment_outside byte quoted e = not-true quoted (and_parts (eqb byte 35) (not quoted) (means byte quoted e)).1
