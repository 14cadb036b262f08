-- What a search for bytes says of the parts between them.
use Rattle.std.proofs.Common.{◌≡◌, ℕ, ◌+◌, ◌<◌, ◌≤◌, Bool, false, All, List, length, take, drop, get_or, Some, None, ap, ◌∙◌, arith, subst, ◌==◌, ◌≢◌, Option, MatchOption}
use Rattle.std.proofs.lemmas.Bool.{eqb-false, eqb-true, false_from_ne_true}
use Rattle.std.proofs.lemmas.List.{get_or-take, get_or-drop, get_or_default, length-drop, length-take-le, take_all}
use Rattle.std.proofs.lemmas.List.Elements.{All-weaker}
use Rattle.memchr.specs.Find.{IsFirstByte, Nowhere, Passes, is_byte}
use Rattle.zic_columns.specs.Column.{HasNoQuote}
use Rattle.zic_columns.specs.code.Quote.{IsFirstQuote}

module _ (test : ℕ → Bool) (bytes : List ℕ) where
  -- no such byte stands before the first
  pub none_before : (at : ℕ) → at ≤ length bytes → Nowhere (Passes test bytes) 0 at → All (λ byte. test byte ≡ false) (take at bytes)
  none_before at le none = λ k d lt.
      let inside : k < at = omega (arith, lt, length-take-le at bytes le) in
      ap test (get_or-take at bytes k d inside ∙ get_or_default bytes k d 0 (omega (arith, inside, le))) ∙ false_from_ne_true (test (get_or bytes k 0)) (none k (omega arith) inside)

  pub none_within : IsFirstByte test bytes None → All (λ byte. test byte ≡ false) bytes
  none_within none = let all : length bytes ≤ length bytes = omega arith in subst (All (λ byte. test byte ≡ false)) (take_all (length bytes) bytes all) (none_before (length bytes) all none)

quoteless : (bytes : List ℕ) → All (λ byte. (byte == 34) ≡ false) bytes → HasNoQuote bytes
quoteless bytes all = All-weaker (λ byte. (byte == 34) ≡ false) (λ byte. byte ≢ 34) (λ byte no. eqb-false byte 34 no) bytes all

pub quote_found : (bytes : List ℕ) (found : Option ℕ) → IsFirstByte (is_byte 34) bytes found → MatchOption found (HasNoQuote bytes) (λ at. IsFirstQuote bytes at)
quote_found bytes None none = quoteless bytes (none_within (is_byte 34) bytes none)
quote_found bytes (Some at) first = record {
  within = first.0.high;
  here = eqb-true (get_or bytes at 0) 34 first.1;
  before = quoteless (take at bytes) (none_before (is_byte 34) bytes at (omega (arith, first.0.high)) first.0.before);
}

-- after the last such byte there is none
pub none_after : (test : ℕ → Bool) (bytes : List ℕ) (from : ℕ) → from ≤ length bytes → Nowhere (Passes test bytes) from (length bytes) → All (λ byte. test byte ≡ false) (drop from bytes)
none_after test bytes from le none = λ k d lt.
    let within : from + k < length bytes = omega (arith, lt, length-drop from bytes) in
    ap test (get_or-drop from bytes k d ∙ get_or_default bytes (from + k) d 0 within) ∙ false_from_ne_true (test (get_or bytes (from + k) 0)) (none (from + k) (omega arith) within)
