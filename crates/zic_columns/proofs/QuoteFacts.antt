-- Stray double quotes of fields and of records.
use Rattle.std.proofs.Common.{◌≡◌, ◌==◌, ◌||◌, ◌+◌, ◌<◌, ◌≤◌, ℕ, suc, Bool, true, false, List, [], ◌∷◌, ◌++◌, length, drop, drop-cons, get_or, refl, sym, ap, ap₂, ◌∙◌, subst, ⊎_elim, arith}
use Rattle.std.proofs.Math.Bool.{or-false, or_assoc}
use Rattle.std.proofs.lemmas.Bool.{both_ways, cases_Bool, cond_both, eq-eqb, eqb-true, ne_eqb, or_right}
use Rattle.std.proofs.lemmas.List.{drop_all}
use Rattle.csv.specs.Machine.{step}
use Rattle.csv.specs.declared.parser.State.{State}
use Rattle.csv.specs.declared.parser.State.TheVariants as st
use Rattle.zic_columns.specs.Column.{CanDelimit, config_of, ends_line, state_after}
use Rattle.zic_columns.specs.Quotes.{goes_past, has_stray, is_past_quote, is_quoted}
use Rattle.zic_columns.specs.code.Block.{ends_field}
use Rattle.zic_columns.specs.code.Field.{EndsField, HasQuotes, IsOutside}
use Rattle.zic_columns.specs.code.Machine.{state_at}
use Rattle.zic_columns.specs.code.Quote.{StraysOn, strays_from}
use Rattle.zic_columns.specs.declared.machine.Place.{Place}
use Rattle.zic_columns.specs.declared.machine.Place.TheVariants as place
use Rattle.zic_columns.proofs.StepFacts.{either, end_other, quote_other}

or_first : (a b c : Bool) → (a || (b || c)) ≡ (b || (a || c))
or_first true true c = refl
or_first true false c = refl
or_first false b c = refl

-- ---- a record is read as a field that starts

no_quote : (byte : ℕ) → ends_line byte ≡ true → (byte == 34) ≡ false
no_quote byte ends = ne_eqb byte 34 (λ is. both_ways (ends_line 34) refl (subst (λ (b : ℕ). ends_line b ≡ true) is ends))

module _ {d : ℕ} (can : CanDelimit d) where
  -- ---- bytes, one after the other

  pub state_both : (s : State) (a b : List ℕ) → state_after (config_of d) s (a ++ b) ≡ state_after (config_of d) (state_after (config_of d) s a) b
  unfolding state_after
  state_both s [] b = refl
  state_both s (byte ∷ a) b = state_both (step (config_of d) s byte).0 a b

  past_both : (s : State) (a b : List ℕ) → goes_past d s (a ++ b) ≡ (goes_past d s a || goes_past d (state_after (config_of d) s a) b)
  unfolding state_after goes_past
  past_both s [] b = refl
  past_both s (byte ∷ a) b =
      let to = (step (config_of d) s byte).0 in
      ap (λ (x : Bool). is_past_quote d s byte || x) (past_both to a b) ∙ sym (or_assoc (is_past_quote d s byte) (goes_past d to a) (goes_past d (state_after (config_of d) to a) b))

  pub state_last : (s : State) (bytes : List ℕ) (byte : ℕ) → state_after (config_of d) s (bytes ++ byte ∷ []) ≡ (step (config_of d) (state_after (config_of d) s bytes) byte).0
  unfolding state_after
  state_last s bytes byte = state_both s bytes (byte ∷ [])

  pub past_last : (s : State) (bytes : List ℕ) (byte : ℕ) → goes_past d s (bytes ++ byte ∷ []) ≡ (goes_past d s bytes || is_past_quote d (state_after (config_of d) s bytes) byte)
  unfolding goes_past
  past_last s bytes byte =
      past_both s bytes (byte ∷ []) ∙ ap (λ (x : Bool). goes_past d s bytes || x) (or-false (is_past_quote d (state_after (config_of d) s bytes) byte))

  pub quotes_none : HasQuotes d [] place.Start false
  unfolding state_after goes_past
  quotes_none = (refl, refl)

  -- ---- fields, one after the other

  pub quotes_both : (a b : List ℕ) (p : Place) (s t : Bool) → HasQuotes d a place.Start s → HasQuotes d b p t → HasQuotes d (a ++ b) p (s || t)
  quotes_both a b p s t first second = (
    state_both st.StartField a b ∙ ap (λ (u : State). state_after (config_of d) u b) first.0 ∙ second.0,
    ap₂ (λ (x y : Bool). x || y) first.1 second.1 ∙ or_first (goes_past d st.StartField a) (is_quoted (state_at p)) (goes_past d st.StartField b)
        ∙ ap (λ (x : Bool). is_quoted (state_at p) || x)
        (ap (λ (u : State). goes_past d st.StartField a || goes_past d u b) (sym first.0) ∙ sym (past_both st.StartField a b)),
  )

  delimiter_starts : (p : Place) → IsOutside p → ((step (config_of d) (state_at p) d).0 ≡ st.StartField) × (is_quoted (state_at p) ≡ false) × (is_past_quote d (state_at p) d ≡ false)
  delimiter_starts place.Start out = (rw (ne_eqb d 34 can.quote, eq-eqb d d refl) refl, refl, refl)
  delimiter_starts place.Plain out = (rw (eq-eqb d d refl) refl, refl, refl)
  delimiter_starts place.Quoted out = absurd out
  delimiter_starts place.QuoteSeen out = (rw (ne_eqb d 34 can.quote, eq-eqb d d refl) refl, refl, rw (eq-eqb d d refl) refl)

  -- double quotes that end before are not open
  pub not_open : (p : Place) → IsOutside p → is_quoted (state_at p) ≡ false
  not_open p out = (delimiter_starts p out).1

  -- a delimiter after a field
  pub quotes_delimiter : (bytes : List ℕ) (p : Place) (stray : Bool) → HasQuotes d bytes p stray → IsOutside p → HasQuotes d (bytes ++ d ∷ []) place.Start stray
  quotes_delimiter bytes p stray has out =
      let delimiter = delimiter_starts p out in (
        state_last st.StartField bytes d ∙ ap (λ (s : State). (step (config_of d) s d).0) has.0 ∙ delimiter.0,
        has.1 ∙ ap (λ (x : Bool). x || goes_past d st.StartField bytes) delimiter.1
            ∙ sym (past_last st.StartField bytes d ∙ ap (λ (s : State). goes_past d st.StartField bytes || is_past_quote d s d) has.0
            ∙ ap (λ (x : Bool). goes_past d st.StartField bytes || x) delimiter.2 ∙ or-false (goes_past d st.StartField bytes)),
      )

  after_return : (bytes : List ℕ) → strays_from d st.AfterCr bytes ≡ strays_from d st.StartRecord bytes
  unfolding state_after goes_past
  after_return [] = refl
  after_return (byte ∷ bytes) = ⊎_elim (λ feed. rw feed (rw (eqb-true byte 10 feed) refl)) (λ other. rw other refl) (cases_Bool (byte == 10))

  pub from_field : (bytes : List ℕ) → strays_from d st.StartRecord bytes ≡ strays_from d st.StartField bytes
  unfolding state_after goes_past
  from_field [] = refl
  from_field (byte ∷ bytes) = ⊎_elim
      (λ (ends : ends_line byte ≡ true). rw (no_quote byte ends, end_other can byte ends, ends)
      (cond_both (byte == 13) st.AfterCr st.StartRecord (λ s. strays_from d st.StartRecord bytes ≡ strays_from d s bytes) (λ _. sym (after_return bytes)) (λ _. refl)))
      (λ (within : ends_line byte ≡ false). rw within refl)
      (cases_Bool (ends_line byte))

  -- the own bytes of a record
  pub own_stray : (own : List ℕ) (p : Place) (stray : Bool) → HasQuotes d own p stray → stray ≡ has_stray d own
  own_stray own p stray has = has.1 ∙ ap (λ (s : State). is_quoted s || goes_past d st.StartField own) (sym has.0) ∙ sym (from_field own)

  -- ---- the walk over own bytes

  past_cons : (s : State) (byte : ℕ) (bytes : List ℕ) → is_past_quote d s byte ≡ true → strays_from d s (byte ∷ bytes) ≡ true
  unfolding goes_past
  past_cons s byte bytes is =
      or_right (is_quoted (state_after (config_of d) s (byte ∷ bytes))) _ (ap (λ (x : Bool). x || goes_past d (step (config_of d) s byte).0 bytes) is)

  on_cons : (s : State) (byte : ℕ) (bytes : List ℕ) → is_past_quote d s byte ≡ false → strays_from d s (byte ∷ bytes) ≡ strays_from d (step (config_of d) s byte).0 bytes
  unfolding state_after goes_past
  on_cons s byte bytes not_past =
      let to = (step (config_of d) s byte).0 in
      ap (λ (x : Bool). is_quoted (state_after (config_of d) to bytes) || (x || goes_past d to bytes)) not_past

  not_quote : (byte : ℕ) → ends_field d byte ≡ true → (byte == 34) ≡ false
  not_quote byte ends = ne_eqb byte 34 (λ is. both_ways (ends_field d 34) (rw (quote_other can) refl) (subst (λ (b : ℕ). ends_field d b ≡ true) is ends))

  -- a byte that ends a field is as one at its start
  as_start : (p : Place) (byte : ℕ) (bytes : List ℕ) → IsOutside p → ends_field d byte ≡ true → strays_from d (state_at p) (byte ∷ bytes) ≡ strays_from d st.StartField (byte ∷ bytes)
  unfolding state_after goes_past
  as_start place.Start byte bytes out ends = refl
  as_start place.Plain byte bytes out ends = rw (not_quote byte ends) refl
  as_start place.Quoted byte bytes out ends = absurd out
  as_start place.QuoteSeen byte bytes out ends = rw (not_quote byte ends, or-false (byte == d), ends) refl

  delimiter_start : (bytes : List ℕ) → strays_from d st.StartField (d ∷ bytes) ≡ strays_from d st.StartField bytes
  unfolding state_after goes_past
  delimiter_start bytes = rw (ne_eqb d 34 can.quote, eq-eqb d d refl) refl

  end_start : (byte : ℕ) (bytes : List ℕ) → ends_line byte ≡ true → strays_from d st.StartRecord (byte ∷ bytes) ≡ strays_from d st.StartRecord bytes
  unfolding state_after goes_past
  end_start byte bytes ends = rw ends refl

  ends_cons : (p : Place) (byte : ℕ) (bytes : List ℕ) → EndsField d p byte → strays_from d (state_at p) (byte ∷ bytes) ≡ strays_from d st.StartField bytes
  ends_cons p byte bytes ends = as_start p byte bytes ends.1 ends.0 ∙ ⊎_elim
      (λ (delimiter : (byte == d) ≡ true). ap (λ (b : ℕ). strays_from d st.StartField (b ∷ bytes)) (eqb-true byte d delimiter) ∙ delimiter_start bytes)
      (λ (other : (byte == d) ≡ false).
      sym (from_field (byte ∷ bytes)) ∙ end_start byte bytes (either (byte == d) (ends_line byte) ends.0 other) ∙ from_field bytes)
      (cases_Bool (byte == d))

  pub strays_on : (p next : Place) (byte : ℕ) → is_past_quote d (state_at p) byte ≡ false → (step (config_of d) (state_at p) byte).0 ≡ state_at next → StraysOn d p byte next
  strays_on p next byte not_past to = λ rest. sym (on_cons (state_at p) byte rest not_past ∙ ap (λ (s : State). strays_from d s rest) to)

  pub strays_anew : (p : Place) (byte : ℕ) → EndsField d p byte → StraysOn d p byte place.Start
  strays_anew p byte ends = λ rest. sym (ends_cons p byte rest ends)

  module _ (own : List ℕ) (at : ℕ) (p : Place) where
    module _ (inside : at < length own) where
      here : drop at own ≡ get_or own at 0 ∷ drop (at + 1) own
      here = let one : suc at ≡ at + 1 = omega arith in drop-cons own at 0 inside ∙ ap (λ (n : ℕ). get_or own at 0 ∷ drop n own) one

      pub past_at : is_past_quote d (state_at p) (get_or own at 0) ≡ true → strays_from d (state_at p) (drop at own) ≡ true
      past_at is = ap (strays_from d (state_at p)) here ∙ past_cons (state_at p) (get_or own at 0) (drop (at + 1) own) is

      pub on_at : (next : Place) → StraysOn d p (get_or own at 0) next → strays_from d (state_at next) (drop (at + 1) own) ≡ strays_from d (state_at p) (drop at own)
      on_at next on = on (drop (at + 1) own) ∙ sym (ap (strays_from d (state_at p)) here)

    pub at_last : length own ≤ at → strays_from d (state_at p) (drop at own) ≡ is_quoted (state_at p)
    unfolding state_after goes_past
    at_last past = ap (strays_from d (state_at p)) (drop_all at own past) ∙ or-false (is_quoted (state_at p))
