-- Records as RFC 4180 has them have no stray double quote.
use Rattle.std.proofs.Common.{◌≡◌, ◌==◌, ◌||◌, ℕ, Bool, true, false, not, All, List, [], ◌∷◌, ◌++◌, refl, sym, ap₂, subst, ◌∙◌, ⊎_elim}
use Rattle.std.proofs.lemmas.Bool.{cond_both, eq-eqb, ne_eqb}
use Rattle.std.proofs.lemmas.List.{append-nil}
use Rattle.std.proofs.lemmas.List.Elements.{All-head, All-tail}
use Rattle.csv.specs.Machine.{step}
use Rattle.csv.specs.declared.parser.State.{State}
use Rattle.csv.specs.declared.parser.State.TheVariants as st
use Rattle.zic_columns.specs.Column.{CanDelimit, config_of, ends_line, state_after}
use Rattle.zic_columns.specs.Laws.{RfcRecordsHaveNoStray}
use Rattle.zic_columns.specs.Quotes.{IsRfcField, delimited, doubled, goes_past, is_past_quote, is_quoted, is_text_data}
use Rattle.zic_columns.specs.code.Quote.{strays_from}
use Rattle.zic_columns.proofs.QuoteFacts.{from_field}

none_of : (a b c : Bool) → not (a || b || c) ≡ true → (a ≡ false) × (b ≡ false) × (c ≡ false)
none_of true b c h = absurd (cc h)
none_of false true c h = absurd (cc h)
none_of false false true h = absurd (cc h)
none_of false false false h = (refl, refl, refl)

module _ (d : ℕ) (can : CanDelimit d) where
  moves : (s t : State) (byte : ℕ) (rest : List ℕ) → is_past_quote d s byte ≡ false → (step (config_of d) s byte).0 ≡ t → strays_from d s (byte ∷ rest) ≡ strays_from d t rest
  unfolding state_after goes_past
  moves s t byte rest not_past to = ap₂ (λ (u : State) (x : Bool). is_quoted (state_after (config_of d) u rest) || (x || goes_past d u rest)) to not_past

  -- what stands after a field: nothing, or a delimiter and fields without a stray double quote
  abbrev Follows : List ℕ → Type 0
  Follows [] = Unit {0}
  Follows (byte ∷ more) = (byte ≡ d) × (strays_from d st.StartField more ≡ false)

  after_start : (tail : List ℕ) → Follows tail → strays_from d st.StartField tail ≡ false
  unfolding state_after goes_past
  after_start [] follows = refl
  after_start (byte ∷ more) follows = rw (follows.0, ne_eqb d 34 can.quote, eq-eqb d d refl) follows.1

  after_field : (tail : List ℕ) → Follows tail → strays_from d st.InField tail ≡ false
  unfolding state_after goes_past
  after_field [] follows = refl
  after_field (byte ∷ more) follows = rw (follows.0, eq-eqb d d refl) follows.1

  after_quote : (tail : List ℕ) → Follows tail → strays_from d st.AfterQuote tail ≡ false
  unfolding state_after goes_past
  after_quote [] follows = refl
  after_quote (byte ∷ more) follows = rw (follows.0, ne_eqb d 34 can.quote, eq-eqb d d refl) follows.1

  abbrev IsData : ℕ → Type 0
  IsData byte = is_text_data d byte ≡ true

  bare_run : (field tail : List ℕ) → All IsData field → Follows tail → strays_from d st.InField (field ++ tail) ≡ false
  unfolding state_after goes_past
  bare_run [] tail are follows = after_field tail follows
  bare_run (byte ∷ field) tail are follows =
      let (other, plain, within) = none_of (byte == d) (byte == 34) (ends_line byte) (All-head IsData byte field are) in
      moves st.InField st.InField byte (field ++ tail) refl (rw (other, within) refl) ∙ (bare_run field tail (All-tail IsData byte field are) follows)

  bare : (field tail : List ℕ) → All IsData field → Follows tail → strays_from d st.StartField (field ++ tail) ≡ false
  unfolding state_after goes_past
  bare [] tail are follows = after_start tail follows
  bare (byte ∷ field) tail are follows =
      let (other, plain, within) = none_of (byte == d) (byte == 34) (ends_line byte) (All-head IsData byte field are) in
      moves st.StartField st.InField byte (field ++ tail) refl (rw (plain, other, within) refl) ∙ (bare_run field tail (All-tail IsData byte field are) follows)

  quoted_run : (text tail : List ℕ) → Follows tail → strays_from d st.InQuoted ((doubled text ++ 34 ∷ []) ++ tail) ≡ false
  unfolding state_after goes_past
  quoted_run [] tail follows = after_quote tail follows
  quoted_run (byte ∷ text) tail follows =
      cond_both (byte == 34) (34 ∷ 34 ∷ doubled text) (byte ∷ doubled text) (λ (l : List ℕ). strays_from d st.InQuoted ((l ++ 34 ∷ []) ++ tail) ≡ false)
      (λ _. rw (ne_eqb 34 d (λ e. can.quote (sym e))) (quoted_run text tail follows)) (λ other. moves st.InQuoted st.InQuoted byte ((doubled text ++ 34 ∷ []) ++ tail) refl (rw other refl) ∙ quoted_run text tail follows)

  quoted : (text tail : List ℕ) → Follows tail → strays_from d st.StartField ((34 ∷ (doubled text ++ 34 ∷ [])) ++ tail) ≡ false
  unfolding state_after goes_past
  quoted text tail follows = quoted_run text tail follows

  one_field : (field tail : List ℕ) → IsRfcField d field → Follows tail → strays_from d st.StartField (field ++ tail) ≡ false
  one_field field tail is follows = ⊎_elim
      (λ (are : All IsData field). bare field tail are follows)
      (λ (text : (text : List ℕ) × (field ≡ 34 ∷ (doubled text ++ 34 ∷ []))).
      subst (λ (l : List ℕ). strays_from d st.StartField (l ++ tail) ≡ false) (sym text.1) (quoted text.0 tail follows))
      is

  fields : (all : List (List ℕ)) → All (IsRfcField d) all → strays_from d st.StartField (delimited d all) ≡ false
  unfolding state_after goes_past
  fields [] are = refl
  fields (field ∷ []) are =
      subst (λ (l : List ℕ). strays_from d st.StartField l ≡ false) (append-nil field) (one_field field [] (All-head (IsRfcField d) field [] are) tt)
  fields (field ∷ next ∷ others) are =
      one_field field (d ∷ delimited d (next ∷ others)) (All-head (IsRfcField d) field (next ∷ others) are)
      (refl, fields (next ∷ others) (All-tail (IsRfcField d) field (next ∷ others) are))

pub rfc_strays : RfcRecordsHaveNoStray
rfc_strays d all can are = from_field can (delimited d all) ∙ fields d can all are
