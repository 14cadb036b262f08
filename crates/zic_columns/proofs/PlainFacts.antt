-- The fields of a record, after one more.
use Rattle.std.proofs.Common.{◌≡◌, ◌≢◌, ℕ, ◌+◌, ◌-◌, ◌^◌, ◌<◌, ◌≤◌, List, [], ◌∷◌, ◌++◌, length, length-append, Option, Some, None, MatchOption, sym, ap, subst, ◌∙◌, ⊎_elim, arith}
use Rattle.std.specs.Prelude.{slice_index_or}
use Rattle.std.proofs.Math.Seq.{get_or-append_seam}
use Rattle.std.proofs.lemmas.Bool.{cases_eq, cases_lt}
use Rattle.std.proofs.lemmas.List.{get_or_append_left, get_or_past}
use Rattle.zic_columns.specs.Record.{IsWithin, bytes_at, wanted_text}
use Rattle.zic_columns.specs.declared.fields.Span.{Span}

module _ (texts : List (List ℕ)) (text : List ℕ) (index : ℕ) where
  pub last_text : index ≡ length texts → wanted_text (texts ++ text ∷ []) (Some index) ≡ text
  last_text is = ap (λ (n : ℕ). slice_index_or (texts ++ text ∷ []) n []) is ∙ get_or-append_seam texts text [] []

  pub other_text : index ≢ length texts → wanted_text (texts ++ text ∷ []) (Some index) ≡ wanted_text texts (Some index)
  other_text other = ⊎_elim
      (λ (before : index < length texts). get_or_append_left texts (text ∷ []) [] index before)
      (λ (past : length texts ≤ index).
      get_or_past (texts ++ text ∷ []) index [] (omega (arith, length-append texts (text ∷ []), past, other)) ∙ sym (get_or_past texts index [] past))
      (cases_lt index (length texts))

-- where the field is the one sought, or another was kept
module _ (piece : List ℕ) (texts : List (List ℕ)) (count : ℕ) (counted : count ≡ length texts) (field unchanged : Span) (field_in : IsWithin piece field)
    (unchanged_in : IsWithin piece unchanged) (result : Span) where
  abbrev IsText : Option ℕ → Type 0
  IsText index = IsWithin piece result × (bytes_at piece result ≡ wanted_text (texts ++ bytes_at piece field ∷ []) index)

  pub picked : (index : ℕ) → (index ≡ count → result ≡ field) → (index ≢ count → result ≡ unchanged) → bytes_at piece unchanged ≡ wanted_text texts (Some index) → IsText (Some index)
  picked index takes keeps was = ⊎_elim
      (λ (same : index ≡ count).
      (subst (IsWithin piece) (sym (takes same)) field_in, ap (bytes_at piece) (takes same) ∙ sym (last_text texts (bytes_at piece field) index (same ∙ counted))))
      (λ (other : index ≢ count). (
        subst (IsWithin piece) (sym (keeps other)) unchanged_in,
        ap (bytes_at piece) (keeps other) ∙ was ∙ sym (other_text texts (bytes_at piece field) index (λ is. other (is ∙ sym counted))),
      ))
      (cases_eq index count)

  pub picked_zone : (wanted : Option ℕ) (index : ℕ) → MatchOption wanted (index ≡ 2 ^ 64 - 1) (λ i. index ≡ i) → count + 1 < 2 ^ 64
      → (index ≡ count → result ≡ field) → (index ≢ count → result ≡ unchanged) → bytes_at piece unchanged ≡ wanted_text texts wanted → IsText wanted
  picked_zone None index none few takes keeps was =
      let other : index ≢ count = λ is. omega (arith, is, none, few) in
      (subst (IsWithin piece) (sym (keeps other)) unchanged_in, ap (bytes_at piece) (keeps other) ∙ was)
  picked_zone (Some i) index is few takes keeps was = picked i (λ same. takes (is ∙ same)) (λ other. keeps (λ same. other (sym is ∙ same))) was
