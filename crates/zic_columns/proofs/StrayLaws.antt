-- Laws of stray double quotes.
use Rattle.std.proofs.Common.{◌≡◌, ◌≢◌, ◌==◌, ℕ, false, cond, List, [], ◌∷◌, refl}
use Rattle.std.proofs.lemmas.Bool.{cond_both, ne_eqb}
use Rattle.std.proofs.lemmas.List.Elements.{All-head, All-tail}
use Rattle.csv.specs.Machine.{after_end, ends_with, in_field, start_field, start_record, step}
use Rattle.csv.specs.declared.parser.Action.{Action}
use Rattle.csv.specs.declared.parser.Action.TheVariants as act
use Rattle.csv.specs.declared.parser.State.{State}
use Rattle.csv.specs.declared.parser.State.TheVariants as st
use Rattle.csv.specs.declared.parser.Terminator.TheVariants as term
use Rattle.zic_columns.specs.Column.{CanDelimit, HasNoQuote, config_of}
use Rattle.zic_columns.specs.Quotes.{goes_past, has_stray, is_after_quote}
use Rattle.zic_columns.proofs.LineStates.{plain_closed}

-- ---- without double quotes

abbrev IsBefore : State × Action → Type 0
IsBefore to = is_after_quote to.0 ≡ false

end_before : (byte : ℕ) → is_after_quote (after_end term.CRLF byte) ≡ false
end_before byte = cond_both (byte == 13) st.AfterCr st.StartRecord (λ s. is_after_quote s ≡ false) (λ _. refl) (λ _. refl)

module _ {d : ℕ} (can : CanDelimit d) where
  field_before : (byte : ℕ) → IsBefore (in_field (config_of d) byte)
  field_before byte = cond_both (byte == d) (st.StartField, act.EndField) (cond (ends_with term.CRLF byte) (after_end term.CRLF byte, act.EndRecord) (st.InField, act.Copy)) IsBefore (λ _. refl)
      (λ _. cond_both (ends_with term.CRLF byte) (after_end term.CRLF byte, act.EndRecord) (st.InField, act.Copy) IsBefore (λ _. end_before byte) (λ _. refl))

  start_before : (byte : ℕ) → IsBefore (start_field (config_of d) byte)
  start_before byte = cond_both (byte == 34) (st.InQuoted, act.Skip) (in_field (config_of d) byte) IsBefore (λ _. refl) (λ _. field_before byte)

  record_before : (byte : ℕ) → IsBefore (start_record (config_of d) byte)
  record_before byte = cond_both (ends_with term.CRLF byte) (st.StartRecord, act.Skip) (start_field (config_of d) byte) IsBefore (λ _. refl) (λ _. start_before byte)

  step_before : (s : State) (byte : ℕ) → byte ≢ 34 → IsBefore (step (config_of d) s byte)
  step_before st.StartRecord byte plain = record_before byte
  step_before st.StartField byte plain = start_before byte
  step_before st.InField byte plain = field_before byte
  step_before st.InQuoted byte plain = rw (ne_eqb byte 34 plain) refl
  step_before st.AfterQuote byte plain = cond_both (byte == 34) (st.InQuoted, act.Copy) (in_field (config_of d) byte) IsBefore (λ _. refl) (λ _. field_before byte)
  step_before st.InEscape byte plain = refl
  step_before st.InComment byte plain = cond_both (byte == 10) (st.StartRecord, act.Skip) (st.InComment, act.Skip) IsBefore (λ _. refl) (λ _. refl)
  step_before st.AfterCr byte plain = cond_both (byte == 10) (st.StartRecord, act.Skip) (start_record (config_of d) byte) IsBefore (λ _. refl) (λ _. record_before byte)

  past_none : (s : State) (bytes : List ℕ) → is_after_quote s ≡ false → HasNoQuote bytes → goes_past d s bytes ≡ false
  unfolding goes_past
  past_none s [] before plain = refl
  past_none s (byte ∷ bytes) before plain =
      let P = λ (b : ℕ). b ≢ 34 in
      rw before (past_none (step (config_of d) s byte).0 bytes (step_before s byte (All-head P byte bytes plain)) (All-tail P byte bytes plain))

  pub plain_strays : (own : List ℕ) → HasNoQuote own → has_stray d own ≡ false
  plain_strays own plain = rw (plain_closed can own plain, past_none st.StartRecord own refl plain) refl
