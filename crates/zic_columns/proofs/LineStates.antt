-- How a CSV reader's machine reads a line.
use Rattle.std.proofs.Common.{◌≡◌, ◌≢◌, ◌==◌, ◌+◌, ◌<◌, ◌≤◌, ℕ, suc, true, false, cond, List, [], ◌∷◌, ◌++◌, length, drop, drop-cons, get_or, refl, sym, ap, ap₂, ◌∙◌, append_assoc, subst, ⊎_elim, arith}
use Rattle.std.proofs.lemmas.Bool.{both_ways, cases_Bool, cond_both, eqb-true, ne_eqb}
use Rattle.std.proofs.lemmas.List.{append-nil, drop_all}
use Rattle.std.proofs.lemmas.List.Elements.{All-head, All-tail}
use Rattle.csv.specs.Machine.{after_end, ends_at_end, ends_with, in_field, is_end, start_field, start_record, step}
use Rattle.csv.specs.declared.parser.Action.{Action}
use Rattle.csv.specs.declared.parser.Action.TheVariants as act
use Rattle.csv.specs.declared.parser.State.{State}
use Rattle.csv.specs.declared.parser.State.TheVariants as st
use Rattle.csv.specs.declared.parser.Terminator.TheVariants as term
use Rattle.zic_columns.specs.Column.{AreWholeRecords, CanDelimit, HasNoLineEnd, HasNoQuote, config_of, ends_line, state_after}
use Rattle.zic_columns.specs.Quotes.{is_open, is_quoted}
use Rattle.zic_columns.specs.Own.{own_from, own_texts}
use Rattle.zic_columns.specs.code.Machine.{state_at}
use Rattle.zic_columns.specs.declared.machine.Place.{Place}
use Rattle.zic_columns.specs.declared.machine.Place.TheVariants as place
use Rattle.zic_columns.proofs.CutLaw.{in_record, records_are_cut, stays}
use Rattle.zic_columns.proofs.OwnFacts.{own_before, whole_before}
use Rattle.zic_columns.proofs.OwnLens.{line_ends, own_last, own_more, own_then, starts}
use Rattle.zic_columns.proofs.SomeRecords.{step_before}
use Rattle.zic_columns.proofs.StepFacts.{end_other}

abbrev EndsNone : ℕ → Type 0
EndsNone byte = ends_line byte ≡ false

-- ---- a line that has a byte

no_quote : (byte : ℕ) → ends_line byte ≡ true → (byte == 34) ≡ false
no_quote byte ends = ne_eqb byte 34 (λ is. both_ways (ends_line 34) refl (subst (λ (b : ℕ). ends_line b ≡ true) is ends))

-- ---- without double quotes

abbrev IsOut : State × Action → Type 0
IsOut to = is_quoted to.0 ≡ false

after_out : (byte : ℕ) → is_quoted (after_end term.CRLF byte) ≡ false
after_out byte = cond_both (byte == 13) st.AfterCr st.StartRecord (λ s. is_quoted s ≡ false) (λ _. refl) (λ _. refl)

-- ---- whole records end with a line end

abbrev EndsBack : ℕ → State × Action → Type 0
EndsBack byte to = ends_at_end to.0 ≡ false → ends_line byte ≡ true

feed_ends : (byte : ℕ) → (byte == 10) ≡ true → ends_line byte ≡ true
feed_ends byte feed = subst (λ (b : ℕ). ends_line b ≡ true) (sym (eqb-true byte 10 feed)) refl

-- bytes with a last one, which ends a line
pub record EndsWithLine (bytes : List ℕ) : Type 0 where
  pub front : List ℕ
  pub end : ℕ
  pub parts : bytes ≡ front ++ end ∷ []
  pub ends : ends_line end ≡ true

pub not_quoted : (p : Place) → (p ≡ place.Quoted → ⊥) → is_quoted (state_at p) ≡ false
not_quoted place.Start other = refl
not_quoted place.Plain other = refl
not_quoted place.Quoted other = absurd (other refl)
not_quoted place.QuoteSeen other = refl

module _ {d : ℕ} (can : CanDelimit d) where
  -- a byte that ends no line ends no record
  pub goes : (s : State) (byte : ℕ) → in_record s ≡ true → ends_line byte ≡ false → is_end (step (config_of d) s byte).1 ≡ false
  goes s byte is within =
      ⊎_elim (λ yes. absurd (both_ways (ends_line byte) within (line_ends can s byte is yes))) (λ no. no) (cases_Bool (is_end (step (config_of d) s byte).1))

  -- a line that begins is read as a field that begins
  pub begun : (byte : ℕ) (line : List ℕ) → ends_line byte ≡ false → state_after (config_of d) st.StartRecord (byte ∷ line) ≡ state_after (config_of d) st.StartField (byte ∷ line)
  unfolding state_after
  begun byte line within = rw within refl

  -- within a line a reader stays in a record
  pub still_in : (s : State) (line : List ℕ) → in_record s ≡ true → HasNoLineEnd line → in_record (state_after (config_of d) s line) ≡ true
  unfolding state_after
  still_in s [] is none = is
  still_in s (byte ∷ line) is none =
      still_in (step (config_of d) s byte).0 line (stays can s byte is (goes s byte is (All-head EndsNone byte line none))) (All-tail EndsNone byte line none)

  -- and its bytes are the record's own
  own_line : (s : State) (own line tail : List ℕ) → in_record s ≡ true → HasNoLineEnd line
      → own_from (config_of d) s own (line ++ tail) ≡ own_from (config_of d) (state_after (config_of d) s line) (own ++ line) tail
  unfolding state_after
  own_line s own [] tail is none = ap (λ (o : List ℕ). own_from (config_of d) s o tail) (sym (append-nil own))
  own_line s own (byte ∷ line) tail is none =
      let here = goes s byte is (All-head EndsNone byte line none) in
      let to = (step (config_of d) s byte).0 in
      own_more can s byte own (line ++ tail) is here ∙ own_line to (own ++ byte ∷ []) line tail (stays can s byte is here) (All-tail EndsNone byte line none)
      ∙ ap (λ (o : List ℕ). own_from (config_of d) (state_after (config_of d) to line) o tail) (append_assoc own (byte ∷ []) line)

  -- a line end ends a record, but between double quotes
  closes : (s : State) (byte : ℕ) → in_record s ≡ true → is_quoted s ≡ false → ends_line byte ≡ true → is_end (step (config_of d) s byte).1 ≡ true
  closes st.StartRecord byte is out ends = absurd (cc is)
  closes st.StartField byte is out ends = rw (no_quote byte ends, end_other can byte ends, ends) refl
  closes st.InField byte is out ends = rw (end_other can byte ends, ends) refl
  closes st.InQuoted byte is out ends = absurd (cc out)
  closes st.AfterQuote byte is out ends = rw (no_quote byte ends, end_other can byte ends, ends) refl
  closes st.InEscape byte is out ends = absurd (cc out)
  closes st.InComment byte is out ends = absurd (cc is)
  closes st.AfterCr byte is out ends = absurd (cc is)

  in_line : (line : List ℕ) → 0 < length line → HasNoLineEnd line → in_record (state_after (config_of d) st.StartRecord line) ≡ true
  in_line [] some none = absurd (omega (arith, some))
  in_line (byte ∷ line) some none = ap in_record (begun byte line (All-head EndsNone byte line none)) ∙ still_in st.StartField (byte ∷ line) refl none

  own_of_line : (line tail : List ℕ) → 0 < length line → HasNoLineEnd line
      → own_texts d (line ++ tail) ≡ own_from (config_of d) (state_after (config_of d) st.StartRecord line) line tail
  own_of_line [] tail some none = absurd (omega (arith, some))
  own_of_line (byte ∷ line) tail some none =
      let within = All-head EndsNone byte line none in
      starts can byte (line ++ tail) within ∙ own_line st.StartField [] (byte ∷ line) tail refl none
      ∙ ap (λ (s : State). own_from (config_of d) s (byte ∷ line) tail) (sym (begun byte line within))

  -- a line without an end is a record's own bytes
  pub own_unended : (line : List ℕ) → 0 < length line → HasNoLineEnd line → own_texts d line ≡ line ∷ []
  own_unended line some none =
      ap (own_texts d) (sym (append-nil line)) ∙ own_of_line line [] some none ∙ own_last can (state_after (config_of d) st.StartRecord line) line (in_line line some none)

  state_more : (s : State) (line : List ℕ) (end : ℕ) → state_after (config_of d) s (line ++ end ∷ []) ≡ (step (config_of d) (state_after (config_of d) s line) end).0
  unfolding state_after
  state_more s [] end = refl
  state_more s (byte ∷ line) end = state_more (step (config_of d) s byte).0 line end

  same_state : (s : State) (line : List ℕ) → state_after (config_of d) s line ≡ state_after (config_of d) s line
  unfolding state_after
  same_state s [] = refl
  same_state s (byte ∷ line) = same_state (step (config_of d) s byte).0 line

  module _ (line : List ℕ) (end : ℕ) (some : 0 < length line) (none : HasNoLineEnd line) (closed : is_open d line ≡ false) (ends : ends_line end ≡ true) where
    abbrev last : State
    last = state_after (config_of d) st.StartRecord line

    closing : is_end (step (config_of d) last end).1 ≡ true
    closing = closes last end (in_line line some none) closed ends

    -- and so is one that is not open, with its end
    pub own_ended : (rest : List ℕ) → own_texts d (line ++ end ∷ rest) ≡ line ∷ own_texts d rest
    own_ended rest =
        own_of_line line (end ∷ rest) some none ∙ own_then can last end line rest closing
        ∙ ap (λ (t : List (List ℕ)). line ∷ t) (own_before can (step (config_of d) last end).0 rest (step_before d last end closing))

    -- which is a whole record
    pub whole_line : AreWholeRecords d (line ++ end ∷ [])
    whole_line = records_are_cut can (line ++ end ∷ []) (ap ends_at_end (state_more st.StartRecord line end ∙ ap (λ (s : State). (step (config_of d) s end).0) (same_state st.StartRecord line)) ∙ step_before d last end closing)

  field_out : (byte : ℕ) → IsOut (in_field (config_of d) byte)
  field_out byte = cond_both (byte == d) (st.StartField, act.EndField) (cond (ends_with term.CRLF byte) (after_end term.CRLF byte, act.EndRecord) (st.InField, act.Copy)) IsOut (λ _. refl)
      (λ _. cond_both (ends_with term.CRLF byte) (after_end term.CRLF byte, act.EndRecord) (st.InField, act.Copy) IsOut (λ _. after_out byte) (λ _. refl))

  start_out : (byte : ℕ) → byte ≢ 34 → IsOut (start_field (config_of d) byte)
  start_out byte plain = rw (ne_eqb byte 34 plain) (field_out byte)

  record_out : (byte : ℕ) → byte ≢ 34 → IsOut (start_record (config_of d) byte)
  record_out byte plain = cond_both (ends_with term.CRLF byte) (st.StartRecord, act.Skip) (start_field (config_of d) byte) IsOut (λ _. refl) (λ _. start_out byte plain)

  step_out : (s : State) (byte : ℕ) → is_quoted s ≡ false → byte ≢ 34 → IsOut (step (config_of d) s byte)
  step_out st.StartRecord byte out plain = record_out byte plain
  step_out st.StartField byte out plain = start_out byte plain
  step_out st.InField byte out plain = field_out byte
  step_out st.InQuoted byte out plain = absurd (cc out)
  step_out st.AfterQuote byte out plain = rw (ne_eqb byte 34 plain) (field_out byte)
  step_out st.InEscape byte out plain = absurd (cc out)
  step_out st.InComment byte out plain = cond_both (byte == 10) (st.StartRecord, act.Skip) (st.InComment, act.Skip) IsOut (λ _. refl) (λ _. refl)
  step_out st.AfterCr byte out plain = cond_both (byte == 10) (st.StartRecord, act.Skip) (start_record (config_of d) byte) IsOut (λ _. refl) (λ _. record_out byte plain)

  state_out : (s : State) (line : List ℕ) → is_quoted s ≡ false → HasNoQuote line → is_quoted (state_after (config_of d) s line) ≡ false
  unfolding state_after
  state_out s [] out plain = out
  state_out s (byte ∷ line) out plain =
      let P = λ (b : ℕ). b ≢ 34 in
      state_out (step (config_of d) s byte).0 line (step_out s byte out (All-head P byte line plain)) (All-tail P byte line plain)

  -- a line without a double quote is not open
  pub plain_closed : (line : List ℕ) → HasNoQuote line → is_open d line ≡ false
  plain_closed line plain = state_out st.StartRecord line refl plain

  field_back : (byte : ℕ) → EndsBack byte (in_field (config_of d) byte)
  field_back byte = cond_both (byte == d) (st.StartField, act.EndField) (cond (ends_with term.CRLF byte) (after_end term.CRLF byte, act.EndRecord) (st.InField, act.Copy)) (EndsBack byte)
      (λ _ no. absurd (cc no))
      (λ _. cond_both (ends_with term.CRLF byte) (after_end term.CRLF byte, act.EndRecord) (st.InField, act.Copy) (EndsBack byte) (λ yes _. yes) (λ _ no. absurd (cc no)))

  start_back : (byte : ℕ) → EndsBack byte (start_field (config_of d) byte)
  start_back byte = cond_both (byte == 34) (st.InQuoted, act.Skip) (in_field (config_of d) byte) (EndsBack byte) (λ _ no. absurd (cc no)) (λ _. field_back byte)

  record_back : (byte : ℕ) → EndsBack byte (start_record (config_of d) byte)
  record_back byte = cond_both (ends_with term.CRLF byte) (st.StartRecord, act.Skip) (start_field (config_of d) byte) (EndsBack byte) (λ yes _. yes) (λ _. start_back byte)

  step_back : (s : State) (byte : ℕ) → EndsBack byte (step (config_of d) s byte)
  step_back st.StartRecord byte = record_back byte
  step_back st.StartField byte = start_back byte
  step_back st.InField byte = field_back byte
  step_back st.InQuoted byte = cond_both (byte == 34) (st.AfterQuote, act.Skip) (st.InQuoted, act.Copy) (EndsBack byte) (λ _ no. absurd (cc no)) (λ _ no. absurd (cc no))
  step_back st.AfterQuote byte = cond_both (byte == 34) (st.InQuoted, act.Copy) (in_field (config_of d) byte) (EndsBack byte) (λ _ no. absurd (cc no)) (λ _. field_back byte)
  step_back st.InEscape byte = λ no. absurd (cc no)
  step_back st.InComment byte = cond_both (byte == 10) (st.StartRecord, act.Skip) (st.InComment, act.Skip) (EndsBack byte) (λ feed _. feed_ends byte feed) (λ _ no. absurd (cc no))
  step_back st.AfterCr byte = cond_both (byte == 10) (st.StartRecord, act.Skip) (start_record (config_of d) byte) (EndsBack byte) (λ feed _. feed_ends byte feed) (λ _. record_back byte)

  ends_from : (s : State) (byte : ℕ) (bytes : List ℕ) → ends_at_end (state_after (config_of d) s (byte ∷ bytes)) ≡ false → EndsWithLine (byte ∷ bytes)
  unfolding state_after
  ends_from s byte [] before = record { front = []; end = byte; parts = refl; ends = step_back s byte before }
  ends_from s byte (next ∷ bytes) before =
      let later = ends_from (step (config_of d) s byte).0 next bytes before in
      record { front = byte ∷ later.front; end = later.end; parts = ap (λ (b : List ℕ). byte ∷ b) later.parts; ends = later.ends }

  -- whole records are none, or end with a line end
  pub whole_ends : (bytes : List ℕ) → 0 < length bytes → AreWholeRecords d bytes → EndsWithLine bytes
  whole_ends [] some whole = absurd (omega (arith, some))
  whole_ends (byte ∷ bytes) some whole = ends_from st.StartRecord byte bytes (whole_before can (byte ∷ bytes) whole)

  -- ---- the walk over a line

  -- a line ends between double quotes where a field that begins there does
  pub open_from_start : (line : List ℕ) → HasNoLineEnd line → is_open d line ≡ is_quoted (state_after (config_of d) st.StartField line)
  unfolding state_after
  open_from_start [] none = refl
  open_from_start (byte ∷ line) none = rw (All-head EndsNone byte line none) refl

  -- after one byte more
  pub next_state : (s t : State) (line : List ℕ) (at : ℕ) → at < length line → (step (config_of d) s (get_or line at 0)).0 ≡ t → state_after (config_of d) s (drop at line) ≡ state_after (config_of d) t (drop (at + 1) line)
  unfolding state_after
  next_state s t line at lt to =
      let one : suc at ≡ at + 1 = omega arith in
      ap (state_after (config_of d) s) (drop-cons line at 0 lt) ∙ ap₂ (λ (u : State) (n : ℕ). state_after (config_of d) u (drop n line)) to one

  pub last_state : (s : State) (line : List ℕ) (at : ℕ) → length line ≤ at → state_after (config_of d) s (drop at line) ≡ s
  unfolding state_after
  last_state s line at end = ap (state_after (config_of d) s) (drop_all at line end)
