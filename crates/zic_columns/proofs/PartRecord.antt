-- A record whose first bytes are buffered: its own bytes are these, and perhaps more.
use Rattle.std.proofs.Common.{◌≡◌, ◌+◌, ◌<◌, ◌≤◌, ℕ, suc, true, false, List, [], ◌∷◌, ◌++◌, length, length-append, map, Option, Some, None, refl, sym, ap, ◌∙◌, append_assoc, subst, ⊎_elim, arith}
use Rattle.std.specs.Io.KnownBytes.{prepend_known}
use Rattle.std.proofs.lemmas.Bool.{cases_Bool}
use Rattle.std.proofs.lemmas.List.Elements.{All-append}
use Rattle.csv.specs.Machine.{is_end, next_record, step}
use Rattle.csv.specs.declared.parser.State.{State}
use Rattle.csv.specs.declared.parser.State.TheVariants as st
use Rattle.zic_layouts.specs.declared.layout.Records.{Records}
use Rattle.zic_layouts.specs.declared.layout.Records.TheVariants as by
use Rattle.zic_columns.specs.Column.{CanDelimit, HasNoLineEnd, config_of, ends_line, lines_of}
use Rattle.zic_columns.specs.Lines.{records_by, texts_by}
use Rattle.zic_columns.specs.Own.{CsvRecord, own_from, own_texts}
use Rattle.zic_columns.specs.Round.{BeginsTooLong, IsNextTooLong, may_have}
use Rattle.zic_columns.specs.code.Buffered.{AreBegun, UnendedBy}
use Rattle.zic_columns.specs.code.Machine.{BeginsRecord, ReadsTo, state_at}
use Rattle.zic_columns.specs.declared.machine.Place.{Place}
use Rattle.zic_columns.proofs.ByMode.{owns_by}
use Rattle.zic_columns.proofs.ClosedLines.{first_line, line_alone, lines_parts}
use Rattle.zic_columns.proofs.CutLaw.{in_record, stays}
use Rattle.zic_columns.proofs.OwnFacts.{took}
use Rattle.zic_columns.proofs.OwnLens.{from_start, quote_last, next_ends, next_goes, own_last, own_more, own_then, same_read}

-- there is a text, and the first has so many bytes or more
abbrev pub HasFirst : ℕ → List (List ℕ) → Type 0
HasFirst n [] = ⊥
HasFirst n (text ∷ texts) = n ≤ length text

fewer : (m n : ℕ) (texts : List (List ℕ)) → m ≤ n → HasFirst n texts → HasFirst m texts
fewer m n [] le first = first
fewer m n (text ∷ texts) le first = omega (arith, le, first)

same_first : (n : ℕ) (texts others : List (List ℕ)) → texts ≡ others → HasFirst n others → HasFirst n texts
same_first n texts others same first = subst (HasFirst n) (sym same) first

-- ---- more bytes than a record may have

too_many : (most : Option ℕ) (m n : ℕ) → m ≤ n → may_have most m ≡ false → may_have most n ≡ false
too_many None m n le over = over
too_many (Some most) m n le over = grind (arith, le, over)

-- no bytes are never too many
pub no_bytes : (most : Option ℕ) → may_have most 0 ≡ false → ⊥
no_bytes None over = cc over
no_bytes (Some most) over = grind (arith, over)

first_too_long : (most : Option ℕ) (n : ℕ) (row_records : List CsvRecord) → may_have most n ≡ false → HasFirst n (map (λ (w : CsvRecord). w.own) row_records) → BeginsTooLong most row_records
first_too_long most n [] over first = first
first_too_long most n (w ∷ ws) over first = too_many most n (length w.own) first over

lines_begun : (bytes more : List ℕ) → HasNoLineEnd bytes → 0 < length bytes → HasFirst (length bytes) (lines_of (bytes ++ more))
lines_begun bytes more none some =
    let first = first_line more in
    let line = bytes ++ first.line in
    let size : length bytes ≤ length line = omega (arith, length-append bytes first.line) in
    let alone : lines_of line ≡ line ∷ [] = line_alone line (omega (arith, some, size)) (All-append (λ byte. ends_line byte ≡ false) bytes first.line none first.within) in
    ⊎_elim
    (λ (all : more ≡ first.line). same_first (length bytes) (lines_of (bytes ++ more)) (line ∷ []) (ap (λ (b : List ℕ). lines_of (bytes ++ b)) all ∙ alone) size)
    (λ (ended : (end : ℕ) × (rest : List ℕ) × (ends_line end ≡ true) × (more ≡ first.line ++ end ∷ rest)).
    let parts : bytes ++ more ≡ line ++ ended.0 ∷ ended.1 = ap (λ (b : List ℕ). bytes ++ b) ended.3 ∙ sym (append_assoc bytes first.line (ended.0 ∷ ended.1)) in
    same_first (length bytes) (lines_of (bytes ++ more)) ((line ∷ []) ++ lines_of ended.1)
    (ap lines_of parts ∙ lines_parts line ended.0 ended.1 ended.2 ∙ ap (λ (l : List (List ℕ)). l ++ lines_of ended.1) alone) size)
    first.then

module _ {d : ℕ} (can : CanDelimit d) where
  -- ---- by the machine

  -- within a record
  own_begins : (s : State) (own more : List ℕ) → in_record s ≡ true → HasFirst (length own) (own_from (config_of d) s own more)
  own_begins s own [] is = same_first (length own) (own_from (config_of d) s own []) (own ∷ []) (own_last can s own is) (omega arith)
  own_begins s own (byte ∷ more) is =
      let to = step (config_of d) s byte in
      let texts = own_from (config_of d) s own (byte ∷ more) in
      ⊎_elim
      (λ (ends : is_end to.1 ≡ true). same_first (length own) texts _ (own_then can s byte own more ends) (omega arith))
      (λ (goes : is_end to.1 ≡ false).
      let longer = own ++ byte ∷ [] in
      let later = own_begins to.0 longer more (stays can s byte is goes) in
      same_first (length own) texts _ (own_more can s byte own more is goes)
      (fewer (length own) (length longer) (own_from (config_of d) to.0 longer more) (omega (arith, length-append own (byte ∷ []))) later))
      (cases_Bool (is_end to.1))

  -- after bytes that end no record
  own_read : (s : State) (own : List ℕ) (fields all : List (List ℕ)) (field a : List ℕ) (t : State) (more : List ℕ) → in_record s ≡ true
      → next_record (config_of d) s fields field (a ++ 34 ∷ []) ≡ took all t ([]) → HasFirst (length own + length a) (own_from (config_of d) s own (a ++ more))
  own_read s own fields all field [] t more is reads = fewer (length own + 0) (length own) (own_from (config_of d) s own more) (omega arith) (own_begins s own more is)
  own_read s own fields all field (byte ∷ a) t more is reads =
      let to = step (config_of d) s byte in
      ⊎_elim
      (λ (ends : is_end to.1 ≡ true).
      let same = same_read _ all to.0 t (a ++ 34 ∷ []) [] (sym (next_ends can s byte fields field (a ++ 34 ∷ []) ends) ∙ reads) in
      absurd (omega (arith, ap length same.1, length-append a (34 ∷ []))))
      (λ (goes : is_end to.1 ≡ false).
      let then = sym (next_goes can s byte fields field (a ++ 34 ∷ []) goes) ∙ reads in
      let longer = own ++ byte ∷ [] in
      let later = own_read to.0 longer _ all _ a t more (stays can s byte is goes) then in
      same_first (length own + suc (length a)) (own_from (config_of d) s own (byte ∷ (a ++ more))) _ (own_more can s byte own (a ++ more) is goes)
      (fewer (length own + suc (length a)) (length longer + length a) (own_from (config_of d) to.0 longer (a ++ more)) (omega (arith, length-append own (byte ∷ []))) later))
      (cases_Bool (is_end to.1))

  csv_begun : (bytes more : List ℕ) → AreBegun d bytes → 0 < length bytes → HasFirst (length bytes) (own_texts d (bytes ++ more))
  csv_begun bytes more begun some = ⊎_elim
      (λ (none : bytes ≡ []). absurd (omega (arith, some, ap length none)))
      (λ (first : (place : Place) × BeginsRecord bytes × ReadsTo d st.StartField bytes (state_at place)).
      let r = first.2 [] [] in
      let last = quote_last can first.0 r.0 r.1 in
      same_first (length bytes) (own_texts d (bytes ++ more)) _ (from_start can bytes more first.1)
      (fewer (length bytes) (0 + length bytes) (own_from (config_of d) st.StartField [] (bytes ++ more)) (omega arith)
      (own_read st.StartField [] [] last.0 [] bytes st.StartRecord more refl (r.2 (34 ∷ []) ∙ last.1))))
      begun

  -- ---- where each line is a record

  texts_begun : (mode : Records) (bytes more : List ℕ) → UnendedBy mode d bytes → 0 < length bytes → HasFirst (length bytes) (texts_by mode d (bytes ++ more))
  texts_begun by.Csv bytes more begun some = csv_begun bytes more begun some
  texts_begun by.Lines bytes more none some = lines_begun bytes more none some

  -- the next record has more bytes than it may have, where the buffered bytes are more and no record ends in them
  pub too_long : (most : Option ℕ) (mode : Records) (held : List ℕ) (come : Option (List ℕ)) → UnendedBy mode d held → may_have most (length held) ≡ false → IsNextTooLong most mode d (prepend_known held come)
  too_long most mode held None unended over = tt
  too_long most mode held (Some more) unended over =
      let some : 0 < length held = by_len held over in
      first_too_long most (length held) (records_by mode d (held ++ more)) over
      (subst (HasFirst (length held)) (sym (owns_by d mode (held ++ more))) (texts_begun mode held more unended some))
    where
      by_len : (bytes : List ℕ) → may_have most (length bytes) ≡ false → 0 < length bytes
      by_len [] over = absurd (no_bytes most over)
      by_len (byte ∷ bytes) over = omega arith
