-- The own bytes of a record, by themselves, are that record alone.
use Rattle.std.proofs.Common.{◌≡◌, ◌==◌, ◌+◌, ◌<◌, ℕ, zero, suc, true, false, All, List, [], ◌∷◌, ◌++◌, length, map, take, refl, sym, ap, ◌∙◌, subst, ⊎_elim, append_assoc, arith}
use Rattle.std.proofs.lemmas.Bool.{both_ways, cases_Bool}
use Rattle.std.proofs.lemmas.List.{append-nil}
use Rattle.std.proofs.lemmas.List.Elements.{All-cons, All-head, All-nil}
use Rattle.csv.specs.Machine.{field_after, fields_after, is_end, next_record, step}
use Rattle.csv.specs.declared.parser.Action.{Action}
use Rattle.csv.specs.declared.parser.Action.TheVariants as act
use Rattle.csv.specs.declared.parser.State.{State}
use Rattle.csv.specs.declared.parser.State.TheVariants as st
use Rattle.zic_columns.specs.Column.{CanDelimit, column_records, config_of, ends_line}
use Rattle.zic_columns.specs.Ends.{BeginsWithin}
use Rattle.zic_columns.specs.Own.{CsvRecord, paired, first_text, own_from, own_texts, csv_records}
use Rattle.zic_columns.specs.Raw.{raw_fields}
use Rattle.zic_columns.specs.Record.{first_fields, own_record}
use Rattle.zic_columns.specs.code.Machine.{BeginsRecord}
use Rattle.zic_columns.proofs.CutLaw.{in_record, stays}
use Rattle.zic_columns.proofs.MachineFacts as Machine
use Rattle.zic_columns.proofs.OwnFacts.{own_before, took}
use Rattle.zic_columns.proofs.OwnLens.{in_end, line_ends, next_ends, next_goes, own_end, own_last, own_more, own_nil, own_then, starts}
use Rattle.zic_columns.proofs.RawFacts.{raw_begins, raw_counted}
use Rattle.zic_columns.proofs.SomeRecords.{Leaves, are_read, column_records-end, leaves, only}
use Rattle.zic_columns.proofs.StepFacts.{records-cons, records-nil}

end_fields : (a : Action) (fields : List (List ℕ)) (field : List ℕ) → is_end a ≡ true → fields_after a fields field ≡ fields ++ field ∷ []
end_fields act.EndRecord fields field ends = refl
end_fields act.EndField fields field ends = absurd (cc ends)
end_fields act.Copy fields field ends = absurd (cc ends)
end_fields act.Skip fields field ends = absurd (cc ends)

module _ {d : ℕ} (can : CanDelimit d) where
  -- ---- the rest of a record

  -- The machine reads all these bytes, which are the rest of one record.
  abbrev ReadsAll : State → List (List ℕ) → List ℕ → List ℕ → Type 0
  ReadsAll s fields field bytes = (all : List (List ℕ)) × (next_record (config_of d) s fields field bytes ≡ took all st.StartRecord [])

  field_letter : (fields : List (List ℕ)) (field : List ℕ) → ReadsAll st.InField fields field (120 ∷ [])
  unfolding next_record
  field_letter fields field = ⊎_elim
      (λ (yes : (120 == d) ≡ true). ((fields ++ field ∷ []) ++ [] ∷ [], rw yes refl))
      (λ (no : (120 == d) ≡ false). (fields ++ (field ++ 120 ∷ []) ∷ [], rw no refl))
      (cases_Bool (120 == d))

  read_letter : (s : State) (fields : List (List ℕ)) (field : List ℕ) → in_record s ≡ true → ReadsAll s fields field (120 ∷ [])
  unfolding next_record
  read_letter st.StartRecord fields field is = absurd (cc is)
  read_letter st.AfterCr fields field is = absurd (cc is)
  read_letter st.StartField fields field is = field_letter fields field
  read_letter st.InField fields field is = field_letter fields field
  read_letter st.InQuoted fields field is = (fields ++ (field ++ 120 ∷ []) ∷ [], refl)
  read_letter st.AfterQuote fields field is = field_letter fields field
  read_letter st.InEscape fields field is = (fields ++ (field ++ 120 ∷ []) ∷ [], refl)
  read_letter st.InComment fields field is = absurd (cc is)

  -- The machine, in a record, reads the bytes up to an end of its own bytes, which end the record too where nothing follows. Where a letter
  -- follows, it is of the record.
  pub record IsRead (s : State) (fields : List (List ℕ)) (field own bytes : List ℕ) : Type 0 where
    pub front : List ℕ
    pub all : List (List ℕ)
    pub after : State
    pub rest : List ℕ
    pub owns : own_from (config_of d) s own bytes ≡ (own ++ front) ∷ own_from (config_of d) after [] rest
    pub reads : next_record (config_of d) s fields field bytes ≡ took all after rest
    pub alone : next_record (config_of d) s fields field front ≡ took all st.StartRecord []
    pub single : own_from (config_of d) s own front ≡ (own ++ front) ∷ []
    pub more : ReadsAll s fields field (front ++ 120 ∷ [])

  read_last : (s : State) (fields : List (List ℕ)) (field : List ℕ) → in_record s ≡ true
      → next_record (config_of d) s fields field [] ≡ took (fields ++ field ∷ []) st.StartRecord []
  unfolding next_record
  read_last s fields field is = rw (in_end s is) refl

  owns_none : (s : State) (own : List ℕ) → in_record s ≡ true → own_from (config_of d) s own [] ≡ (own ++ []) ∷ []
  owns_none s own is = own_last can s own is ∙ ap (λ (b : List ℕ). b ∷ []) (sym (append-nil own))

  pub read_on : (s : State) (fields : List (List ℕ)) (field own bytes : List ℕ) → in_record s ≡ true → IsRead s fields field own bytes
  read_on s fields field own [] is = record {
    front = [];
    all = fields ++ field ∷ [];
    after = st.StartRecord;
    rest = [];
    owns = own_last can s own is ∙ ap (λ (b : List ℕ). b ∷ []) (sym (append-nil own)) ∙ ap (λ (t : List (List ℕ)). (own ++ []) ∷ t) (sym (own_nil can));
    reads = read_last s fields field is;
    alone = read_last s fields field is;
    single = owns_none s own is;
    more = read_letter s fields field is;
  }
  read_on s fields field own (byte ∷ bytes) is =
      let to = step (config_of d) s byte in
      ⊎_elim
      (λ (ends : is_end to.1 ≡ true). record {
        front = [];
        all = fields ++ field ∷ [];
        after = to.0;
        rest = bytes;
        owns = own_then can s byte own bytes ends ∙ ap (λ (b : List ℕ). b ∷ own_from (config_of d) to.0 [] bytes) (sym (append-nil own));
        reads = next_ends can s byte fields field bytes ends ∙ ap (λ (f : List (List ℕ)). took f to.0 bytes) (end_fields to.1 fields field ends);
        alone = read_last s fields field is;
        single = owns_none s own is;
        more = read_letter s fields field is;
      })
      (λ (goes : is_end to.1 ≡ false).
      let later = read_on to.0 (fields_after to.1 fields field) (field_after to.1 byte field) (own ++ byte ∷ []) bytes (stays can s byte is goes) in
      record {
        front = byte ∷ later.front;
        all = later.all;
        after = later.after;
        rest = later.rest;
        owns = own_more can s byte own bytes is goes ∙ later.owns
            ∙ ap (λ (b : List ℕ). b ∷ own_from (config_of d) later.after [] later.rest) (append_assoc own (byte ∷ []) later.front);
        reads = next_goes can s byte fields field bytes goes ∙ later.reads;
        alone = next_goes can s byte fields field later.front goes ∙ later.alone;
        single = own_more can s byte own later.front is goes ∙ later.single ∙ ap (λ (b : List ℕ). b ∷ []) (append_assoc own (byte ∷ []) later.front);
        more = (later.more.0, next_goes can s byte fields field (later.front ++ 120 ∷ []) goes ∙ later.more.1);
      })
      (cases_Bool (is_end to.1))

  -- ---- a whole record

  abbrev IsTrimmed : List ℕ → Type 0
  IsTrimmed own = BeginsWithin own × (length (column_records d (own ++ 120 ∷ [])) ≡ 1)

  -- the first record has these own bytes, which are that record alone and have no line end around them, and the rest have the others
  pub record IsFirstOwn (bytes own rest : List ℕ) : Type 0 where
    pub fields : List (List ℕ)
    pub owns : own_texts d bytes ≡ own ∷ own_texts d rest
    pub reads : column_records d bytes ≡ fields ∷ column_records d rest
    pub alone : column_records d own ≡ fields ∷ []
    pub single : own_texts d own ≡ own ∷ []
    pub trimmed : IsTrimmed own
    pub counted : length (raw_fields d own) ≡ length fields

  read_first : (byte : ℕ) (bytes : List ℕ) → ends_line byte ≡ false
      → (own : List ℕ) × (rest : List ℕ) × (length rest < length (byte ∷ bytes)) × IsFirstOwn (byte ∷ bytes) own rest
  read_first byte bytes within =
      let s = st.StartField in
      let to = step (config_of d) s byte in
      let goes : is_end to.1 ≡ false = ⊎_elim (λ yes. absurd (both_ways (ends_line byte) within (line_ends can s byte refl yes))) (λ no. no) (cases_Bool (is_end to.1)) in
      let later = read_on to.0 (fields_after to.1 [] []) (field_after to.1 byte []) (byte ∷ []) bytes (stays can s byte refl goes) in
      let own = byte ∷ later.front in
      let reads : next_record (config_of d) st.StartRecord [] [] (byte ∷ bytes) ≡ took later.all later.after later.rest =
      Machine.starts can byte bytes [] [] within ∙ next_goes can s byte [] [] bytes goes ∙ later.reads in
      let alone : next_record (config_of d) st.StartRecord [] [] own ≡ took later.all st.StartRecord [] =
      Machine.starts can byte later.front [] [] within ∙ next_goes can s byte [] [] later.front goes ∙ later.alone in
      let more : next_record (config_of d) st.StartRecord [] [] (own ++ 120 ∷ []) ≡ took later.more.0 st.StartRecord [] =
      Machine.starts can byte (later.front ++ 120 ∷ []) [] [] within ∙ next_goes can s byte [] [] (later.front ++ 120 ∷ []) goes ∙ later.more.1 in
      let left : Leaves (length (byte ∷ bytes)) (took later.all later.after later.rest) = subst (Leaves (length (byte ∷ bytes))) reads (leaves d st.StartRecord [] [] (byte ∷ bytes)) in
      let others = column_records d later.rest in
      let begins : BeginsRecord own = record { some = omega arith; begins = within } in
      let counted = raw_counted can s own [] later.all later.more.0 [] [] st.StartRecord st.StartRecord [] refl
      (next_goes can s byte [] [] later.front goes ∙ later.alone) (next_goes can s byte [] [] (later.front ++ 120 ∷ []) goes ∙ later.more.1) in (
        own,
        later.rest,
        omega (arith, left.1),
        record {
          fields = later.all;
          owns = starts can byte bytes within ∙ own_more can s byte [] bytes refl goes ∙ later.owns ∙ ap (λ (t : List (List ℕ)). own ∷ t) (own_before can later.after later.rest left.0);
          reads = only d (byte ∷ bytes) (later.all ∷ others)
              (records-cons d st.StartRecord later.after (byte ∷ bytes) later.rest later.all others reads (Machine.before_record can later.after later.rest others left.0 (are_read d later.rest)));
          alone = only d own (later.all ∷ []) (records-cons d st.StartRecord st.StartRecord own [] later.all [] alone (records-nil d));
          single = starts can byte later.front within ∙ own_more can s byte [] later.front refl goes ∙ later.single;
          trimmed = (within, ap length (only d (own ++ 120 ∷ []) (later.more.0 ∷ []) (records-cons d st.StartRecord st.StartRecord (own ++ 120 ∷ []) [] later.more.0 [] more (records-nil d))));
          counted = omega (arith, ap length (raw_begins can own begins), counted);
        },
      )

  -- ---- all records

  abbrev IsSingle : List ℕ → Type 0
  IsSingle own = own_texts d own ≡ own ∷ []

  abbrev IsAlone : CsvRecord → Type 0
  IsAlone w = column_records d w.own ≡ w.fields ∷ []

  abbrev IsCounted : CsvRecord → Type 0
  IsCounted w = length (raw_fields d w.own) ≡ length w.fields

  record AreAlone (bytes : List ℕ) : Type 0 where
    pub counted : All IsCounted (csv_records d bytes)
    pub each : All IsAlone (csv_records d bytes)
    pub same : csv_records d bytes ≡ map (own_record d) (own_texts d bytes)
    pub trimmed : All IsTrimmed (own_texts d bytes)
    pub single : All IsSingle (own_texts d bytes)

  wholes_first : (bytes own rest : List ℕ) (is : IsFirstOwn bytes own rest) → csv_records d bytes ≡ record { own = own; fields = is.fields } ∷ csv_records d rest
  wholes_first bytes own rest is =
      ap (λ (t : List (List ℕ)). paired t (column_records d bytes)) is.owns ∙ ap (paired (own ∷ own_texts d rest)) is.reads

  alone_first : (bytes own rest : List ℕ) → IsFirstOwn bytes own rest → AreAlone rest → AreAlone bytes
  alone_first bytes own rest is later =
      let first : CsvRecord = record { own = own; fields = is.fields } in
      let all = wholes_first bytes own rest is in
      record {
        counted = subst (All IsCounted) (sym all) (All-cons IsCounted first (csv_records d rest) is.counted later.counted);
        each = subst (All IsAlone) (sym all) (All-cons IsAlone first (csv_records d rest) is.alone later.each);
        same = all ∙ ap (λ (w : List CsvRecord). first ∷ w) later.same
            ∙ ap (λ (r : List (List (List ℕ))). record { own = own; fields = first_fields r } ∷ map (own_record d) (own_texts d rest)) (sym is.alone)
            ∙ ap (map (own_record d)) (sym is.owns);
        trimmed = subst (All IsTrimmed) (sym is.owns) (All-cons IsTrimmed own (own_texts d rest) is.trimmed later.trimmed);
        single = subst (All IsSingle) (sym is.owns) (All-cons IsSingle own (own_texts d rest) is.single later.single);
      }

  alone_up_to : (n : ℕ) (bytes : List ℕ) → length bytes < n → AreAlone bytes
  alone_up_to zero bytes few = absurd (omega (arith, few))
  alone_up_to (suc n) [] few =
      let none : csv_records d [] ≡ [] = ap (λ (t : List (List ℕ)). paired t (column_records d [])) (own_nil can) in
      record { counted = subst (All IsCounted) (sym none) (All-nil IsCounted); each = subst (All IsAlone) (sym none) (All-nil IsAlone); same = none ∙ ap (map (own_record d)) (sym (own_nil can)); trimmed = subst (All IsTrimmed) (sym (own_nil can)) (All-nil IsTrimmed); single = subst (All IsSingle) (sym (own_nil can)) (All-nil IsSingle) }
  alone_up_to (suc n) (byte ∷ bytes) few = ⊎_elim
      (λ (ends : ends_line byte ≡ true).
      let later = alone_up_to n bytes (omega (arith, few)) in
      let same : csv_records d (byte ∷ bytes) ≡ csv_records d bytes =
      ap (λ (t : List (List ℕ)). paired t (column_records d (byte ∷ bytes))) (own_end can byte bytes ends) ∙ ap (paired (own_texts d bytes)) (column_records-end d byte bytes ends) in
      record {
        counted = subst (All IsCounted) (sym same) later.counted;
        each = subst (All IsAlone) (sym same) later.each;
        same = same ∙ later.same ∙ ap (map (own_record d)) (sym (own_end can byte bytes ends));
        trimmed = subst (All IsTrimmed) (sym (own_end can byte bytes ends)) later.trimmed;
        single = subst (All IsSingle) (sym (own_end can byte bytes ends)) later.single;
      })
      (λ (within : ends_line byte ≡ false).
      let first = read_first byte bytes within in
      alone_first (byte ∷ bytes) first.0 first.1 first.3 (alone_up_to n first.1 (omega (arith, few, first.2))))
      (cases_Bool (ends_line byte))

  are_alone : (bytes : List ℕ) → AreAlone bytes
  are_alone bytes = alone_up_to (length bytes + 1) bytes (omega arith)

  pub each_alone : (bytes : List ℕ) → All (λ (w : CsvRecord). column_records d w.own ≡ w.fields ∷ []) (csv_records d bytes)
  each_alone bytes = (are_alone bytes).each

  pub each_counted : (bytes : List ℕ) → All (λ (w : CsvRecord). length (raw_fields d w.own) ≡ length w.fields) (csv_records d bytes)
  each_counted bytes = (are_alone bytes).counted

  pub each_trimmed : (bytes : List ℕ) → All (λ own. BeginsWithin own × (length (column_records d (own ++ 120 ∷ [])) ≡ 1)) (own_texts d bytes)
  each_trimmed bytes = (are_alone bytes).trimmed

  pub of_own_bytes : (bytes : List ℕ) → csv_records d bytes ≡ map (own_record d) (own_texts d bytes)
  of_own_bytes bytes = (are_alone bytes).same

  -- ---- the first record

  csv_first_none : csv_records d [] ≡ []
  csv_first_none = of_own_bytes [] ∙ ap (map (own_record d)) (own_nil can)

  csv_first : (bytes : List ℕ) (texts : List (List ℕ)) → own_texts d bytes ≡ texts → All IsSingle texts → csv_records d (first_text texts) ≡ take 1 (map (own_record d) texts)
  csv_first bytes [] is all = csv_first_none
  csv_first bytes (own ∷ texts) is all = of_own_bytes own ∙ ap (map (own_record d)) (All-head IsSingle own texts all)

  -- the own bytes of the first record, by themselves, are that record
  pub first_alone : (bytes : List ℕ) → csv_records d (first_text (own_texts d bytes)) ≡ take 1 (csv_records d bytes)
  first_alone bytes = csv_first bytes (own_texts d bytes) refl (are_alone bytes).single ∙ sym (ap (take 1) (of_own_bytes bytes))
