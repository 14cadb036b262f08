-- A record of a piece, field by field.
use Rattle.std.proofs.Common.{◌≡◌, ◌≢◌, ◌⊎◌, ℕ, ◌+◌, ◌-◌, ◌<◌, ◌≤◌, ◌==◌, ◌||◌, Bool, true, false, List, [], ◌∷◌, ◌++◌, length, take, drop, get_or, slice_range, Option, Some, None, inl, inr, refl, sym, ap, ap₂, subst, ◌∙◌, ⊎_elim, arith, append_assoc}
use Rattle.std.proofs.Math.ListN.{get_or-eq_default}
use Rattle.std.proofs.lemmas.Bool.{eq-eqb, or_right}
use Rattle.std.proofs.lemmas.List.{append-nil, drop-drop, get_or-drop, length-append, length-drop, take_all, take_more}
use Rattle.csv.specs.Machine.{next_record}
use Rattle.csv.specs.declared.parser.State.{State}
use Rattle.csv.specs.declared.parser.State.TheVariants as st
use Rattle.memchr.specs.Find.{IsFirst, IsFirstByte, Nowhere, Passes, is_byte3}
use Rattle.zic_columns.specs.Column.{CanDelimit, HasNoQuote, column_records, config_of, ends_line}
use Rattle.zic_columns.specs.Own.{own_texts}
use Rattle.zic_columns.specs.Quotes.{has_stray}
use Rattle.zic_columns.specs.Record.{IsSplit, IsWithinPiece, bytes_at, field_text, first_fields, record_at, wanted_text}
use Rattle.zic_columns.specs.code.Block.{ends_field}
use Rattle.zic_columns.specs.code.Field.{EndsField, HasQuotes, IsField, IsFieldAt, Spells}
use Rattle.zic_columns.specs.code.Machine.{BeginsRecord, EndsWith, IsEndOfRecord, ReadsTo, state_at}
use Rattle.zic_columns.specs.code.Own.{IsOwnLen}
use Rattle.zic_columns.specs.code.Walk.{HasFields, HasWalked, IsFieldEnd, IsKept, IsQuoteAt, IsRecordFrom}
use Rattle.zic_columns.specs.declared.fields.Field.{Field}
use Rattle.zic_columns.specs.declared.fields.Field.TheVariants.{Plain, Quoted}
use Rattle.zic_columns.specs.declared.fields.Record.{Record}
use Rattle.zic_columns.specs.declared.fields.Wanted.{Wanted}
use Rattle.zic_columns.specs.declared.machine.Place.TheVariants as place
use Rattle.zic_columns.specs.declared.walk.FoundField.{FoundField}
use Rattle.zic_columns.proofs.StepFacts.{either}
use Rattle.zic_columns.proofs.FieldFacts.{ends_record, first_read, outside, plain_spells, quoted_quotes, quoted_spells, spells_read}
use Rattle.zic_columns.proofs.FoundBytes.{quote_found}
use Rattle.zic_columns.proofs.LineCuts.{not_at_once}
use Rattle.zic_columns.proofs.MachineFacts.{at_end, ends_both, ends_byte, from_start, reads_both}
use Rattle.zic_columns.proofs.OwnLens.{quoted_ended, quoted_unended}
use Rattle.zic_columns.proofs.QuoteFacts.{own_stray, quotes_both, quotes_delimiter, quotes_none}
use Rattle.zic_columns.proofs.RawPlaces.{near_span, no_raw, place_on, place_out, plain_span, raw_on}
use Rattle.zic_columns.proofs.SomeRecords.{only}
use Rattle.zic_columns.proofs.Spans.{span_at, span_both, span_fails, span_first, span_length, span_none, span_push, span_rest}
use Rattle.zic_columns.proofs.StepFacts.{field-delimiter, records-cons, records-nil}

or_three : (a b c : Bool) → (a || b || c) ≡ (a || (b || c))
or_three true b c = refl
or_three false true c = refl
or_three false false c = refl

-- the field of these bytes
abbrev pub field_to : ℕ → ℕ → FoundField
field_to at stop = record { field = Plain (record { start = at; end = stop }); stop = stop; stray = false }

module _ {d : ℕ} (can : CanDelimit d) where
  -- ---- the end of a field

  pub delimiter_ends : (byte : ℕ) → byte ≡ d → ends_field d byte ≡ true
  delimiter_ends byte is = subst (λ (b : ℕ). ends_field d b ≡ true) (sym is) (rw (eq-eqb d d refl) refl)

  pub line_end_ends : (byte : ℕ) → ends_line byte ≡ true → ends_field d byte ≡ true
  line_end_ends byte ends = or_right (byte == d) (ends_line byte) ends

  same_end : (byte : ℕ) → is_byte3 d 13 10 byte ≡ ends_field d byte
  same_end byte = or_three (byte == d) (byte == 13) (byte == 10)

  module _ (bytes rest : List ℕ) (at : ℕ) (within : at ≤ length bytes) (is : rest ≡ drop at bytes) where
    size : length rest ≡ length bytes - at
    size = ap length is ∙ length-drop at bytes

    read_at : (k : ℕ) → get_or rest k 0 ≡ get_or bytes (at + k) 0
    read_at k = ap (λ (l : List ℕ). get_or l k 0) is ∙ get_or-drop at bytes k 0

    none_after : (len stop : ℕ) → stop ≡ at + len → Nowhere (Passes (is_byte3 d 13 10) rest) 0 len → Nowhere (Passes (ends_field d) bytes) at stop
    none_after len stop same none = λ k low high yes.
        let back : at + (k - at) ≡ k = omega (arith, low) in
        none (k - at) (omega arith) (omega (arith, low, high, same))
        (same_end (get_or rest (k - at) 0) ∙ ap (ends_field d) (read_at (k - at) ∙ ap (λ (n : ℕ). get_or bytes n 0) back) ∙ yes)

    pub end_far : (len : ℕ) → IsFirstByte (is_byte3 d 13 10) rest (Some len) → IsFieldEnd d bytes at (at + len)
    end_far len found = record {
      low = omega arith;
      high = omega (arith, found.0.high, size, within);
      before = none_after len (at + len) refl found.0.before;
      ends = inr (ap (ends_field d) (sym (read_at len)) ∙ sym (same_end (get_or rest len 0)) ∙ found.1);
    }

    pub end_none : IsFirstByte (is_byte3 d 13 10) rest None → IsFieldEnd d bytes at (length bytes)
    end_none none = record {
      low = within;
      high = omega arith;
      before = none_after (length rest) (length bytes) (omega (arith, size, within)) none;
      ends = inl refl;
    }

  -- ---- a field

  module _ (piece : List ℕ) (at : ℕ) where
    pub plain_at : (stop : ℕ) → IsFieldEnd d piece at stop → (at < length piece → get_or piece at 0 ≢ 34)
        → IsFieldAt d piece at (record { field = Plain (record { start = at; end = stop }); stop = stop; stray = false })
    plain_at stop is other =
        let raw = slice_range piece at stop in
        let long = span_length piece at stop is.low is.high in
        let first : 0 < length raw → get_or raw 0 0 ≢ 34 =
        λ some quote. other (omega (arith, some, long, is.high)) (sym (span_at piece at stop 0 (omega (arith, some, long)) ∙ ap (λ (n : ℕ). get_or piece n 0) (omega arith)) ∙ quote) in
        let spelled = plain_spells can raw (span_fails piece (ends_field d) at stop is.low is.high is.before) first in
        record {
          low = is.low;
          high = is.high;
          field = (is.low, is.high);
          raw = plain_span piece at stop;
          place_now = spelled.0;
          spells = spelled.2;
          quotes = spelled.3;
          ends = ⊎_elim (λ all. inl all) (λ ends. inr (ends, spelled.1)) is.ends;
        }

    module _ (quote : IsQuoteAt piece at) where
      pub near_at : (rest : List ℕ) (len : ℕ) → rest ≡ drop (at + 1) piece → IsFirst (Passes (λ byte. byte == 34) rest) 0 (length rest) (Some len)
          → (at + 1 + len + 1 ≡ length piece) ⊎ (ends_field d (get_or piece (at + 1 + len + 1) 0) ≡ true)
          → IsFieldAt d piece at (record { field = Plain (record { start = at + 1; end = at + 1 + len }); stop = at + 1 + len + 1; stray = false })
      near_at rest len is found ends =
          let start = at + 1 in
          let stop = at + 1 + len in
          let first = quote_found rest (Some len) found in
          let size : length rest ≡ length piece - start = ap length is ∙ length-drop start piece in
          let within : stop < length piece = omega (arith, first.within, size, quote.within) in
          let text = slice_range piece start stop in
          let count : stop - start ≡ len = omega arith in
          let front : take len rest ≡ text = ap (take len) is ∙ sym (ap (λ (n : ℕ). take n (drop start piece)) count) in
          let here : get_or piece stop 0 ≡ 34 = sym (ap (λ (l : List ℕ). get_or l len 0) is ∙ get_or-drop start piece len 0) ∙ first.here in
          let raw : slice_range piece at (stop + 1) ≡ 34 ∷ (text ++ 34 ∷ []) =
          span_first piece at (stop + 1) (omega arith) (omega (arith, within))
          ∙ ap₂ (λ (b : ℕ) (l : List ℕ). b ∷ l) quote.here (span_push piece start stop (omega arith) within ∙ ap (λ (b : ℕ). text ++ b ∷ []) here) in
          record {
            low = omega arith;
            high = omega (arith, within);
            field = (omega arith, omega (arith, within));
            raw = near_span piece at stop quote.here;
            place_now = place.QuoteSeen;
            spells = subst (λ (l : List ℕ). Spells d l text place.QuoteSeen) (sym raw) (quoted_spells can text (subst HasNoQuote front first.before));
            quotes = subst (λ (l : List ℕ). HasQuotes d l place.QuoteSeen false) (sym raw) (quoted_quotes can text (subst HasNoQuote front first.before));
            ends = ⊎_elim (λ all. inl all) (λ ends. inr (ends, tt)) ends;
          }

      pub quoted_at : (rest text : List ℕ) (len : ℕ) (stray : Bool) → rest ≡ drop at piece → (found : IsField d rest text len) → HasQuotes d (take len rest) found.place_now stray
          → IsFieldAt d piece at (record { field = Quoted (record { start = at; end = at + len }); stop = at + len; stray = stray })
      quoted_at rest text len stray is found quotes =
          let stop = at + len in
          let raw = slice_range piece at stop in
          let size : length rest ≡ length piece - at = ap length is ∙ length-drop at piece in
          let within : stop ≤ length piece = omega (arith, found.within, size, quote.within) in
          let count : stop - at ≡ len = omega arith in
          let same : take len rest ≡ raw = ap (take len) is ∙ sym (ap (λ (n : ℕ). take n (drop at piece)) count) in
          let spells : Spells d raw text found.place_now = subst (λ (l : List ℕ). Spells d l text found.place_now) same found.spells in
          let long = span_length piece at stop (omega arith) within in
          let begins : 0 < length raw → ends_line (get_or raw 0 0) ≡ false =
          λ some. ap ends_line (span_at piece at stop 0 (omega (arith, some, long)) ∙ ap (λ (n : ℕ). get_or piece n 0) (omega arith) ∙ quote.here) in
          let alone : IsField d raw text (length raw) = record {
            within = omega arith;
            place_now = found.place_now;
            spells = subst (λ (l : List ℕ). Spells d l text found.place_now) (sym (take_all (length raw) raw (omega arith))) spells;
            ends = inl refl;
          } in
          record {
            low = omega arith;
            high = within;
            field = (omega arith, within);
            raw = λ start low other. refl;
            place_now = found.place_now;
            spells = subst (λ (t : List ℕ). Spells d raw t found.place_now) (sym (first_read can raw text (length raw) begins alone)) spells;
            quotes = subst (λ (l : List ℕ). HasQuotes d l found.place_now stray) same quotes;
            ends = ⊎_elim
                (λ (all : len ≡ length rest). inl (omega (arith, all, size, quote.within)))
                (λ (ends : EndsField d found.place_now (get_or rest len 0)). inr (ap (ends_field d) (sym (ap (λ (l : List ℕ). get_or l len 0) is ∙ get_or-drop at piece len 0)) ∙ ends.0, ends.1))
                found.ends;
          }

  pub field_ends : (piece : List ℕ) (at stop : ℕ) → IsFieldEnd d piece at stop → stop < length piece → ends_field d (get_or piece stop 0) ≡ true
  field_ends piece at stop is inside = ⊎_elim (λ all. absurd (omega (arith, all, inside))) (λ ends. ends) is.ends

  -- ---- the record

  module _ (piece : List ℕ) (start : ℕ) (wanted : Wanted) where
    pub walked_none : (given : Record) → start ≤ length piece → given.own.start ≡ start → given.count ≡ 0 → given.zone ≡ Plain (record { start = start; end = start })
        → given.time ≡ Plain (record { start = start; end = start }) → given.stray ≡ false → HasWalked d piece start wanted given start
    walked_none given within own none zone time stray =
        let place_now : (f : Field) → f ≡ Plain (record { start = start; end = start }) → IsWithinPiece piece f = λ f is. subst (IsWithinPiece piece) (sym is) (omega arith, within) in
        let text : (f : Field) → f ≡ Plain (record { start = start; end = start }) → field_text d piece f ≡ [] = λ f is. ap (field_text d piece) is ∙ span_none piece start in
        record {
          own = own;
          low = omega arith;
          high = within;
          few = omega (arith, none);
          fields = [];
          has = record {
            count = none;
            zone_within = place_now given.zone zone;
            zone = text given.zone zone ∙ sym (nothing wanted.zone);
            time_within = place_now given.time time;
            time = text given.time time ∙ sym (nothing (Some wanted.time));
          };
          reads = λ more. ap (λ (l : List ℕ). next_record (config_of d) st.StartField [] [] (l ++ more)) (span_none piece start);
          any = λ fields field. (fields, field, λ more. ap (λ (l : List ℕ). next_record (config_of d) st.StartField fields field (l ++ more)) (span_none piece start));
          quotes = subst (λ (b : Bool). HasQuotes d (slice_range piece start start) place.Start b) (sym stray) (subst (λ (l : List ℕ). HasQuotes d l place.Start false) (sym (span_none piece start)) (quotes_none can));
          after = λ lt. absurd (omega (arith, lt));
          raw = [];
          counted = sym none;
          are_raw = no_raw can piece start;
          place = λ lt. absurd (omega (arith, lt, none));
        }
      where
        nothing : (index : Option ℕ) → wanted_text [] index ≡ []
        nothing None = refl
        nothing (Some index) = let none : 0 ≤ index = omega arith in get_or-eq_default [] [] none

    module _ (given : Record) (at : ℕ) (walked : HasWalked d piece start wanted given at) (found : FoundField) (is : IsFieldAt d piece at found) where
      -- the bytes up to the end of the field
      front : slice_range piece start at ++ slice_range piece at found.stop ≡ slice_range piece start found.stop
      front = span_both piece start at found.stop walked.low is.low

      reads_front : (more : List ℕ) → next_record (config_of d) st.StartField [] [] (slice_range piece start found.stop ++ more)
          ≡ next_record (config_of d) (state_at is.place_now) walked.fields (field_text d piece found.field) more
      reads_front more =
          ap (λ (l : List ℕ). next_record (config_of d) st.StartField [] [] (l ++ more)) (sym front)
          ∙ ap (next_record (config_of d) st.StartField [] []) (append_assoc (slice_range piece start at) (slice_range piece at found.stop) more)
          ∙ walked.reads (slice_range piece at found.stop ++ more) ∙ is.spells walked.fields [] more

      any_front : ReadsTo d st.StartField (slice_range piece start found.stop) (state_at is.place_now)
      any_front =
          subst (λ (l : List ℕ). ReadsTo d st.StartField l (state_at is.place_now)) front
          (reads_both can st.StartField st.StartField (state_at is.place_now) (slice_range piece start at) (slice_range piece at found.stop) walked.any
          (spells_read can (slice_range piece at found.stop) (field_text d piece found.field) is.place_now is.spells))

      quotes_front : HasQuotes d (slice_range piece start found.stop) is.place_now (given.stray || found.stray)
      quotes_front =
          subst (λ (l : List ℕ). HasQuotes d l is.place_now (given.stray || found.stray)) front
          (quotes_both can (slice_range piece start at) (slice_range piece at found.stop) is.place_now given.stray found.stray walked.quotes is.quotes)

      -- a delimiter, and another field
      pub walked_on : (next : Record) → found.stop < length piece → get_or piece found.stop 0 ≡ d → next.own ≡ given.own → next.count ≡ given.count + 1
          → HasFields d piece wanted (walked.fields ++ field_text d piece found.field ∷ []) next → next.stray ≡ (given.stray || found.stray)
          → IsKept wanted.time given.count found.field given.time next.time → HasWalked d piece start wanted next (found.stop + 1)
      walked_on next inside delimiter own count has stray time =
          let byte = get_or piece found.stop 0 in
          let ends : EndsField d is.place_now byte = ⊎_elim (λ all. absurd (omega (arith, all, inside))) (λ ends. ends) is.ends in
          let longer = span_push piece start found.stop (omega (arith, walked.low, is.low)) inside in
          let at_delimiter = λ (fields : List (List ℕ)) (field more : List ℕ).
          outside can is.place_now byte more fields field ends ∙ ap (λ (b : ℕ). next_record (config_of d) st.InField fields field (b ∷ more)) delimiter ∙ field-delimiter d more fields field in
          record {
            own = ap (λ o. o.start) own ∙ walked.own;
            low = omega (arith, walked.low, is.low);
            high = omega (arith, inside);
            few = omega (arith, count, walked.few, is.low);
            fields = walked.fields ++ field_text d piece found.field ∷ [];
            has = has;
            reads = λ more.
                ap (λ (l : List ℕ). next_record (config_of d) st.StartField [] [] (l ++ more)) longer
                ∙ ap (next_record (config_of d) st.StartField [] []) (append_assoc (slice_range piece start found.stop) (byte ∷ []) more)
                ∙ reads_front (byte ∷ more) ∙ at_delimiter walked.fields (field_text d piece found.field) more;
            any = λ fields field.
                let r = any_front fields field in (
                  r.0 ++ r.1 ∷ [],
                  [],
                  λ more. ap (λ (l : List ℕ). next_record (config_of d) st.StartField fields field (l ++ more)) longer
                      ∙ ap (next_record (config_of d) st.StartField fields field) (append_assoc (slice_range piece start found.stop) (byte ∷ []) more)
                      ∙ r.2 (byte ∷ more) ∙ at_delimiter r.0 r.1 more,
                );
            quotes = subst (λ (b : Bool). HasQuotes d (slice_range piece start (found.stop + 1)) place.Start b) (sym stray)
                (subst (λ (l : List ℕ). HasQuotes d l place.Start (given.stray || found.stray)) (sym (longer ∙ ap (λ (b : ℕ). slice_range piece start found.stop ++ b ∷ []) delimiter))
                (quotes_delimiter can (slice_range piece start found.stop) is.place_now (given.stray || found.stray) quotes_front ends.1));
            after = λ _. let same : found.stop + 1 - 1 ≡ found.stop = omega arith in ap (λ (n : ℕ). get_or piece n 0) same ∙ delimiter;
            raw = walked.raw ++ slice_range piece at found.stop ∷ [];
            counted = omega (arith, count, walked.counted, length-append walked.raw (slice_range piece at found.stop ∷ []));
            are_raw = raw_on can piece start wanted given at walked found is inside delimiter;
            place = place_on can piece start wanted given at walked found is inside delimiter next count time;
          }

      module _ (begins : BeginsRecord (drop start piece)) where
        starts_so : 0 < found.stop - start → BeginsRecord (slice_range piece start found.stop)
        starts_so some =
            let low : start ≤ found.stop = omega (arith, walked.low, is.low) in
            record {
              some = omega (arith, some, span_length piece start found.stop low is.high);
              begins = ap ends_line (span_at piece start found.stop 0 some ∙ sym (get_or-drop start piece 0 0)) ∙ begins.begins;
            }

        one_record : 0 < found.stop - start → column_records d (slice_range piece start found.stop) ≡ (walked.fields ++ field_text d piece found.field ∷ []) ∷ []
        one_record some =
            let own = slice_range piece start found.stop in
            let all = walked.fields ++ field_text d piece found.field ∷ [] in
            let N = λ (s : State) (l : List ℕ). next_record (config_of d) s [] [] l in
            let read : N st.StartRecord own ≡ Some (all, st.StartRecord, []) =
            ap (N st.StartRecord) (sym (append-nil own)) ∙ from_start can own [] (starts_so some) ∙ reads_front [] ∙ at_end can is.place_now walked.fields (field_text d piece found.field) in
            only d own (all ∷ []) (records-cons d st.StartRecord st.StartRecord own [] all [] read (records-nil d))

        -- the end, or a line end
        module _ (next : Record) (own_at : next.own ≡ record { start = start; end = found.stop }) (has : HasFields d piece wanted (walked.fields ++ field_text d piece found.field ∷ []) next)
            (stray : next.stray ≡ (given.stray || found.stray)) (time : IsKept wanted.time given.count found.field given.time next.time) where
          split_out : 0 < found.stop - start → IsSplit d piece wanted next
          split_out some =
              let own = slice_range piece start found.stop in
              let all = walked.fields ++ field_text d piece found.field ∷ [] in
              let low : start ≤ found.stop = omega (arith, walked.low, is.low) in
              let fields : (record_at d piece next).fields ≡ all = ap (λ o. first_fields (column_records d (bytes_at piece o))) own_at ∙ ap first_fields (one_record some) in
              record {
                own = subst (λ o. (o.start ≤ o.end) × (o.end ≤ length piece)) (sym own_at) (low, is.high);
                count = has.count ∙ ap length (sym fields);
                zone_within = has.zone_within;
                zone = has.zone ∙ ap (λ (f : List (List ℕ)). wanted_text f wanted.zone) (sym fields);
                time_within = has.time_within;
                time = has.time ∙ ap (λ (f : List (List ℕ)). wanted_text f (Some wanted.time)) (sym fields);
                stray = stray ∙ own_stray can own is.place_now (given.stray || found.stray) quotes_front ∙ ap (λ o. has_stray d (bytes_at piece o)) (sym own_at);
                place = place_out can piece start wanted given at walked found is (starts_so some) next own_at
                    (omega (arith, has.count, walked.has.count, length-append walked.fields (field_text d piece found.field ∷ []))) time;
              }

          owns_out : (len : ℕ) → len ≡ found.stop - start → IsOwnLen d (drop start piece) len
              → own_texts d (drop start piece) ≡ bytes_at piece next.own ∷ own_texts d (drop next.own.end piece)
          owns_out len same own =
              let back : start + (found.stop - start) ≡ found.stop = omega (arith, walked.low, is.low) in
              own.first ∙ ap (λ (n : ℕ). take n (drop start piece) ∷ own_texts d (drop n (drop start piece))) same
              ∙ ap (λ (l : List ℕ). slice_range piece start found.stop ∷ own_texts d l) (drop-drop (found.stop - start) start piece ∙ ap (λ (n : ℕ). drop n piece) back)
              ∙ ap (λ o. bytes_at piece o ∷ own_texts d (drop o.end piece)) (sym own_at)

          -- a line end
          ended_out : found.stop < length piece → (get_or piece found.stop 0 == d) ≡ false
              → (0 < found.stop - start) × IsEndOfRecord d st.StartField (drop start piece) (found.stop - start + 1)
          ended_out inside other =
              let byte = get_or piece found.stop 0 in
              let bytes = drop start piece in
              let len = found.stop - start in
              let low : start ≤ found.stop = omega (arith, walked.low, is.low) in
              let size = length-drop start piece in
              let at : start + len ≡ found.stop = omega (arith, low) in
              let ends : EndsField d is.place_now byte = ⊎_elim (λ all. absurd (omega (arith, all, inside))) (λ ends. ends) is.ends in
              let here : get_or bytes len 0 ≡ byte = get_or-drop start piece len 0 ∙ ap (λ (n : ℕ). get_or piece n 0) at in
              let some : 0 < len = not_at_once bytes len (ap ends_line here ∙ either (byte == d) (ends_line byte) ends.0 other) begins.begins in
              let front : take (len + 1) bytes ≡ slice_range piece start found.stop ++ byte ∷ [] =
              take_more bytes len 0 (omega (arith, size, inside, low)) ∙ ap (λ (b : ℕ). take len bytes ++ b ∷ []) here in (
                some,
                record {
                  some = omega arith;
                  within = omega (arith, size, inside, low);
                  ends = subst (EndsWith d st.StartField) (sym front)
                      (ends_both can st.StartField (state_at is.place_now) (slice_range piece start found.stop) (byte ∷ []) any_front (ends_byte can (state_at is.place_now) byte (ends_record can is.place_now byte ends other)));
                },
              )

          pub record_out : (found.stop ≡ length piece) ⊎ ((found.stop < length piece) × ((get_or piece found.stop 0 == d) ≡ false)) → IsRecordFrom d piece start wanted next
          record_out out = ⊎_elim
              (λ (all : found.stop ≡ length piece).
              let bytes = drop start piece in
              let size = length-drop start piece in
              let whole : slice_range piece start found.stop ≡ bytes = ap (slice_range piece start) all ∙ span_rest piece start in
              let reads : ReadsTo d st.StartField bytes (state_at is.place_now) = subst (λ (l : List ℕ). ReadsTo d st.StartField l (state_at is.place_now)) whole any_front in
              record {
                at = ap (λ o. o.start) own_at;
                split = split_out (omega (arith, begins.some, size, all));
                owns = owns_out (length bytes) (omega (arith, size, all)) (quoted_unended can bytes is.place_now begins reads);
                ended = λ lt. absurd (omega (arith, lt, all, ap (λ o. o.end) own_at));
              })
              (λ (line : (found.stop < length piece) × ((get_or piece found.stop 0 == d) ≡ false)).
              let ended = ended_out line.0 line.1 in
              let len = found.stop - start in
              record {
                at = ap (λ o. o.start) own_at;
                split = split_out ended.0;
                owns = owns_out (len + 1 - 1) (omega arith) (quoted_ended can (drop start piece) (len + 1) begins ended.1);
                ended = λ _. subst (λ o. IsEndOfRecord d st.StartField (drop start piece) (o.end - start + 1)) (sym own_at) ended.1;
              })
              out
