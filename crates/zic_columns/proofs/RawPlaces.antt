-- Where a raw field stands in a piece.
use Rattle.std.proofs.Common.{◌≡◌, ◌≢◌, ◌==◌, ◌&&◌, ◌+◌, ◌-◌, ◌<◌, ◌≤◌, ℕ, Bool, true, false, List, [], ◌∷◌, ◌++◌, length, get_or, set, slice_range, sym, ap, ap₂, subst, ◌∙◌, ⊎_elim, append_assoc, arith}
use Rattle.std.specs.Prelude.{if◌then◌else◌, nat_lt}
use Rattle.std.proofs.Math.Bool.{and-false}
use Rattle.std.proofs.lemmas.Bool.{cases_eq, cases_lt, eq-eqb, le-ltb, lt-ltb, ne_eqb}
use Rattle.std.proofs.lemmas.List.{append-nil, append_cancel_left, set_at}
use Rattle.csv.specs.declared.parser.State.TheVariants as st
use Rattle.zic_columns.specs.Column.{CanDelimit, config_of}
use Rattle.zic_columns.specs.Own.{first_text}
use Rattle.zic_columns.specs.Quotes.{delimited}
use Rattle.zic_columns.specs.Raw.{raw_fields, raw_from, replaced}
use Rattle.zic_columns.specs.Record.{HasPlace, IsPlaceOf, bytes_at, field_text, is_after_quote_at, raw_span}
use Rattle.zic_columns.specs.code.Field.{HasRawSpan, IsFieldAt, IsOutside}
use Rattle.zic_columns.specs.code.Machine.{BeginsRecord, state_at}
use Rattle.zic_columns.specs.code.Walk.{AreRaw, HasWalked, IsKept, IsRawAt}
use Rattle.zic_columns.specs.declared.fields.Field.TheVariants.{Plain}
use Rattle.zic_columns.specs.declared.fields.Record.{Record}
use Rattle.zic_columns.specs.declared.fields.Span.{Span}
use Rattle.zic_columns.specs.declared.fields.Wanted.{Wanted}
use Rattle.zic_columns.specs.declared.walk.FoundField.{FoundField}
use Rattle.zic_columns.proofs.Spans.{span_both, span_none, span_push}
use Rattle.zic_columns.proofs.RawFacts.{delimited_both, delimited_first, ended, followed, raw_begins, raw_delimiter, raw_field, raw_last, raw_some, raw_whole}

-- ---- the span of a field with its double quotes

abbrev span_to : ℕ → ℕ → Span
span_to start stop = record { start = start; end = stop }

-- no double quote stands before the field
pub plain_span : (piece : List ℕ) (at stop : ℕ) → HasRawSpan piece at stop (Plain (span_to at stop))
plain_span piece at stop start low other =
    let before = get_or piece (at - 1) 0 == 34 in
    let no : is_after_quote_at piece start at ≡ false = ⊎_elim
    (λ (lt : start < at). ap (λ (b : Bool). nat_lt start at && b) (ne_eqb (get_or piece (at - 1) 0) 34 (other lt)) ∙ and-false (nat_lt start at))
    (λ (le : at ≤ start). ap (λ (b : Bool). b && before) (le-ltb start at le))
    (cases_lt start at) in
    ap (λ (b : Bool). if b then span_to (at - 1) (stop + 1) else span_to at stop) no

-- a text between two double quotes
pub near_span : (piece : List ℕ) (at stop : ℕ) → get_or piece at 0 ≡ 34 → HasRawSpan piece at (stop + 1) (Plain (span_to (at + 1) stop))
near_span piece at stop quote start low other =
    let back : at + 1 - 1 ≡ at = omega arith in
    let here : (get_or piece (at + 1 - 1) 0 == 34) ≡ true = eq-eqb (get_or piece (at + 1 - 1) 0) 34 (ap (λ (n : ℕ). get_or piece n 0) back ∙ quote) in
    let yes : is_after_quote_at piece start (at + 1) ≡ true = ap₂ (λ (a b : Bool). a && b) (lt-ltb start (at + 1) (omega (arith, low))) here in
    ap₂ (λ (b : Bool) (n : ℕ). if b then span_to n (stop + 1) else span_to (at + 1) stop) yes back

module _ {d : ℕ} (can : CanDelimit d) where
  -- ---- the raw field of an index

  -- raw fields that delimiters end are these bytes
  ended_raw : (bytes : List ℕ) (raw : List (List ℕ)) → AreRaw d bytes raw → ended d raw ≡ bytes
  ended_raw bytes raw are =
      sym (append-nil (ended d raw)) ∙ sym (delimited_both d raw [] [])
      ∙ ap (delimited d) (ap (λ (l : List (List ℕ)). raw ++ l) (sym (raw_last can st.StartField [])) ∙ sym (are []))
      ∙ raw_whole d st.StartField [] (bytes ++ []) ∙ append-nil bytes

  -- with another text for one raw field, the bytes before it and after it stay
  replaced_raw : (own front here back : List ℕ) (before : List (List ℕ)) (index : ℕ) → BeginsRecord own → own ≡ front ++ (here ++ back) → AreRaw d front before → length before ≡ index
      → first_text (raw_from (config_of d) st.StartField [] (here ++ back)) ≡ here → (text : List ℕ) → replaced d own index text ≡ front ++ (text ++ back)
  replaced_raw own front here back before index begins parts are count first text =
      let some = raw_some d st.StartField [] (here ++ back) in
      let others = some.1 in
      let left : raw_from (config_of d) st.StartField [] (here ++ back) ≡ here ∷ others = some.2 ∙ ap (λ (f : List ℕ). f ∷ others) (sym (ap first_text some.2) ∙ first) in
      let fields : raw_fields d own ≡ before ++ here ∷ others =
      raw_begins can own begins ∙ ap (raw_from (config_of d) st.StartField []) parts ∙ are (here ++ back) ∙ ap (λ (l : List (List ℕ)). before ++ l) left in
      let after : followed d others ≡ back =
      append_cancel_left here (followed d others) back (sym (delimited_first d here others) ∙ ap (delimited d) (sym left) ∙ raw_whole d st.StartField [] (here ++ back)) in
      ap (λ (l : List (List ℕ)). delimited d (set l index text)) fields ∙ ap (delimited d) (set_at before here others text index count)
      ∙ delimited_both d before text others
      ∙ ap (λ (l : List ℕ). l ++ (text ++ followed d others)) (ended_raw front before are) ∙ ap (λ (l : List ℕ). front ++ (text ++ l)) after

  module _ (piece : List ℕ) (start : ℕ) where
    -- where a raw field stands in the whole record
    placed : (stop index : ℕ) (p : Span) (before : List (List ℕ)) → BeginsRecord (slice_range piece start stop) → start ≤ p.start → p.start ≤ p.«end» → p.«end» ≤ stop
        → AreRaw d (slice_range piece start p.start) before → length before ≡ index
        → first_text (raw_from (config_of d) st.StartField [] (slice_range piece p.start stop)) ≡ bytes_at piece p
        → IsPlaceOf d piece (record { start = start; end = stop }) index p
    placed stop index p before begins low order high are count first =
        let here = slice_range piece p.start p.«end» in
        let back = slice_range piece p.«end» stop in
        let rest : here ++ back ≡ slice_range piece p.start stop = span_both piece p.start p.«end» stop order high in
        let parts : slice_range piece start stop ≡ slice_range piece start p.start ++ (here ++ back) =
        sym (ap (λ (l : List ℕ). slice_range piece start p.start ++ l) rest ∙ span_both piece start p.start stop low (omega (arith, order, high))) in
        replaced_raw (slice_range piece start stop) (slice_range piece start p.start) here back before index begins parts are count
        (ap (λ (l : List ℕ). first_text (raw_from (config_of d) st.StartField [] l)) rest ∙ first)

    -- the raw field of an index stands there in the whole record too
    placed_before : (at stop index : ℕ) (p : Span) → BeginsRecord (slice_range piece start stop) → at ≤ stop → IsRawAt d piece start at index p
        → IsPlaceOf d piece (record { start = start; end = stop }) index p
    placed_before at stop index p begins le is =
        let parts : slice_range piece p.start at ++ slice_range piece at stop ≡ slice_range piece p.start stop = span_both piece p.start at stop (omega (arith, is.order, is.high)) le in
        placed stop index p is.before begins is.low is.order (omega (arith, is.high, le)) is.raw is.count
        (ap (λ (l : List ℕ). first_text (raw_from (config_of d) st.StartField [] l)) (sym parts) ∙ is.here (slice_range piece at stop))

    -- before the first field there is none
    pub no_raw : AreRaw d (slice_range piece start start) []
    no_raw more = ap (λ (l : List ℕ). raw_from (config_of d) st.StartField [] (l ++ more)) (span_none piece start)

    -- and more that was read after it
    read_later : (at next index : ℕ) (p : Span) → at ≤ next → IsRawAt d piece start at index p → IsRawAt d piece start next index p
    read_later at next index p le is = record {
      low = is.low;
      order = is.order;
      high = omega (arith, is.high, le);
      before = is.before;
      count = is.count;
      raw = is.raw;
      here = λ more.
          ap (λ (l : List ℕ). first_text (raw_from (config_of d) st.StartField [] (l ++ more))) (sym (span_both piece p.start at next (omega (arith, is.order, is.high)) le))
          ∙ ap (λ (l : List ℕ). first_text (raw_from (config_of d) st.StartField [] l)) (append_assoc (slice_range piece p.start at) (slice_range piece at next) more)
          ∙ is.here (slice_range piece at next ++ more);
    }

    -- what a record is told of the place of a field
    abbrev StandsAt : ℕ → Span → Span → Type 0
    StandsAt index own p = (own.start ≤ p.start) × (p.start ≤ p.«end») × (p.«end» ≤ own.«end») × IsPlaceOf d piece own index p

    has_place : (given : Record) (stop index : ℕ) (p : Span) → given.own ≡ record { start = start; end = stop } → raw_span piece start given.time ≡ p
        → StandsAt index (record { start = start; end = stop }) p → HasPlace d piece index given
    has_place given stop index p own_at is stands =
        let all : StandsAt index given.own (raw_span piece given.own.start given.time) =
        subst (λ (o : Span). StandsAt index o (raw_span piece o.start given.time)) (sym own_at) (subst (StandsAt index (record { start = start; end = stop })) (sym is) stands) in
        record { low = all.0; order = all.1; high = all.2; place = all.3 }

    -- ---- one field more of a record

    module _ (wanted : Wanted) (given : Record) (at : ℕ) (walked : HasWalked d piece start wanted given at) (found : FoundField) (is : IsFieldAt d piece at found) where
      abbrev bytes : List ℕ
      bytes = slice_range piece at found.stop

      span_here : raw_span piece start found.field ≡ span_to at found.stop
      span_here = is.raw start walked.low (λ lt quote. can.quote (sym (walked.after lt) ∙ quote))

      read_bytes : (more : List ℕ) → raw_from (config_of d) st.StartField [] (bytes ++ more) ≡ raw_from (config_of d) (state_at is.place_now) bytes more
      read_bytes = raw_field can bytes (field_text d piece found.field) is.place_now is.spells is.quotes.0

      -- a delimiter follows
      module _ (inside : found.stop < length piece) (delimiter : get_or piece found.stop 0 ≡ d) where
        is_outside : IsOutside is.place_now
        is_outside = ⊎_elim (λ all. absurd (omega (arith, all, inside))) (λ ends. ends.1) is.ends

        read_delimiter : (more : List ℕ) → raw_from (config_of d) st.StartField [] (slice_range piece at (found.stop + 1) ++ more) ≡ bytes ∷ raw_from (config_of d) st.StartField [] more
        read_delimiter more =
            ap (λ (l : List ℕ). raw_from (config_of d) st.StartField [] (l ++ more)) (span_push piece at found.stop is.low inside ∙ ap (λ (b : ℕ). bytes ++ b ∷ []) delimiter)
            ∙ ap (raw_from (config_of d) st.StartField []) (append_assoc bytes (d ∷ []) more)
            ∙ read_bytes (d ∷ more) ∙ raw_delimiter can is.place_now bytes more is_outside

        pub raw_on : AreRaw d (slice_range piece start (found.stop + 1)) (walked.raw ++ bytes ∷ [])
        raw_on more =
            ap (λ (l : List ℕ). raw_from (config_of d) st.StartField [] (l ++ more)) (sym (span_both piece start at (found.stop + 1) walked.low (omega (arith, is.low))))
            ∙ ap (raw_from (config_of d) st.StartField []) (append_assoc (slice_range piece start at) (slice_range piece at (found.stop + 1)) more)
            ∙ walked.are_raw (slice_range piece at (found.stop + 1) ++ more) ∙ ap (λ (l : List (List ℕ)). walked.raw ++ l) (read_delimiter more)
            ∙ sym (append_assoc walked.raw (bytes ∷ []) (raw_from (config_of d) st.StartField [] more))

        place_here : wanted.time ≡ given.count → IsRawAt d piece start (found.stop + 1) wanted.time (span_to at found.stop)
        place_here same = record {
          low = walked.low;
          order = is.low;
          high = omega arith;
          before = walked.raw;
          count = walked.counted ∙ sym same;
          raw = walked.are_raw;
          here = λ more. ap first_text (read_delimiter more);
        }

        pub place_on : (next : Record) → next.count ≡ given.count + 1 → IsKept wanted.time given.count found.field given.time next.time → wanted.time < next.count
            → IsRawAt d piece start (found.stop + 1) wanted.time (raw_span piece start next.time)
        place_on next count time lt = ⊎_elim
            (λ (same : wanted.time ≡ given.count).
            subst (IsRawAt d piece start (found.stop + 1) wanted.time) (sym (ap (raw_span piece start) (time.taken same) ∙ span_here)) (place_here same))
            (λ (other : wanted.time ≢ given.count).
            subst (IsRawAt d piece start (found.stop + 1) wanted.time) (sym (ap (raw_span piece start) (time.same other)))
            (read_later at (found.stop + 1) wanted.time (raw_span piece start given.time) (omega (arith, is.low)) (walked.place (omega (arith, lt, count, other)))))
            (cases_eq wanted.time given.count)

      -- it is the last
      module _ (begins : BeginsRecord (slice_range piece start found.stop)) where
        place_last : wanted.time ≡ given.count → IsPlaceOf d piece (span_to start found.stop) wanted.time (span_to at found.stop)
        place_last same =
            placed found.stop wanted.time (span_to at found.stop) walked.raw begins walked.low is.low (omega arith) walked.are_raw (walked.counted ∙ sym same)
            (ap (λ (l : List ℕ). first_text (raw_from (config_of d) st.StartField [] l)) (sym (append-nil bytes)) ∙ ap first_text (read_bytes [] ∙ raw_last can (state_at is.place_now) bytes))

        pub place_out : (next : Record) → next.own ≡ record { start = start; end = found.stop } → next.count ≡ given.count + 1 → IsKept wanted.time given.count found.field given.time next.time
            → wanted.time < next.count → HasPlace d piece wanted.time next
        place_out next own_at count time lt = ⊎_elim
            (λ (same : wanted.time ≡ given.count).
            has_place next found.stop wanted.time (span_to at found.stop) own_at (ap (raw_span piece start) (time.taken same) ∙ span_here) (walked.low, is.low, omega arith, place_last same))
            (λ (other : wanted.time ≢ given.count).
            let span = raw_span piece start given.time in
            let before = walked.place (omega (arith, lt, other, count)) in
            has_place next found.stop wanted.time span own_at (ap (raw_span piece start) (time.same other))
            (before.low, before.order, omega (arith, before.high, is.low), placed_before at found.stop wanted.time span begins is.low before))
            (cases_eq wanted.time given.count)
