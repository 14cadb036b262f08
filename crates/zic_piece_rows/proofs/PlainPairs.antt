-- Plain pairs, and their rows.
use Rattle.std.proofs.Common.{◌≡◌, ◌≤◌, ◌<◌, ◌+◌, ◌-◌, ◌∙◌, ℕ, true, false, List, ◌∷◌, ◌++◌, Option, None, Some, ap, ap₂, arith, get_or, length, length-take-le, map, refl, subst, sym, take}
use Rattle.std.specs.Prelude.{All, IfSome, slice_range}
use Rattle.std.proofs.Math.ListN.{get_or-map}
use Rattle.std.proofs.lemmas.List.{get_or-take, length-map}
use Rattle.zic_columns.proofs.Spans.{span_both, span_first, span_length}
use Rattle.zic_columns.specs.Record.{IsPairOf, bytes_at, pair_record}
use Rattle.zic_columns.specs.Round.{may_have}
use Rattle.zic_columns.specs.declared.fields.Pair.{Pair}
use Rattle.zic_columns.specs.declared.fields.Record.{Record}
use Rattle.zic_columns.specs.declared.fields.Span.{Span}
use Rattle.zic_columns.specs.declared.splits.TheConstants.{BATCH}
use Rattle.zic_base.specs.State.{Shown}
use Rattle.zic_layouts.specs.RowField.{fields_of}
use Rattle.zic_layouts.specs.declared.layout.Quotes.{Quotes}
use Rattle.zic_layouts.specs.declared.layout.Quotes.TheVariants as quotes
use Rattle.zic_layouts.specs.declared.layout.RowStart.{RowStart}
use Rattle.zic_layouts.specs.declared.layout.RowStart.TheVariants as starts
use Rattle.zic_layouts.specs.declared.layout.Style.{Style}
use Rattle.zic_layouts.specs.declared.layout.TimeFrom.{TimeFrom}
use Rattle.zic_layouts.specs.declared.layout.Unit.{Unit}
use Rattle.zic_layouts.specs.declared.row_field.RowField.{RowField}
use Rattle.zic_layouts.specs.declared.row_field.RowFields.{RowFields}
use Rattle.zic_row_text.specs.Count.{timed_rest_text, units_of_second}
use Rattle.zic_row_text.specs.Instant.{IsRowInstant}
use Rattle.zic_row_text.specs.declared.row_time.RowTime.{RowTime}
use Rattle.zic_zones.specs.Zones.{AnswersAt, number_of, zone_in}
use Rattle.zic_piece_rows.specs.LayoutRows.{IsTextBy, admits_stray, beginning, following}
use Rattle.zic_piece_rows.specs.code.Answer.{IsAdmitted, IsKnown, IsReadTime, answer_at, fields_in, first_at, following_in, place_at}
use Rattle.zic_piece_rows.specs.code.Batch.{IsGiven, zone_at}
use Rattle.zic_piece_rows.specs.code.Pairs.{ArePairColumns, ArePairs, HaveState, IfStateAt, IsOfPairs, IsPairAt, IsPlainPair, KeepsTime, blank_pair, known_pair, pair_in, pair_of, pairs_of, style_of}
use Rattle.zic_piece_rows.specs.code.Row.{input_of, rest_at}
use Rattle.zic_piece_rows.specs.declared.answer.Answer.{Answer}
use Rattle.zic_piece_rows.specs.declared.answer.AnswerState.TheVariants as state
use Rattle.zic_piece_rows.specs.declared.pairs.PairBatch.{PairBatch}
use Rattle.zic_piece_rows.specs.declared.piece.Piece.{Piece}
use Rattle.zic_piece_rows.specs.declared.start.Input.TheVariants as given_by
use Rattle.zic_piece_rows.proofs.Columns.{one_of}
use Rattle.zic_piece_rows.proofs.KnownRows.{fraction_below, known_is, known_shown}
use Rattle.zic_piece_rows.proofs.ShownRows.{row_made}
use Rattle.zic_piece_rows.proofs.UsualRows.{usual_rest}

-- the bytes from an index up to another
abbrev span : ℕ → ℕ → Span
span start end = record { start = start; end = end }

-- two parts with a byte between them
pub joined : (bytes : List ℕ) (d a m b : ℕ) → a ≤ m → m + 1 ≤ b → b ≤ length bytes → get_or bytes m 0 ≡ d
    → slice_range bytes a b ≡ slice_range bytes a m ++ d ∷ slice_range bytes (m + 1) b
joined bytes d a m b first last within between =
    sym (span_both bytes a m b first (omega (arith, last)))
    ∙ ap (λ (l : List ℕ). slice_range bytes a m ++ l) (span_first bytes m b (omega (arith, last)) within ∙ ap (λ (x : ℕ). x ∷ slice_range bytes (m + 1) b) between)

-- a record without stray double quotes is admitted
no_stray : (by : Quotes) → admits_stray by false ≡ true
no_stray quotes.Strict = refl
no_stray quotes.Lenient = refl

-- all fields follow, where none is in the place of the time's
all_follow : (start : RowStart) → KeepsTime start → (fields : List RowField) → following start fields ≡ fields
all_follow starts.Fields keeps fields = refl
all_follow starts.Record keeps fields = refl
all_follow starts.Replaced keeps fields = absurd keeps

-- what the columns of a batch have of the pair at a place
pub pair_at : (piece : Piece) (other : Option Piece) (number count place row : ℕ) (batch : PairBatch) → ArePairColumns piece other number count batch → place < count → row ≡ number + place
    → IsPairAt piece other row batch place
pair_at piece other number count place row batch are lt is = record {
  layout = are.pairs.layout;
  within = omega (arith, are.pairs.few, lt);
  pair = are.pairs.are place lt;
  state = are.states place lt;
  others = by_other other are.others;
  same = λ some. are.same some place lt;
  may = λ known. omega (arith, is, are.may place lt known);
} where
  by_other : (o : Option Piece) → IfSome o (λ p. HaveState p count batch.pairs batch.others) → IfSome o (λ p. IfStateAt p batch.pairs batch.others place)
  by_other None have = tt
  by_other (Some p) have = have place lt

module _ (piece : Piece) (pair : Pair) (of : IsOfPairs piece.layout.now) (is : IsPlainPair piece pair) where
  -- the name of its zone
  pair_zone : slice_range piece.bytes.now pair.start pair.stop ≡ zone_in piece.layout.now.zone (pair_of piece pair).fields
  pair_zone = let name = rw of.zone at is.split.zone in rw of.zone name

  -- the number of that zone's file
  pub pair_file : number_of piece.zones.now (slice_range piece.bytes.now pair.start pair.stop) ≡ zone_at piece (pair_record pair)
  pair_file = ap (number_of piece.zones.now) pair_zone

  -- its own bytes
  own_is : bytes_at piece.bytes.now (span pair.start pair.end)
      ≡ zone_in piece.layout.now.zone (pair_of piece pair).fields ++ piece.layout.now.delimiter ∷ bytes_at piece.bytes.now (span (pair.stop + 1) pair.end)
  own_is =
      let d = piece.layout.now.delimiter in
      let bytes = piece.bytes.now in
      joined bytes d pair.start pair.stop pair.end is.stands.first (omega (arith, is.stands.second)) is.stands.within is.stands.between
      ∙ ap (λ (l : List ℕ). l ++ d ∷ slice_range bytes (pair.stop + 1) pair.end) pair_zone

  -- it has as many bytes and fields as it may have
  admitted : may_have piece.layout.now.max_record (pair.end - pair.start) ≡ true → IsAdmitted piece (pair_record pair)
  admitted short =
      let order : pair.start ≤ pair.end = omega (arith, is.stands.first, is.stands.second) in
      record {
        closed = λ none. absurd (omega (arith, none));
        count = of.count;
        quotes = no_stray piece.layout.now.quotes;
        short = subst (λ (n : ℕ). may_have piece.layout.now.max_record n ≡ true) (sym (span_length piece.bytes.now pair.start pair.end order is.stands.within)) short;
      }

  -- what the tables answer it
  pub pair_known : (file : ℕ) (time : RowTime) (number : ℕ) (shown : Shown) → zone_at piece (pair_record pair) ≡ Some file → file < length piece.zones.now
      → may_have piece.layout.now.max_record (pair.end - pair.start) ≡ true → IsReadTime piece (pair_record pair) time → AnswersAt piece.zones.now file time.second shown
      → IsKnown piece (pair_record pair) time (known_pair file time number) shown
  pair_known file time number shown zone within short read answers =
      known_is piece (pair_record pair) file zone within (admitted short) time read time number shown answers (rw of.from refl)

  module _ (time : RowTime) (file number : ℕ) (shown : Shown) (known : IsKnown piece (pair_record pair) time (known_pair file time number) shown) where
    -- a row may have its time
    pub pair_second : IsRowInstant time.second
    pair_second = subst IsRowInstant (sym known.time.second) known.query.may

    pub pair_fraction : time.fraction < units_of_second piece.layout.now.unit
    pair_fraction = rw known.time.fraction (fraction_below piece.layout.now.unit known.count)

    begins : (start : RowStart) → KeepsTime start → (field : List ℕ) → bytes_at piece.bytes.now (span pair.start pair.end)
        ≡ beginning start piece.layout.now.delimiter piece.layout.now.time (pair_of piece pair).own (zone_in piece.layout.now.zone (pair_of piece pair).fields)
        (bytes_at piece.bytes.now (span (pair.stop + 1) pair.end)) field
    begins starts.Fields keeps field = own_is
    begins starts.Record keeps field = refl
    begins starts.Replaced keeps field = absurd keeps

    abbrev answer_of : Answer
    answer_of = record { file = file; input = given_by.Field; time = time; state = state.Made shown }

    -- what follows the pair
    rest : timed_rest_text piece.layout.now.delimiter (style_of piece.layout.now.fields) piece.layout.now.unit time.second time.fraction shown ≡ answer_at piece (following_in piece) answer_of
    rest =
        let d = piece.layout.now.delimiter in
        let place = place_at piece answer_of in
        ap₂ (λ (s : Style) (u : Unit). timed_rest_text d s u time.second time.fraction shown) (ap style_of of.fields) (sym known.time.unit)
        ∙ sym (usual_rest d of.style time shown place)
        ∙ ap₂ (λ (r : RowFields) (f : TimeFrom). rest_at d (fields_of r f) time shown place) (sym of.fields) (sym of.from)
        ∙ ap (λ (l : List RowField). rest_at d l time shown place) (sym (all_follow piece.layout.now.start of.start (fields_in piece)))

    -- the text of its row
    pub pair_text : IsTextBy piece.layout.now piece.zones.now (pair_of piece pair) (slice_range piece.bytes.now pair.start pair.end
        ++ timed_rest_text piece.layout.now.delimiter (style_of piece.layout.now.fields) piece.layout.now.unit time.second time.fraction shown)
    pair_text =
        let layout = piece.layout.now in
        let field : given_by.Field ≡ input_of layout.from time = rw of.from refl in
        let shows = known_shown piece (pair_record pair) time (known_pair file time number) shown known answer_of refl field refl refl in
        row_made piece (pair_record pair) answer_of shows _ (rw rest (ap (λ (l : List ℕ). l ++ answer_at piece (following_in piece) answer_of) (begins layout.start of.start (first_at piece answer_of))))

-- one of the first of some pairs, whose records are all so
of_record : (P : Record → Type 0) (pairs : List Pair) (count i : ℕ) → count ≤ length pairs → i < count → All P (map pair_record (take count pairs)) → P (pair_record (pair_in pairs i))
of_record P pairs count i few lt all =
    let within : i < length (map pair_record (take count pairs)) = omega (arith, length-map (take count pairs) pair_record, length-take-le count pairs few, lt) in
    subst P (get_or-map pair_record (take count pairs) i blank_pair ∙ ap pair_record (get_or-take count pairs i blank_pair lt)) (all i (pair_record blank_pair) within)

-- pairs that were split
pub are_split : (piece : Piece) (pairs : List Pair) (count : ℕ) → IsOfPairs piece.layout.now → count ≤ BATCH → length pairs ≡ BATCH → All (IsGiven piece) (map pair_record (take count pairs))
    → All (IsPairOf piece.layout.now.delimiter piece.bytes.now) (take count pairs) → ArePairs piece count pairs
are_split piece pairs count of few long split stand =
    let within : count ≤ length pairs = omega (arith, few, long) in
    record {
      layout = of;
      few = few;
      are = λ i lt. record {
        stands = one_of (IsPairOf piece.layout.now.delimiter piece.bytes.now) pairs count i blank_pair within lt stand;
        split = of_record (IsGiven piece) pairs count i within lt split;
      };
    }

-- each pair is one record
pub pairs_counted : (piece : Piece) (pairs : List Pair) (count : ℕ) → count ≤ BATCH → length pairs ≡ BATCH → length (pairs_of piece pairs count) ≡ count
pairs_counted piece pairs count few long = length-map (take count pairs) (pair_of piece) ∙ length-take-le count pairs (omega (arith, few, long))
