-- The rows of the pieces of a round, put together.
use Rattle.std.proofs.Common.{◌≡◌, ◌≤◌, ◌<◌, ◌+◌, ◌-◌, ◌*◌, ℕ, zero, suc, false, List, [], ◌∷◌, ◌++◌, length, take, drop, get_or, Option, Some, None, Result, Ok, Err, inl, inr, refl, sym, ap, subst, ◌∙◌, append_assoc, arith}
use Rattle.std.specs.Prelude.{slice_get, IfErr, IfOk, IfSome, IsSome}
use Rattle.std.proofs.lemmas.List.{append-nil, length-append, length-take, take-append-drop}
use Rattle.std.proofs.lemmas.Option.{same_Some, slice_get-get_or}
use Rattle.std.proofs.lemmas.Grind.{flat_map-append}
use mathlib.Core.Option.{some}
use lib.ListN.{get_elem?}
use Rattle.zic_columns.specs.Round.{ArePiecesOf, records_of_pieces, taken_records}
use Rattle.zic_columns.specs.Own.{CsvRecord, csv_records}
use Rattle.zic_columns.specs.declared.columns.Taken.{Taken}
use Rattle.zic_columns.specs.declared.columns.Taken.TheVariants as taken
use Rattle.zic_pieces.specs.Task.{AreValues}
use Rattle.zic_zones.specs.declared.zones.Releases.{Releases}
use Rattle.zic_piece_rows.specs.PieceRows.{AreRowsOf, RowsOf}
use Rattle.zic_convert.specs.By.{by_of}
use Rattle.zic_convert.specs.code.Written.{EndsInPieces, EndsInRound, EndsInRows, HasOneTooMany, WritesRound, numbered, writing}
use Rattle.zic_counted.specs.Counts.{Counts}
use Rattle.zic_layouts.specs.declared.layout.Layout.{Layout}
use Rattle.zic_layouts.specs.Noted.{RowNote}
use Rattle.zic_base.specs.declared.stops.RunStop.{RunStop}
use Rattle.zic_base.specs.declared.stops.RunStop.TheVariants as stop
use Rattle.zic_convert.specs.code.Pieces.{ArePieces, AreRowsOfPiece, IsOutcomeOf, Pieces, joined}
use Rattle.zic_base.specs.declared.row_fault.RowFault.{RowFault}
use Rattle.zic_base.specs.declared.row_fault.RowKind.{RowKind}
use Rattle.zic_piece_rows.specs.LayoutRows.{RecordsConvertBy, faults_by}
use Rattle.zic_convert.specs.Run.{AreFew}
use Rattle.zic_convert.specs.declared.tally.Tally.{Tally}
use Rattle.zic_piece_rows.proofs.Coming.{come_more, faults_more, no_rows, rows_followed}
use Rattle.zic_columns.proofs.PieceRecords.{wholes_counted}
use Rattle.zic_convert.proofs.TooMany.{are_on, cut_ends, fails_before, few_of_front, row_within, rows_on, stops_before}

module _ (layout : Layout) (releases : Releases) (most size : ℕ) where
  -- the rows of pieces, by those of each
  abbrev AreRowsOfEach : ℕ → List (List ℕ) → List RowsOf → Type 0
  AreRowsOfEach first pieces values =
      (i : ℕ) (x : RowsOf) → get_elem? values i ≡ some x → IfSome (slice_get pieces i) (λ piece. AreRowsOf layout releases most (first + i * size) (csv_records layout.delimiter piece) x)

  -- those of the first piece
  first_rows : (first : ℕ) (piece : List ℕ) (pieces : List (List ℕ)) (x : RowsOf) (values : List RowsOf) → AreRowsOfEach first (piece ∷ pieces) (x ∷ values)
      → AreRowsOf layout releases most first (csv_records layout.delimiter piece) x
  first_rows first piece pieces x values each =
      let at : first + 0 * size ≡ first = omega arith in
      subst (λ (n : ℕ). AreRowsOf layout releases most n (csv_records layout.delimiter piece) x) at (each 0 x refl)

  -- those of the pieces after it
  later_rows : (first : ℕ) (piece : List ℕ) (pieces : List (List ℕ)) (x : RowsOf) (values : List RowsOf) → AreRowsOfEach first (piece ∷ pieces) (x ∷ values)
      → AreRowsOfEach (first + size) pieces values
  later_rows first piece pieces x values each =
      λ i y e.
      let at : first + suc i * size ≡ first + size + i * size = grind arith in
      subst (λ (n : ℕ). IfSome (slice_get pieces i) (λ piece. AreRowsOf layout releases most n (csv_records layout.delimiter piece) y)) at (each (suc i) y e)

  -- the rows of all, where each piece but the last is full
  rows_of_all : (first : ℕ) (pieces : List (List ℕ)) (values : List RowsOf) → ArePiecesOf layout.delimiter size pieces → length values ≡ length pieces → AreRowsOfEach first pieces values
      → AreRowsOf layout releases most first (records_of_pieces layout.delimiter pieces) (joined values)
  rows_of_all first [] [] cut long each = no_rows layout releases most first
  rows_of_all first [] (x ∷ values) cut long each = absurd (omega (arith, long))
  rows_of_all first (p ∷ ps) [] cut long each = absurd (omega (arith, long))
  rows_of_all first (p ∷ []) (x ∷ y ∷ values) cut long each = absurd (omega (arith, long))
  rows_of_all first (p ∷ []) (x ∷ []) cut long each =
      rows_followed layout releases most first (csv_records layout.delimiter p) [] x (joined []) x.fault refl (first_rows first p [] x [] each) (λ none. no_rows layout releases most (first + length (csv_records layout.delimiter p)))
  rows_of_all first (p ∷ q ∷ ps) (x ∷ values) cut long each =
      let after = rows_of_all (first + size) (q ∷ ps) values cut.1 (omega (arith, long)) (later_rows first p (q ∷ ps) x values each) in
      rows_followed layout releases most first (csv_records layout.delimiter p) (records_of_pieces layout.delimiter (q ∷ ps)) x (joined values) x.fault refl (first_rows first p (q ∷ ps) x values each)
      (λ none. subst (λ (n : ℕ). AreRowsOf layout releases most (first + n) (records_of_pieces layout.delimiter (q ∷ ps)) (joined values)) (sym (wholes_counted layout.delimiter p ∙ cut.0)) after)

  -- the rows of the first pieces
  rows_of_front : (i first : ℕ) (pieces : List (List ℕ)) (values : List RowsOf) → ArePiecesOf layout.delimiter size pieces → length values ≡ length pieces → AreRowsOfEach first pieces values
      → AreRowsOf layout releases most first (records_of_pieces layout.delimiter (take i pieces)) (joined (take i values))
  rows_of_front zero first pieces values cut long each = no_rows layout releases most first
  rows_of_front (suc i) first [] [] cut long each = no_rows layout releases most first
  rows_of_front (suc i) first [] (x ∷ values) cut long each = absurd (omega (arith, long))
  rows_of_front (suc i) first (p ∷ ps) [] cut long each = absurd (omega (arith, long))
  rows_of_front (suc i) first (p ∷ []) (x ∷ y ∷ values) cut long each = absurd (omega (arith, long))
  rows_of_front (suc zero) first (p ∷ []) (x ∷ []) cut long each =
      rows_followed layout releases most first (csv_records layout.delimiter p) [] x (joined []) x.fault refl (first_rows first p [] x [] each) (λ none. no_rows layout releases most (first + length (csv_records layout.delimiter p)))
  rows_of_front (suc (suc i)) first (p ∷ []) (x ∷ []) cut long each =
      rows_followed layout releases most first (csv_records layout.delimiter p) [] x (joined []) x.fault refl (first_rows first p [] x [] each) (λ none. no_rows layout releases most (first + length (csv_records layout.delimiter p)))
  rows_of_front (suc i) first (p ∷ q ∷ ps) (x ∷ values) cut long each =
      let after = rows_of_front i (first + size) (q ∷ ps) values cut.1 (omega (arith, long)) (later_rows first p (q ∷ ps) x values each) in
      rows_followed layout releases most first (csv_records layout.delimiter p) (records_of_pieces layout.delimiter (take i (q ∷ ps))) x (joined (take i values)) x.fault refl (first_rows first p (q ∷ ps) x values each)
      (λ none. subst (λ (n : ℕ). AreRowsOf layout releases most (first + n) (records_of_pieces layout.delimiter (take i (q ∷ ps))) (joined (take i values))) (sym (wholes_counted layout.delimiter p ∙ cut.0)) after)

-- the rows of all pieces of a round
pub joined_round : (p : Pieces) (values : List RowsOf) → ArePieces p → AreValues (IsOutcomeOf p) (length p.pieces) values
    → AreRowsOf p.layout p.releases p.most p.first (records_of_pieces p.layout.delimiter p.pieces) (joined values)
joined_round p values sound are = rows_of_all p.layout p.releases p.most p.size p.first p.pieces values sound.cut are.0 (λ i rows at. (are.1 i rows at).0)

-- the records of the first pieces, and of the others
wholes_split : (d i : ℕ) (pieces : List (List ℕ)) → records_of_pieces d pieces ≡ records_of_pieces d (take i pieces) ++ records_of_pieces d (drop i pieces)
wholes_split d i pieces = ap (records_of_pieces d) (sym (take-append-drop i pieces)) ∙ flat_map-append (csv_records d) (take i pieces) (drop i pieces)

-- where pieces with few faults end, their rows do
module _ {W : Type 0} (contents : W → Option (List ℕ)) (old new : Counts W) (log log' : Option (List RowNote)) (p : Pieces) (limit : Option ℕ) (values : List RowsOf) (sound : ArePieces p)
    (are : AreValues (IsOutcomeOf p) (length p.pieces) values) (few : AreFew limit (joined values).faults) where
  pub pieces_end : (why : RunStop) → EndsInPieces (writing contents old new log log') p.first values why
      → EndsInRows (by_of p.layout p.releases p.most limit) (writing contents old new log log') (numbered p.first (records_of_pieces p.layout.delimiter p.pieces)) (joined values) why
  pieces_end (stop.Row row kind) h = inl (h, few)
  pieces_end stop.WriteFailed (i, fails, noted) =
      let done = records_of_pieces p.layout.delimiter (take i p.pieces) in
      let more = records_of_pieces p.layout.delimiter (drop i p.pieces) in
      let parts = wholes_split p.layout.delimiter i p.pieces in
      let are_front = rows_of_front p.layout p.releases p.most p.size i p.first p.pieces values sound.cut are.0 (λ k rows at. (are.1 k rows at).0) in
      record {
        done = done;
        more = more;
        parts = parts;
        front = joined (take i values);
        are = are_front;
        reached = records_of_pieces p.layout.delimiter p.pieces;
        beyond = [];
        within = sym (append-nil (records_of_pieces p.layout.delimiter p.pieces));
        upto = joined values;
        are_upto = joined_round p values sound are;
        fails = fails;
        noted = noted;
        may = few;
        few = few_of_front (by_of p.layout p.releases p.most limit) p.first (records_of_pieces p.layout.delimiter p.pieces) done more parts (joined values) (joined_round p values sound are) (joined (take i values)) are_front few;
      }
  pieces_end (stop.Source fault) h = absurd h
  pieces_end stop.ReadFailed h = absurd h
  pieces_end stop.ColumnTooLong h = absurd h
  pieces_end stop.Memory h = absurd h
  pieces_end stop.NoThread h = absurd h
  pieces_end stop.LogFailed h = (h, few)

-- so a round has no more than so many full pieces
round_few : (d size : ℕ) (pieces : List (List ℕ)) → ArePiecesOf d size pieces → length (records_of_pieces d pieces) ≤ length pieces * size
round_few d size [] cut = omega arith
round_few d size (p ∷ []) cut = omega (arith, length-append (csv_records d p) [], wholes_counted d p, cut.1)
round_few d size (p ∷ q ∷ ps) cut =
    let after = round_few d size (q ∷ ps) cut.1 in
    let both = length-append (csv_records d p) (records_of_pieces d (q ∷ ps)) in
    let times : (1 + length (q ∷ ps)) * size ≡ size + length (q ∷ ps) * size = grind arith in
    omega (arith, both, wholes_counted d p, cut.0, after, times)

-- and some record, where it has a piece
some_records : (d size : ℕ) (pieces : List (List ℕ)) → 0 < length pieces → 0 < size → ArePiecesOf d size pieces → 0 < length (records_of_pieces d pieces)
some_records d size [] has positive cut = absurd (omega (arith, has))
some_records d size (p ∷ []) has positive cut = omega (arith, length-append (csv_records d p) [], wholes_counted d p, cut.0)
some_records d size (p ∷ q ∷ ps) has positive cut = omega (arith, length-append (csv_records d p) (records_of_pieces d (q ∷ ps)), wholes_counted d p, positive, cut.0)

pub taken_some : (d size : ℕ) (next : Taken) (pieces : List (List ℕ)) → (next ≡ taken.End → ⊥) → (next ≡ taken.TooLong → ⊥) → (next ≡ taken.Round → 0 < length pieces) → 0 < size → ArePiecesOf d size pieces → 0 < length (taken_records d next pieces)
taken_some d size taken.Round pieces goes short has positive cut = some_records d size pieces (has refl) positive cut
taken_some d size (taken.OpenLine line) pieces goes short has positive cut = omega arith
taken_some d size taken.TooLong pieces goes short has positive cut = absurd (short refl)
taken_some d size taken.End pieces goes short has positive cut = absurd (goes refl)

-- and few enough for their numbers
product : (a b : ℕ) → a ≤ 4294967296 → b ≤ 65536 → a * b ≤ 281474976710656
product a b h k = grind (arith, h, k)

pub few_records : (p : Pieces) → ArePieces p → length (records_of_pieces p.layout.delimiter p.pieces) ≤ 281474976710656
few_records p sound = omega (arith, round_few p.layout.delimiter p.size p.pieces sound.cut, product (length p.pieces) p.size sound.few sound.small)

-- ---- the pieces up to one

-- the first pieces of a round are pieces
front_cut : (d size n : ℕ) (pieces : List (List ℕ)) → 1 ≤ size → ArePiecesOf d size pieces → ArePiecesOf d size (take n pieces)
front_cut d size zero pieces least cut = tt
front_cut d size (suc n) [] least cut = tt
front_cut d size (suc zero) (p ∷ []) least cut = cut
front_cut d size (suc (suc n)) (p ∷ []) least cut = cut
front_cut d size (suc zero) (p ∷ q ∷ ps) least cut = (omega (arith, cut.0, least), omega (arith, cut.0))
front_cut d size (suc (suc n)) (p ∷ q ∷ ps) least cut = (cut.0, front_cut d size (suc n) (q ∷ ps) least cut.1)

pub front_sound : (p : Pieces) (i : ℕ) → ArePieces p → ArePieces (record p { pieces = take (i + 1) p.pieces; stops = false })
front_sound p i sound = record {
  some = sound.some;
  small = sound.small;
  cut = front_cut p.layout.delimiter p.size (i + 1) p.pieces sound.some sound.cut;
  few = omega (arith, length-take (i + 1) p.pieces, sound.few);
  least = sound.least;
  first = sound.first;
}

-- a row with one fault too many has a number of its own
pub row_positive : (p : Pieces) (limit : Option ℕ) (fault : RowFault) → ArePieces p → HasOneTooMany p limit fault → 1 ≤ fault.row
row_positive p limit fault sound (rows, are, before, many) =
    omega (arith, sound.least, (row_within (by_of p.layout p.releases p.most limit) p.first (records_of_pieces p.layout.delimiter p.pieces) rows are fault.row fault.kind before many).0)

-- the records up to a piece, and its own
front_records : (d size : ℕ) (pieces : List (List ℕ)) (i : ℕ) (piece : List ℕ) → ArePiecesOf d size pieces → slice_get pieces i ≡ Some piece
    → (before : List CsvRecord) × (length before ≡ i * size) × (records_of_pieces d (take (suc i) pieces) ≡ before ++ csv_records d piece)
front_records d size [] i piece cut e = absurd cc
front_records d size (p ∷ ps) zero piece cut e = ([], omega arith, append-nil (csv_records d p) ∙ ap (csv_records d) (same_Some p piece e))
front_records d size (p ∷ []) (suc i) piece cut e = absurd cc
front_records d size (p ∷ q ∷ ps) (suc i) piece cut e =
    let later = front_records d size (q ∷ ps) i piece cut.1 e in (
      csv_records d p ++ later.0,
      (let times : suc i * size ≡ size + i * size = grind arith in omega (arith, length-append (csv_records d p) later.0, wholes_counted d p, cut.0, later.1, times)),
      ap (λ (r : List CsvRecord). csv_records d p ++ r) later.2 ∙ sym (append_assoc (csv_records d p) later.0 (csv_records d piece)),
    )

module _ (layout : Layout) (releases : Releases) (most : ℕ) where
  -- records don't come to rows with a fault and without
  one_way : (number : ℕ) (xs : List CsvRecord) (t u : List (List ℕ)) (fault : Option RowKind) → RecordsConvertBy layout releases most number xs t None → RecordsConvertBy layout releases most number xs u fault → IsSome fault → ⊥
  one_way number [] t u None first second has = cc has
  one_way number [] t u (Some kind) first second has = cc second.1
  one_way number (x ∷ xs) [] u fault first second has = cc first.1
  one_way number (x ∷ xs) (t ∷ ts) [] None first second has = cc has
  one_way number (x ∷ xs) (t ∷ ts) [] (Some kind) first second has = cc (second.0 ∙ first.0)
  one_way number (x ∷ xs) (t ∷ ts) (u ∷ us) fault first second has = one_way (number + 1) xs ts us fault first.2 second.2 has

  -- nor do some that come after others
  clash : (number : ℕ) (xs ys : List CsvRecord) (t u : List (List ℕ)) (fault : Option RowKind) → RecordsConvertBy layout releases most number (xs ++ ys) t None
      → RecordsConvertBy layout releases most (number + length xs) ys u fault → IsSome fault → ⊥
  clash number [] ys t u fault first second has =
      let at : number + 0 ≡ number = omega arith in
      one_way number ys t u fault first (subst (λ (n : ℕ). RecordsConvertBy layout releases most n ys u fault) at second) has
  clash number (x ∷ xs) ys [] u fault first second has = cc first.1
  clash number (x ∷ xs) ys (t ∷ ts) u fault first second has =
      let at : number + suc (length xs) ≡ number + 1 + length xs = omega arith in
      clash (number + 1) xs ys ts u fault first.2 (subst (λ (n : ℕ). RecordsConvertBy layout releases most n ys u fault) at second) has

-- the rows up to a piece that has a fault have one
pub front_faults : (p : Pieces) (i : ℕ) (rows found : RowsOf) → ArePieces p → i < length p.pieces → AreRowsOf p.layout p.releases p.most p.first (records_of_pieces p.layout.delimiter (take (i + 1) p.pieces)) rows
    → AreRowsOfPiece p i found → IsSome found.fault → rows.fault ≡ None → ⊥
front_faults p i rows found sound lt are of_piece has none =
    let piece = get_or p.pieces i [] in
    let e : slice_get p.pieces i ≡ Some piece = slice_get-get_or p.pieces i [] lt in
    let d = p.layout.delimiter in
    let parts = front_records d p.size p.pieces i piece sound.cut e in
    let here = rw e at of_piece in
    let at : i + 1 ≡ suc i = omega arith in
    let all : records_of_pieces d (take (i + 1) p.pieces) ≡ parts.0 ++ csv_records d piece = ap (λ (n : ℕ). records_of_pieces d (take n p.pieces)) at ∙ parts.2 in
    let come = rw (none, all) at are.come in
    clash p.layout p.releases p.most p.first parts.0 (csv_records d piece) are.texts here.texts found.fault come
    (subst (λ (n : ℕ). RecordsConvertBy p.layout p.releases p.most (p.first + n) (csv_records d piece) here.texts found.fault) (sym parts.1) here.come) has

-- rows up to a fault are those of all
pub front_of_all : (p : Pieces) (i : ℕ) (rows : RowsOf) (kind : RowKind) → AreRowsOf p.layout p.releases p.most p.first (records_of_pieces p.layout.delimiter (take (i + 1) p.pieces)) rows → rows.fault ≡ Some kind
    → AreRowsOf p.layout p.releases p.most p.first (records_of_pieces p.layout.delimiter p.pieces) rows
front_of_all p i rows kind are has =
    let d = p.layout.delimiter in
    let all : records_of_pieces d p.pieces ≡ records_of_pieces d (take (i + 1) p.pieces) ++ records_of_pieces d (drop (i + 1) p.pieces) =
    ap (records_of_pieces d) (sym (take-append-drop (i + 1) p.pieces)) ∙ flat_map-append (csv_records d) (take (i + 1) p.pieces) (drop (i + 1) p.pieces) in
    let front = records_of_pieces d (take (i + 1) p.pieces) in
    let rest_after = records_of_pieces d (drop (i + 1) p.pieces) in
    let come = rw has at are.come in
    record {
      texts = are.texts;
      come = rw (all, has) (come_more p.layout p.releases p.most p.first front rest_after are.texts kind come);
      text = are.text;
      count = are.count;
      faults = are.faults ∙ sym (faults_more p.layout p.releases p.most p.first front rest_after are.texts kind come) ∙ ap (faults_by p.layout p.releases.zones p.most p.first) (sym all);
    }

-- ---- a round that is converted again up to a fault

module _ (p : Pieces) (i : ℕ) (found : RowsOf) (sound : ArePieces p) (lt : i < length p.pieces) (of_piece : AreRowsOfPiece p i found) (has : IsSome found.fault) where
  module _ {W : Type 0} (limit : Option ℕ) (contents : W → Option (List ℕ)) (old new : Counts W) (log log' : Option (List RowNote)) where
    -- its rows are not all without a fault
    pub again_ok : (tally : Tally) → WritesRound (record p { pieces = take (i + 1) p.pieces; stops = false }) limit (writing contents old new log log') tally → ⊥
    again_ok tally wrote = front_faults p i wrote.0 found sound lt wrote.1 of_piece has wrote.2.0

    rows_again : (rows : RowsOf) (end : RowKind) → rows.fault ≡ Some end → (why : RunStop)
        → EndsInRows (by_of p.layout p.releases p.most limit) (writing contents old new log log') (numbered p.first (records_of_pieces p.layout.delimiter (take (i + 1) p.pieces))) rows why
        → EndsInRows (by_of p.layout p.releases p.most limit) (writing contents old new log log') (numbered p.first (records_of_pieces p.layout.delimiter p.pieces)) rows why
    rows_again rows end e (stop.Row row kind) (inl h) = inl h
    rows_again rows end e (stop.Row row kind) (inr h) =
        let d = p.layout.delimiter in
        let front = records_of_pieces d (take (i + 1) p.pieces) in
        let rest = records_of_pieces d (drop (i + 1) p.pieces) in
        let come = rw e at h.come in
        inr (record {
          front = h.front;
          rest = h.rest;
          come = rw (wholes_split d (i + 1) p.pieces, e) (come_more p.layout p.releases p.most p.first front rest (h.front ++ h.rest) end come);
          before = h.before;
          too_many = h.too_many;
          number = h.number;
          wrote = h.wrote;
          noted = h.noted;
        })
    rows_again rows end e stop.WriteFailed h =
        let d = p.layout.delimiter in
        let rest = records_of_pieces d (drop (i + 1) p.pieces) in
        record {
          done = h.done;
          more = h.more ++ rest;
          parts = wholes_split d (i + 1) p.pieces ∙ ap (λ (l : List CsvRecord). l ++ rest) h.parts ∙ append_assoc h.done h.more rest;
          front = h.front;
          are = h.are;
          reached = h.reached;
          beyond = h.beyond ++ rest;
          within = wholes_split d (i + 1) p.pieces ∙ ap (λ (l : List CsvRecord). l ++ rest) h.within ∙ append_assoc h.reached h.beyond rest;
          upto = h.upto;
          are_upto = h.are_upto;
          fails = h.fails;
          noted = h.noted;
          few = h.few;
          may = h.may;
        }
    rows_again rows end e (stop.Source fault) h = absurd h
    rows_again rows end e stop.ReadFailed h = absurd h
    rows_again rows end e stop.ColumnTooLong h = absurd h
    rows_again rows end e stop.Memory h = absurd h
    rows_again rows end e stop.NoThread h = absurd h
    rows_again rows end e stop.LogFailed h = absurd (cc (sym h.0.0 ∙ e))

    by_fault : (rows : RowsOf) (fault : Option RowKind) → rows.fault ≡ fault → AreRowsOf p.layout p.releases p.most p.first (records_of_pieces p.layout.delimiter (take (i + 1) p.pieces)) rows → (why : RunStop)
        → EndsInRows (by_of p.layout p.releases p.most limit) (writing contents old new log log') (numbered p.first (records_of_pieces p.layout.delimiter (take (i + 1) p.pieces))) rows why
        → EndsInRound p limit (writing contents old new log log') why
    by_fault rows None e are why ends = absurd (front_faults p i rows found sound lt are of_piece has e)
    by_fault rows (Some kind) e are why ends = inr (rows, front_of_all p i rows kind are e, rows_again rows kind e why ends)

    -- it ends as the whole does
    pub again_err : (why : RunStop) → EndsInRound (record p { pieces = take (i + 1) p.pieces; stops = false }) limit (writing contents old new log log') why → EndsInRound p limit (writing contents old new log log') why
    again_err why (inl memory) = inl memory
    again_err why (inr ends) = by_fault ends.0 ends.0.fault refl ends.1 why ends.2

-- ---- a round that is converted again up to a row with one fault too many

module _ (p : Pieces) (sound : ArePieces p) (fault : RowFault) where
  -- its pieces
  abbrev pub low_of : Pieces
  low_of = record p { most = fault.row - 1; stops = false }

  pub sound_low : ArePieces low_of
  sound_low = record {
    some = sound.some;
    small = sound.small;
    cut = sound.cut;
    few = sound.few;
    least = sound.least;
    first = sound.first;
  }

  module _ (values : List RowsOf) (are : AreValues (IsOutcomeOf low_of) (length p.pieces) values) where
    pub joined_low : AreRowsOf p.layout p.releases (fault.row - 1) p.first (records_of_pieces p.layout.delimiter p.pieces) (joined values)
    joined_low = joined_round low_of values sound_low are

    module _ (limit : Option ℕ) (many : HasOneTooMany p limit fault) where
      at : fault.row - 1 + 1 ≡ fault.row
      at = omega (arith, row_positive p limit fault sound many)

      -- it ends at that row
      pub low_ends : (joined values).fault ≡ None → ⊥
      low_ends none =
          let (rows, are_rows, before, one) = many in
          cut_ends (by_of p.layout p.releases p.most limit) p.first (records_of_pieces p.layout.delimiter p.pieces) rows are_rows fault.row fault.kind before one (fault.row - 1) at (joined values) joined_low none

      module _ {W : Type 0} (contents : W → Option (List ℕ)) (old new : Counts W) (log log' : Option (List RowNote)) where
        pub low_stops : (row : ℕ) (kind : RowKind) → EndsInPieces (writing contents old new log log') p.first values (stop.Row row kind)
            → EndsInRound p limit (writing contents old new log log') (stop.Row fault.row fault.kind)
        low_stops row kind h =
            let (rows, are_rows, before, one) = many in
            let rs = records_of_pieces p.layout.delimiter p.pieces in
            inr (
              rows_on (by_of p.layout p.releases p.most limit) p.first rs rows are_rows fault.row fault.kind before one (fault.row - 1) at (joined values) joined_low,
              are_on (by_of p.layout p.releases p.most limit) p.first rs rows are_rows fault.row fault.kind before one (fault.row - 1) at (joined values) joined_low,
              inr (stops_before (by_of p.layout p.releases p.most limit) p.first rs rows are_rows fault.row fault.kind before one (fault.row - 1) at (joined values) joined_low contents old new log log' row kind h),
            )

        -- or the writer fails before it
        pub low_fails : (why : RunStop) → ((row : ℕ) (kind : RowKind) → why ≡ stop.Row row kind → ⊥) → EndsInPieces (writing contents old new log log') p.first values why → EndsInRound p limit (writing contents old new log log') why
        low_fails (stop.Row row kind) other h = absurd (other row kind refl)
        low_fails stop.WriteFailed other h =
            let (rows, are_rows, before, one) = many in
            let rs = records_of_pieces p.layout.delimiter p.pieces in
            inr (
              rows_on (by_of p.layout p.releases p.most limit) p.first rs rows are_rows fault.row fault.kind before one (fault.row - 1) at (joined values) joined_low,
              are_on (by_of p.layout p.releases p.most limit) p.first rs rows are_rows fault.row fault.kind before one (fault.row - 1) at (joined values) joined_low,
              fails_before (by_of p.layout p.releases p.most limit) p.first rs rows are_rows fault.row fault.kind before one (fault.row - 1) at (joined values) joined_low contents old new log log'
                  (pieces_end contents old new log log' low_of None values sound_low are tt stop.WriteFailed h),
            )
        low_fails (stop.Source fault) other h = absurd h
        low_fails stop.ReadFailed other h = absurd h
        low_fails stop.ColumnTooLong other h = absurd h
        low_fails stop.Memory other h = absurd h
        low_fails stop.NoThread other h = absurd h
        low_fails stop.LogFailed other h = absurd (low_ends h.0)

-- what holds of a value where more does
pub on_ok : {X E : Type 0} (r : Result X E) (P Q : X → Type 0) → ((x : X) → P x → Q x) → IfOk r P → IfOk r Q
on_ok (Ok x) P Q f is = f x is
on_ok (Err e) P Q f is = tt

pub on_err : {X E : Type 0} (r : Result X E) (P Q : E → Type 0) → ((e : E) → P e → Q e) → IfErr r P → IfErr r Q
on_err (Ok x) P Q f is = tt
on_err (Err e) P Q f is = f e is

-- the rows of a piece's bytes are those of the piece
pub rows_of_bytes : (p : Pieces) (i : ℕ) (piece : List ℕ) (rows : RowsOf) → slice_get p.pieces i ≡ Some piece
    → AreRowsOf p.layout p.releases p.most (p.first + i * p.size) (csv_records p.layout.delimiter piece) rows → AreRowsOfPiece p i rows
rows_of_bytes p i piece rows at are = rw at are

-- what holds of a result holds together
pub ok_both : {X E : Type 0} (result : Result X E) (P Q : X → Type 0) → IfOk result P → IfOk result Q → IfOk result (λ x. P x × Q x)
ok_both (Ok x) P Q p q = (p, q)
ok_both (Err e) P Q p q = tt
