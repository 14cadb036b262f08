-- The rows of some pairs, and of one pair more.
use Rattle.std.proofs.Common.{◌≡◌, ◌+◌, ◌<◌, ◌≤◌, ◌∙◌, ℕ, suc, List, [], ◌∷◌, ◌++◌, None, ap, append_assoc, arith, drop, length, map, subst, sym, take}
use Rattle.std.specs.Prelude.{IsSome}
use Rattle.std.proofs.lemmas.List.{map-append, take_more}
use Rattle.zic_columns.specs.Own.{CsvRecord}
use Rattle.zic_columns.specs.declared.fields.Pair.{Pair}
use Rattle.zic_zones.specs.declared.zones.Releases.{Releases}
use Rattle.zic_piece_rows.specs.PieceRows.{AreRowsOf, RowsOf}
use Rattle.zic_piece_rows.specs.code.Pairs.{blank_pair, pair_in, pair_of, pairs_of}
use Rattle.zic_piece_rows.specs.code.Row.{AreNextBy}
use Rattle.zic_piece_rows.specs.declared.piece.Piece.{Piece}
use Rattle.zic_piece_rows.proofs.MoreRows.{end_added, records_at, row_added}

module _ (piece : Piece) (releases : Releases) (pairs : List Pair) where
  -- rows, and those with the rows of the first pairs
  abbrev pub AreWith : RowsOf → ℕ → RowsOf → Type 0
  AreWith first count rows = (before : List CsvRecord) → AreRowsOf piece.layout.now releases piece.most piece.first before first
      → AreRowsOf piece.layout.now releases piece.most piece.first (before ++ pairs_of piece pairs count) rows

  module _ (count place : ℕ) (few : count ≤ length pairs) (lt : place < count) (first old new : RowsOf) (rows : AreWith first place old) (none : old.fault ≡ None)
      (next : AreNextBy piece.layout.now releases piece.most (piece.first + old.count) (pair_of piece (pair_in pairs place)) old new) where
    abbrev one : CsvRecord
    one = pair_of piece (pair_in pairs place)

    -- the pair has a row
    pub pair_added : new.fault ≡ None → AreWith first (place + 1) new
    pair_added goes_on = λ before are.
        let f = pair_of piece in
        let parts = ap (map f) (take_more pairs place blank_pair (omega (arith, few, lt))) ∙ map-append f (take place pairs) (pair_in pairs place ∷ []) in
        let all = row_added piece.layout.now releases piece.most piece.first (before ++ map f (take place pairs)) one old new (rows before are) none next goes_on in
        subst (λ (ws : List CsvRecord). AreRowsOf piece.layout.now releases piece.most piece.first ws new)
        (append_assoc before (map f (take place pairs)) (one ∷ []) ∙ ap (λ (ws : List CsvRecord). before ++ ws) (sym parts)) all

    -- or ends the run
    pub pair_ended : IsSome new.fault → AreWith first count new
    pair_ended some = λ before are.
        let f = pair_of piece in
        let rest = map f (drop (suc place) (take count pairs)) in
        let all = end_added piece.layout.now releases piece.most piece.first (before ++ map f (take place pairs)) one old new (rows before are) none next some rest in
        subst (λ (ws : List CsvRecord). AreRowsOf piece.layout.now releases piece.most piece.first ws new)
        (append_assoc before (map f (take place pairs)) (one ∷ rest) ∙ ap (λ (ws : List CsvRecord). before ++ ws) (sym (records_at f pairs count place blank_pair few lt))) all
