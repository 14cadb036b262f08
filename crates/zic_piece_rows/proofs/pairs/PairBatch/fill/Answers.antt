use Rattle.std.proofs.Common.{◌≡◌, ◌<◌, ◌∙◌, ℕ, List, Option, None, Some, arith, sym}
use Rattle.std.specs.Prelude.{IfSome, slice_index_or}
use Rattle.zic_base.specs.State.{Shown}
use Rattle.zic_zones.specs.declared.slot.TheConstants.{UNKNOWN}
use Rattle.zic_piece_rows.specs.code.Pairs.{HaveNumber}
use Rattle.zic_piece_rows.specs.declared.pairs.Pairs.{Pairs}
use Rattle.zic_piece_rows.specs.declared.piece.Piece.{Piece}
use Rattle.zic_piece_rows.proofs.pairs.PairBatch.fill.Goals as goal

-- no state is known
none_known : (count : ℕ) (pairs : Pairs) (files : List ℕ) (states : List Shown) (numbers : List ℕ) → ((i : ℕ) → i < count → slice_index_or numbers i 0 ≡ UNKNOWN) → (other : Option Piece)
    → IfSome other (λ o. HaveNumber o count pairs files states numbers)
none_known count pairs files states numbers none None = tt
none_known count pairs files states numbers none (Some other) = λ i lt known. absurd (known (none i lt))

pub returns-then-piece-number-clause-columns : goal.returns-then-piece-number-clause-columns
returns-then-piece-number-clause-columns c =
    let none = c.no_states-self.ensures in
    let others = c.no_states-self-then-piece-number.ensures in
    let alike = c.none_same-self.ensures in
    record {
      pairs = c.requires.pairs;
      states = λ i lt known. absurd (known (none i (omega (arith, lt, c.requires.pairs.few))));
      others = none_known c.args.count _ _ _ _ (λ i lt. others i (omega (arith, lt, c.requires.pairs.few))) c.args.other.now;
      same = λ some i lt is. absurd (cc (sym (alike i (omega (arith, lt, c.requires.pairs.few))) ∙ is));
      may = λ i lt known. absurd (known (none i (omega (arith, lt, c.requires.pairs.few))));
    }

pub find_same-requires-clause-numbers : goal.find_same-requires-clause-numbers
find_same-requires-clause-numbers c = λ i lt known. let (state, got, is) = c.find.ensures i lt known in (state, got, tt)

pub find_same-requires-clause-others : goal.find_same-requires-clause-others
find_same-requires-clause-others c = λ i lt known. let (state, got, is) = c.find_other.ensures i lt known in (state, got, tt)
