-- The rows of pieces, one piece after another.
use Rattle.std.proofs.Common.{◌≡◌, ◌<◌, ◌≤◌, ◌+◌, ℕ, suc, List, [], ◌∷◌, ◌++◌, length, get_or, drop, take, Option, Some, None, refl, sym, ap, ◌∙◌, append_assoc, arith}
use Rattle.std.specs.Prelude.{IsSome}
use Rattle.std.proofs.Math.Seq.{take-suc}
use Rattle.std.proofs.lemmas.List.{append-nil, take-append-drop}
use Rattle.zic_layouts.specs.Noted.{RowNote}
use Rattle.zic_base.specs.declared.row_fault.RowKind.{RowKind}
use Rattle.zic_piece_rows.specs.PieceRows.{RowsOf, empty_rows}
use Rattle.zic_piece_rows.specs.code.Row.{followed_by}
use Rattle.zic_convert.specs.code.Pieces.{joined}

-- rows after none
after_none : (rows : RowsOf) → followed_by empty_rows rows None ≡ rows
after_none rows =
    let count : 0 + rows.count ≡ rows.count = omega arith in
    rw count refl

-- rows, and no rows after them
pub record AreSame (a b : RowsOf) : Type 0 where
  pub text : a.text ≡ b.text
  pub count : a.count ≡ b.count
  pub fault : a.fault ≡ b.fault
  pub faults : a.faults ≡ b.faults

before_none : (rows : RowsOf) (fault : Option RowKind) → rows.fault ≡ fault → AreSame (followed_by rows empty_rows fault) rows
before_none rows None e = record { text = append-nil rows.text; count = omega arith; fault = sym e; faults = append-nil rows.faults }
before_none rows (Some kind) e = record { text = refl; count = refl; fault = refl; faults = refl }

module _ (x : RowsOf) where
  -- rows after rows after rows
  both_after : (a b : RowsOf) (first then : Option RowKind) → x.fault ≡ first → a.fault ≡ then
      → followed_by x (followed_by a b then) first ≡ followed_by (followed_by x a first) b (followed_by x a first).fault
  both_after a b (Some kind) then e f = rw e refl
  both_after a b None (Some kind) e f = rw f refl
  both_after a b None None e f =
      let count : x.count + (a.count + b.count) ≡ (x.count + a.count) + b.count = omega arith in
      rw (f, count, append_assoc x.text a.text b.text, append_assoc x.faults a.faults b.faults) refl

-- the rows of some pieces, and of others after them
pub joined_append : (xs ys : List RowsOf) → joined (xs ++ ys) ≡ followed_by (joined xs) (joined ys) (joined xs).fault
joined_append [] ys = sym (after_none (joined ys))
joined_append (x ∷ xs) ys =
    ap (λ (r : RowsOf). followed_by x r x.fault) (joined_append xs ys) ∙ both_after x (joined xs) (joined ys) x.fault (joined xs).fault refl refl

module _ (pieces : List RowsOf) (i : ℕ) where
  all_parts : joined pieces ≡ followed_by (joined (take i pieces)) (joined (drop i pieces)) (joined (take i pieces)).fault
  all_parts = ap joined (sym (take-append-drop i pieces)) ∙ joined_append (take i pieces) (drop i pieces)

  text_more : (rows others : RowsOf) (fault : Option RowKind) → (more : List ℕ) × ((followed_by rows others fault).text ≡ rows.text ++ more)
  text_more rows others None = (others.text, refl)
  text_more rows others (Some kind) = ([], sym (append-nil rows.text))

  -- the text of all begins with that of the first
  pub front_more : (more : List ℕ) × ((joined pieces).text ≡ (joined (take i pieces)).text ++ more)
  front_more =
      let more = text_more (joined (take i pieces)) (joined (drop i pieces)) (joined (take i pieces)).fault in
      (more.0, ap (λ (r : RowsOf). r.text) all_parts ∙ more.1)

  count_more : (rows others : RowsOf) (fault : Option RowKind) → rows.count ≤ (followed_by rows others fault).count
  count_more rows others None = omega arith
  count_more rows others (Some kind) = omega arith

  faults_more : (rows others : RowsOf) (fault : Option RowKind) → (more : List RowNote) × ((followed_by rows others fault).faults ≡ rows.faults ++ more)
  faults_more rows others None = (others.faults, refl)
  faults_more rows others (Some kind) = ([], sym (append-nil rows.faults))

  -- and so do their faults
  pub front_faults : (more : List RowNote) × ((joined pieces).faults ≡ (joined (take i pieces)).faults ++ more)
  front_faults =
      let more = faults_more (joined (take i pieces)) (joined (drop i pieces)) (joined (take i pieces)).fault in
      (more.0, ap (λ (r : RowsOf). r.faults) all_parts ∙ more.1)

  -- there are no more of the first than of all
  pub front_few : (joined (take i pieces)).count ≤ (joined pieces).count
  front_few =
      let all = ap (λ (r : RowsOf). r.count) all_parts in
      let more = count_more (joined (take i pieces)) (joined (drop i pieces)) (joined (take i pieces)).fault in
      omega (arith, all, more)

  -- the first are all, where one of them ends the run
  pub front_ends : (kind : RowKind) → (joined (take i pieces)).fault ≡ Some kind → joined pieces ≡ joined (take i pieces)
  front_ends kind some = all_parts ∙ ap (followed_by (joined (take i pieces)) (joined (drop i pieces))) some

  ends_by_fault : (fault : Option RowKind) → (joined (take i pieces)).fault ≡ fault → IsSome fault → joined pieces ≡ joined (take i pieces)
  ends_by_fault None e has = absurd (cc has)
  ends_by_fault (Some kind) e has = front_ends kind e

  pub front_is_all : IsSome (joined (take i pieces)).fault → joined pieces ≡ joined (take i pieces)
  front_is_all has = ends_by_fault (joined (take i pieces)).fault refl has

  -- one piece more
  module _ (rows : RowsOf) (lt : i < length pieces) (is : rows ≡ get_or pieces i rows) (goes_on : (joined (take i pieces)).fault ≡ None) where
    front : RowsOf
    front = joined (take i pieces)

    next_is : joined (take (i + 1) pieces) ≡ followed_by (joined (take i pieces)) (followed_by rows empty_rows rows.fault) None
    next_is =
        let at : i + 1 ≡ suc i = omega arith in
        let parts : take (i + 1) pieces ≡ take i pieces ++ rows ∷ [] =
        ap (λ (n : ℕ). take n pieces) at ∙ take-suc pieces i rows lt ∙ ap (λ (r : RowsOf). take i pieces ++ r ∷ []) (sym is) in
        ap joined parts ∙ joined_append (take i pieces) (rows ∷ []) ∙ ap (followed_by (joined (take i pieces)) (joined (rows ∷ []))) goes_on

    pub next_text : (joined (take (i + 1) pieces)).text ≡ (joined (take i pieces)).text ++ rows.text
    next_text = ap (λ (r : RowsOf). r.text) next_is ∙ ap (λ (l : List ℕ). (joined (take i pieces)).text ++ l) (before_none rows rows.fault refl).text

    pub next_count : (joined (take (i + 1) pieces)).count ≡ (joined (take i pieces)).count + rows.count
    next_count = ap (λ (r : RowsOf). r.count) next_is ∙ ap (λ (n : ℕ). (joined (take i pieces)).count + n) (before_none rows rows.fault refl).count

    pub next_fault : (joined (take (i + 1) pieces)).fault ≡ rows.fault
    next_fault = ap (λ (r : RowsOf). r.fault) next_is ∙ (before_none rows rows.fault refl).fault

    pub next_faults : (joined (take (i + 1) pieces)).faults ≡ (joined (take i pieces)).faults ++ rows.faults
    next_faults = ap (λ (r : RowsOf). r.faults) next_is ∙ ap (λ (l : List RowNote). (joined (take i pieces)).faults ++ l) (before_none rows rows.fault refl).faults
