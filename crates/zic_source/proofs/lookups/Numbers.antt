-- The numbers of a set's rules.
use Rattle.std.proofs.Common.{◌≡◌, ℕ, ◌+◌, Bool, true, false, cond, eqb, List, [], ◌∷◌, ◌++◌, length, map, refl, sym, ap, ◌∙◌, arith}
use Rattle.std.specs.Prelude.{◌||◌, not, filter, bytes_eq, count_by}
use Rattle.std.specs.List.{list_any, enumerate_from}
use Rattle.std.specs.Cmp.Lexicographic.{nat_list_eq_equiv}
use Rattle.std.proofs.lemmas.Bool.{ne_eqb}
use Rattle.std.proofs.lemmas.List.Sums.{sum_by-cons}
use Rattle.zic_lines.specs.declared.rule_line.Rule.{Rule}
use Rattle.zic_source.specs.declared.sets.Sets.{Sets}
use Rattle.zic_source.specs.Source.{is_of_set, set_size, is_set, set_rules}
use Rattle.zic_source.specs.code.Sets.{numbers_of, IndexesSets}

module _ {A : Type 0} (test : A → Bool) where
  -- the numbers of the elements that pass, counted from any number
  abbrev passing : ℕ → List A → List ℕ
  passing n xs = map (λ x. x.0) (filter (λ x. test x.1) (enumerate_from n xs))

  first_passes : (n : ℕ) (x : A) (xs : List A) (b : Bool) → test x ≡ b → passing n (x ∷ xs) ≡ cond b (n ∷ passing (n + 1) xs) (passing (n + 1) xs)
  first_passes n x xs true e = rw e refl
  first_passes n x xs false e = rw e refl

  put : (b c : Bool) (n last : ℕ) (xs ys : List ℕ) → ys ≡ cond c (xs ++ last ∷ []) xs → cond b (n ∷ ys) ys ≡ cond c (cond b (n ∷ xs) xs ++ last ∷ []) (cond b (n ∷ xs) xs)
  put true true n last xs ys e = ap (λ (zs : List ℕ). n ∷ zs) e
  put true false n last xs ys e = ap (λ (zs : List ℕ). n ∷ zs) e
  put false true n last xs ys e = e
  put false false n last xs ys e = e

  last_passes : (n : ℕ) (xs : List A) (x : A) → passing n (xs ++ x ∷ []) ≡ cond (test x) (passing n xs ++ (n + length xs) ∷ []) (passing n xs)
  last_passes n [] x = let same : n ≡ n + 0 = omega arith in first_passes n x [] (test x) refl ∙ ap (λ (m : ℕ). cond (test x) (m ∷ []) []) same
  last_passes n (y ∷ xs) x =
      let same : n + 1 + length xs ≡ n + length (y ∷ xs) = omega arith in
      let later : passing (n + 1) (xs ++ x ∷ []) ≡ cond (test x) (passing (n + 1) xs ++ (n + length (y ∷ xs)) ∷ []) (passing (n + 1) xs) =
      last_passes (n + 1) xs x ∙ ap (λ (m : ℕ). cond (test x) (passing (n + 1) xs ++ m ∷ []) (passing (n + 1) xs)) same in
      first_passes n y (xs ++ x ∷ []) (test y) refl ∙ put (test y) (test x) n (n + length (y ∷ xs)) (passing (n + 1) xs) (passing (n + 1) (xs ++ x ∷ [])) later
      ∙ sym (ap (λ (ns : List ℕ). cond (test x) (ns ++ (n + length (y ∷ xs)) ∷ []) ns) (first_passes n y xs (test y) refl))

  one_longer : (b : Bool) (n k : ℕ) (xs : List ℕ) → length xs ≡ k → length (cond b (n ∷ xs) xs) ≡ cond b 1 0 + k
  one_longer true n k xs e = omega arith
  one_longer false n k xs e = omega arith

  passing_count : (n : ℕ) (xs : List A) → length (passing n xs) ≡ count_by test xs
  passing_count n [] = refl
  passing_count n (x ∷ xs) =
      ap length (first_passes n x xs (test x) refl) ∙ one_longer (test x) n (count_by test xs) (passing (n + 1) xs) (passing_count (n + 1) xs)
      ∙ sym (sum_by-cons (λ (y : A). cond (test y) 1 0) x xs)

  none_of : (b any : Bool) (n : ℕ) (xs : List ℕ) → eqb (length xs) 0 ≡ not any → eqb (length (cond b (n ∷ xs) xs)) 0 ≡ not (b || any)
  none_of true any n xs e = ne_eqb (length (n ∷ xs)) 0 (λ same. absurd (omega arith))
  none_of false any n xs e = e

  none_passes : (n : ℕ) (xs : List A) → eqb (length (passing n xs)) 0 ≡ not (list_any test xs)
  none_passes n [] = refl
  none_passes n (x ∷ xs) = ap (λ (ns : List ℕ). eqb (length ns) 0) (first_passes n x xs (test x) refl) ∙ none_of (test x) (list_any test xs) n (passing (n + 1) xs) (none_passes (n + 1) xs)

-- a set has as many numbers as rules
pub set_rules_size : (name : List ℕ) (rules : List Rule) → length (set_rules name rules) ≡ set_size name rules
set_rules_size name rules = passing_count (is_of_set name) 0 rules

-- a set has no number where no rule has its name
pub set_rules_none : (name : List ℕ) (rules : List Rule) → eqb (length (set_rules name rules)) 0 ≡ not (is_set name rules)
set_rules_none name rules = none_passes (is_of_set name) 0 rules

-- the number of one rule more is the last of its set
pub sets_unchanged : (old new : Sets) (rules : List Rule) (rule : Rule) (number : ℕ) → IndexesSets old rules → number ≡ length rules
    → ((other : List ℕ) → numbers_of new other ≡ cond (bytes_eq rule.name other) (numbers_of old other ++ number ∷ []) (numbers_of old other)) → IndexesSets new (rules ++ rule ∷ [])
sets_unchanged old new rules rule number is last added = λ name.
    let at : number ≡ 0 + length rules = omega arith in
    added name
    ∙ ap (λ (b : Bool). cond b (numbers_of old name ++ number ∷ []) (numbers_of old name)) (nat_list_eq_equiv.symm rule.name name)
    ∙ ap (λ (ns : List ℕ). cond (is_of_set name rule) (ns ++ number ∷ []) ns) (is name)
    ∙ ap (λ (n : ℕ). cond (is_of_set name rule) (set_rules name rules ++ n ∷ []) (set_rules name rules)) at
    ∙ sym (last_passes (is_of_set name) 0 rules rule)
