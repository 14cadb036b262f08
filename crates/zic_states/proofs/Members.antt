-- The numbers of a set's rules.
use Rattle.std.proofs.Common.{◌≡◌, ℕ, zero, suc, ◌+◌, ◌<◌, ◌≤◌, Bool, true, false, cond, List, [], ◌∷◌, length, get_or, map, Some, refl, sym, ap, subst, ◌∙◌, arith}
use Rattle.std.specs.Prelude.{filter, slice_get, All, AllPairs, Contains}
use Rattle.std.specs.List.{enumerate_from}
use Rattle.std.proofs.lemmas.List.Elements.{All-nil, All-cons, All-weaker}
use Rattle.std.proofs.lemmas.List.Kept.{AllPairs-cons}
use Rattle.std.proofs.lemmas.Option.{slice_get_within}
use Rattle.zic_lines.specs.declared.rule_line.Rule.{Rule}
use Rattle.zic_source.specs.Source.{is_of_set, set_rules}
use Rattle.zic_states.specs.Occurrence.{RuleSet, IsMember}

module _ {A : Type 0} (test : A → Bool) where
  -- the numbers of the elements that pass, counted from any number
  abbrev passing : ℕ → List A → List ℕ
  passing n xs = map (λ x. x.0) (filter (λ x. test x.1) (enumerate_from n xs))

  -- k is the number of an element that passes
  record IsPassing (n : ℕ) (xs : List A) (k : ℕ) : Type 0 where
    pub place : ℕ
    pub element : A
    pub is : k ≡ n + place
    pub at : slice_get xs place ≡ Some element
    pub passes : test element ≡ true

  first_passes : (n : ℕ) (x : A) (xs : List A) (b : Bool) → test x ≡ b → passing n (x ∷ xs) ≡ cond b (n ∷ passing (n + 1) xs) (passing (n + 1) xs)
  first_passes n x xs true e = rw e refl
  first_passes n x xs false e = rw e refl

  later : (n : ℕ) (x : A) (xs : List A) (k : ℕ) → IsPassing (n + 1) xs k → IsPassing n (x ∷ xs) k
  later n x xs k is = record { place = suc is.place; element = is.element; is = let same : k ≡ n + 1 + is.place = is.is in omega arith; at = is.at; passes = is.passes }

  each_with : (n : ℕ) (x : A) (xs : List A) (b : Bool) → test x ≡ b → All (IsPassing (n + 1) xs) (passing (n + 1) xs) → All (IsPassing n (x ∷ xs)) (cond b (n ∷ passing (n + 1) xs) (passing (n + 1) xs))
  each_with n x xs true e rest =
      All-cons (IsPassing n (x ∷ xs)) n (passing (n + 1) xs) (record { place = 0; element = x; is = omega arith; at = refl; passes = e })
      (All-weaker (IsPassing (n + 1) xs) (IsPassing n (x ∷ xs)) (later n x xs) (passing (n + 1) xs) rest)
  each_with n x xs false e rest = All-weaker (IsPassing (n + 1) xs) (IsPassing n (x ∷ xs)) (later n x xs) (passing (n + 1) xs) rest

  each_passes : (n : ℕ) (xs : List A) → All (IsPassing n xs) (passing n xs)
  each_passes n [] = All-nil (IsPassing n [])
  each_passes n (x ∷ xs) = subst (λ (ks : List ℕ). All (IsPassing n (x ∷ xs)) ks) (sym (first_passes n x xs (test x) refl)) (each_with n x xs (test x) refl (each_passes (n + 1) xs))

  after : (b : Bool) (n : ℕ) (ks : List ℕ) (k : ℕ) → Contains ks k → Contains (cond b (n ∷ ks) ks) k
  after true n ks k has = (suc has.0, let within : has.0 < length ks = has.1 in omega arith, has.2)
  after false n ks k has = has

  here : (b : Bool) (n : ℕ) (ks : List ℕ) → b ≡ true → Contains (cond b (n ∷ ks) ks) n
  here true n ks e = (0, omega arith, refl)
  here false n ks e = absurd cc

  all_pass : (n : ℕ) (xs : List A) (place : ℕ) (x : A) → slice_get xs place ≡ Some x → test x ≡ true → Contains (passing n xs) (n + place)
  all_pass n [] place x at passes = absurd cc
  all_pass n (y ∷ xs) zero x at passes =
      let same : y ≡ x = cc in
      let itself : n ≡ n + 0 = omega arith in
      subst (λ (k : ℕ). Contains (passing n (y ∷ xs)) k) itself
      (subst (λ (ks : List ℕ). Contains ks n) (sym (first_passes n y xs (test y) refl)) (here (test y) n (passing (n + 1) xs) (ap test same ∙ passes)))
  all_pass n (y ∷ xs) (suc place) x at passes =
      let itself : n + 1 + place ≡ n + suc place = omega arith in
      subst (λ (k : ℕ). Contains (passing n (y ∷ xs)) k) itself
      (subst (λ (ks : List ℕ). Contains ks (n + 1 + place)) (sym (first_passes n y xs (test y) refl)) (after (test y) n (passing (n + 1) xs) (n + 1 + place) (all_pass (n + 1) xs place x at passes)))

  rise_with : (n : ℕ) (b : Bool) (ks : List ℕ) → All (λ k. n + 1 ≤ k) ks → AllPairs (λ j k. j < k) ks → AllPairs (λ j k. j < k) (cond b (n ∷ ks) ks)
  rise_with n true ks above rise = AllPairs-cons (λ j k. j < k) n ks (All-weaker (λ k. n + 1 ≤ k) (λ k. n < k) (λ k h. omega arith) ks above) rise
  rise_with n false ks above rise = rise

  numbers_rise : (n : ℕ) (xs : List A) → AllPairs (λ j k. j < k) (passing n xs)
  numbers_rise n [] = λ i j d lt within. absurd (omega arith)
  numbers_rise n (x ∷ xs) =
      subst (λ (ks : List ℕ). AllPairs (λ j k. j < k) ks) (sym (first_passes n x xs (test x) refl))
      (rise_with n (test x) (passing (n + 1) xs)
      (All-weaker (IsPassing (n + 1) xs) (λ k. n + 1 ≤ k) (λ k is. let same : k ≡ n + 1 + is.place = is.is in omega arith) (passing (n + 1) xs) (each_passes (n + 1) xs))
      (numbers_rise (n + 1) xs))

-- a number with its rule
pub record IsMemberNumber (set : RuleSet) (number : ℕ) : Type 0 where
  pub rule : Rule
  pub member : IsMember set number rule

member_from : (set : RuleSet) (number : ℕ) → IsPassing (is_of_set set.name) 0 set.rules number → IsMemberNumber set number
member_from set number is =
    let same : is.place ≡ number = omega (arith, is.is) in
    record { rule = is.element; member = record { numbered = ap (slice_get set.rules) (sym same) ∙ is.at; of_set = is.passes } }

-- each number of a set is one of its rules
pub members : (set : RuleSet) → All (IsMemberNumber set) (set_rules set.name set.rules)
members set = All-weaker (IsPassing (is_of_set set.name) 0 set.rules) (IsMemberNumber set) (member_from set) (set_rules set.name set.rules) (each_passes (is_of_set set.name) 0 set.rules)

-- and each of its rules has its number there
pub has_members : (set : RuleSet) (number : ℕ) (rule : Rule) → IsMember set number rule → Contains (set_rules set.name set.rules) number
has_members set number rule is =
    let same : 0 + number ≡ number = omega arith in
    subst (λ (k : ℕ). Contains (set_rules set.name set.rules) k) same (all_pass (is_of_set set.name) 0 set.rules number rule is.numbered is.of_set)

-- the numbers rise
pub members_rise : (set : RuleSet) → AllPairs (λ j k. j < k) (set_rules set.name set.rules)
members_rise set = numbers_rise (is_of_set set.name) 0 set.rules

-- a number of a set is one of a rule
pub member_at : (set : RuleSet) (numbers : List ℕ) (place : ℕ) → numbers ≡ set_rules set.name set.rules → place < length numbers → IsMemberNumber set (get_or numbers place 0)
member_at set numbers place e within = subst (λ (ns : List ℕ). All (IsMemberNumber set) ns) (sym e) (members set) place 0 within

pub member_within : (set : RuleSet) (numbers : List ℕ) (place : ℕ) → numbers ≡ set_rules set.name set.rules → place < length numbers → get_or numbers place 0 < length set.rules
member_within set numbers place e within =
    let is = member_at set numbers place e within in
    slice_get_within set.rules (get_or numbers place 0) is.rule is.member.numbered
