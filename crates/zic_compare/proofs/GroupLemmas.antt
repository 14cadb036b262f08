-- The names that share lines.
use Rattle.std.proofs.Common.{◌≡◌, ◌≢◌, inl, inr, ℕ, zero, suc, ◌+◌, ◌-◌, ◌<◌, ◌≤◌, Bool, true, false, cond, All, Option, Some, None, List, [], ◌∷◌, ◌++◌, length, drop, take, slice_range, refl, sym, ap, subst, ◌∙◌, arith, append-nil, append_assoc, length-drop}
use Rattle.std.specs.Prelude.{AllPairs, IfSome, IsSomeAnd, bytes_eq, filter, if◌then◌else◌, ◌&&◌, slice_get}
use Rattle.std.proofs.lemmas.Bool.{cases_order, false_from_ne_true, false≢true}
use Rattle.std.proofs.lemmas.Grind.{flat_map-append}
use Rattle.std.proofs.lemmas.List.{take_all}
use Rattle.std.proofs.lemmas.List.Elements.{filter-append}
use Rattle.std.proofs.lemmas.Option.{same_Some}
use Rattle.std.proofs.lemmas.Slice.Eq.{bytes_eq-Decides}
use Rattle.zic_base.proofs.Elements.{all_got, got}
use Rattle.zic_base.proofs.Options.{if_at, some_of}
use Rattle.zic_base.proofs.OrderedLists.{one_by_key}
use Rattle.zic_compare.specs.Groups.{are_same, field_of, group_of, names_in, octets_of, stand_together}
use Rattle.zic_compare.specs.code.Groups.{HasNoneBefore, HasOneBefore}
use Rattle.zic_compare.proofs.FilesLemmas.{file_at, part_more}
use Rattle.zic_files.specs.File.{File}

-- ---- files of a name

-- the files before one have other names
pub others_before : (files : List File) → AllPairs (λ (a b : File). a.name ≢ b.name) files → (n : ℕ) (file : File) (name : List ℕ) → slice_get files n ≡ Some file
    → file.name ≡ name → (k : ℕ) (other : File) → k < n → slice_get files k ≡ Some other → bytes_eq other.name name ≡ false
others_before files differ n file name at named k other before at_k =
    false_from_ne_true (bytes_eq other.name name) (λ same.
    let number = one_by_key (λ (f : File). f.name) (λ (a b : List ℕ). a ≢ b) (λ a differs. differs refl) files differ k n other file at_k at
    ((bytes_eq-Decides other.name name).0 same ∙ sym named) in
    absurd (omega (arith, number, before)))

-- the bytes of the first file of a name
pub first_octets : (files : List File) (n : ℕ) (file : File) (name : List ℕ) → ((k : ℕ) (other : File) → k < n → slice_get files k ≡ Some other → bytes_eq other.name name ≡ false)
    → slice_get files n ≡ Some file → file.name ≡ name → octets_of files name ≡ Some file.image.octets
first_octets [] n file name others at named = absurd cc
first_octets (x ∷ files) zero file name others at named =
    let same : x ≡ file = same_Some x file at in
    ap (λ (b : Bool). if b then Some x.image.octets else octets_of files name) ((bytes_eq-Decides x.name name).1 (ap (λ (f : File). f.name) same ∙ named))
    ∙ ap (λ (f : File). Some f.image.octets) same
first_octets (x ∷ files) (suc n) file name others at named =
    ap (λ (b : Bool). if b then Some x.image.octets else octets_of files name) (others 0 x (omega arith) refl)
    ∙ first_octets files n file name (λ k other before at_k. others (suc k) other (omega (arith, before)) at_k) at named

-- none has the name
no_octets_of : (files : List File) (name : List ℕ) → ((k : ℕ) (other : File) → slice_get files k ≡ Some other → bytes_eq other.name name ≡ false) → octets_of files name ≡ None
no_octets_of [] name others = refl
no_octets_of (x ∷ files) name others =
    ap (λ (b : Bool). if b then Some x.image.octets else octets_of files name) (others 0 x refl)
    ∙ no_octets_of files name (λ k other at. others (suc k) other at)

pub no_octets : (files : List File) (name : List ℕ) → All (λ (file : File). file.name ≢ name) files → octets_of files name ≡ None
no_octets files name none =
    no_octets_of files name (λ k other at. false_from_ne_true (bytes_eq other.name name)
    (λ same. all_got (λ (f : File). f.name ≢ name) files k other none at ((bytes_eq-Decides other.name name).0 same)))

-- ---- the first of a group

module _ (test : File → Bool) (file : File) where
  none_or_later : (x : File) (xs : List File) (b : Bool) → (b ≡ true → bytes_eq x.name file.name ≡ false) → (b ≡ false → field_of (filter test xs) file ≡ None)
      → field_of (cond b (x ∷ filter test xs) (filter test xs)) file ≡ None
  none_or_later x xs true first rest = ap (λ (b : Bool). if b then Some (x.name ++ names_in (filter test xs)) else None) (first refl)
  none_or_later x xs false first rest = rest refl

  -- one of another name comes before the file
  pub later_has_none : (own : List File) (i n : ℕ) (one : File) → ((k : ℕ) (other : File) → k < n → slice_get own k ≡ Some other → bytes_eq other.name file.name ≡ false)
      → i < n → slice_get own i ≡ Some one → test one ≡ true → field_of (filter test own) file ≡ None
  later_has_none [] i n one others before at passes = refl
  later_has_none (x ∷ xs) zero n one others before at passes =
      none_or_later x xs (test x) (λ is. others 0 x before refl) (λ fails. absurd (false≢true (sym fails ∙ ap test (same_Some x one at) ∙ passes)))
  later_has_none (x ∷ xs) (suc i) n one others before at passes =
      none_or_later x xs (test x) (λ is. others 0 x (omega (arith, before)) refl)
      (λ fails. later_has_none xs i (n - 1) one (λ k other lt at_k. others (suc k) other (omega (arith, lt)) at_k) (omega (arith, before)) at passes)

  -- none comes before it
  pub first_of_group : (own : List File) (n : ℕ) → ((k : ℕ) (other : File) → k < n → slice_get own k ≡ Some other → test other ≡ false) → slice_get own n ≡ Some file
      → test file ≡ true → filter test own ≡ file ∷ filter test (drop (n + 1) own)
  first_of_group [] n none at passes = absurd cc
  first_of_group (x ∷ xs) zero none at passes =
      let same : x ≡ file = same_Some x file at in
      ap (λ (b : Bool). cond b (x ∷ filter test xs) (filter test xs)) (ap test same ∙ passes) ∙ ap (λ (f : File). f ∷ filter test xs) same
  first_of_group (x ∷ xs) (suc n) none at passes =
      let next : suc (n + 1) ≡ suc n + 1 = omega arith in
      ap (λ (b : Bool). cond b (x ∷ filter test xs) (filter test xs)) (none 0 x (omega arith) refl)
      ∙ first_of_group xs n (λ k other lt at_k. none (suc k) other (omega (arith, lt)) at_k) at passes
      ∙ ap (λ (m : ℕ). file ∷ filter test (drop m (x ∷ xs))) next

  -- the names after its own
  pub no_links : (own : List File) (n : ℕ) (field : List ℕ) → field ≡ file.name → field ≡ file.name ++ names_in (filter test (slice_range own n n))
  no_links own n field named =
      let none : n - n ≡ 0 = omega arith in
      named ∙ sym (append-nil file.name) ∙ sym (ap (λ (m : ℕ). file.name ++ names_in (filter test (take m (drop n own)))) none)

  names_of_one : (link : File) (b : Bool) → names_in (cond b (link ∷ []) []) ≡ (if b then 32 ∷ link.name else [])
  names_of_one link true = append-nil (32 ∷ link.name)
  names_of_one link false = refl

  pub one_link_more : (own : List File) (first i : ℕ) (link : File) (field next : List ℕ) → first ≤ i → slice_get own i ≡ Some link
      → field ≡ file.name ++ names_in (filter test (slice_range own first i)) → next ≡ field ++ (if test link then 32 ∷ link.name else [])
      → next ≡ file.name ++ names_in (filter test (slice_range own first (i + 1)))
  one_link_more own first i link field next low at before pushed =
      let part = slice_range own first i in
      let names : names_in (filter test (part ++ link ∷ [])) ≡ names_in (filter test part) ++ (if test link then 32 ∷ link.name else []) =
      ap names_in (filter-append test part (link ∷ [])) ∙ flat_map-append (λ (l : File). 32 ∷ l.name) (filter test part) (filter test (link ∷ []))
      ∙ ap (λ (l : List ℕ). names_in (filter test part) ++ l) (names_of_one link (test link)) in
      pushed ∙ ap (λ (l : List ℕ). l ++ (if test link then 32 ∷ link.name else [])) before
      ∙ append_assoc file.name (names_in (filter test part)) (if test link then 32 ∷ link.name else [])
      ∙ ap (λ (l : List ℕ). file.name ++ l) (sym names)
      ∙ ap (λ (l : List File). file.name ++ names_in (filter test l)) (sym (part_more own first i link low at))

  -- all of them
  pub field_of_first : (own : List File) (n : ℕ) (field : List ℕ) → ((k : ℕ) (other : File) → k < n → slice_get own k ≡ Some other → test other ≡ false)
      → slice_get own n ≡ Some file → test file ≡ true → field ≡ file.name ++ names_in (filter test (slice_range own (n + 1) (length own)))
      → Some field ≡ field_of (filter test own) file
  field_of_first own n field none at passes is =
      let rest = drop (n + 1) own in
      let whole : slice_range own (n + 1) (length own) ≡ rest = take_all (length own - (n + 1)) rest (omega (arith, length-drop (n + 1) own)) in
      ap Some (is ∙ ap (λ (l : List File). file.name ++ names_in (filter test l)) whole)
      ∙ sym (ap (λ (b : Bool). if b then Some (file.name ++ names_in (filter test rest)) else None) ((bytes_eq-Decides file.name file.name).1 refl))
      ∙ sym (ap (λ (l : List File). field_of l file) (first_of_group own n none at passes))

-- two that are the same
pub same_itself : (one : Option (List ℕ)) → are_same one one ≡ true
same_itself None = refl
same_itself (Some one) = (bytes_eq-Decides one one).1 refl

-- a file stands together with itself
pub with_itself : (others : List File) (file : File) → stand_together others file file ≡ true
with_itself others file =
    ap (λ (b : Bool). b && are_same (octets_of others file.name) (octets_of others file.name)) ((bytes_eq-Decides file.image.octets file.image.octets).1 refl)
    ∙ same_itself (octets_of others file.name)

-- ---- the code, file by file

-- the file that is found for a name
pub found_octets : (files : List File) (n : ℕ) (name bytes : List ℕ) → AllPairs (λ (a b : File). a.name ≢ b.name) files
    → IsSomeAnd (slice_get files n) (λ file. file.name ≡ name) → IfSome (slice_get files n) (λ file. bytes ≡ file.image.octets) → Some bytes ≡ octets_of files name
found_octets files n name bytes differ found of =
    let (file, at, named) = some_of (slice_get files n) (λ (f : File). f.name ≡ name) found in
    ap Some (if_at (slice_get files n) (λ (f : File). bytes ≡ f.image.octets) file of at)
    ∙ sym (first_octets files n file name (others_before files differ n file name at named) at named)

module _ (own others : List File) (file : ℕ) where
  abbrev IsFound : ℕ → Bool → Type 0
  IsFound i result = IfSome (slice_get own file) (λ one. IfSome (slice_get own i) (λ other. result ≡ stand_together others one other))

  found_is : (i : ℕ) (result : Bool) (one other : File) → IsFound i result → slice_get own file ≡ Some one → slice_get own i ≡ Some other → result ≡ stand_together others one other
  found_is i result one other given at at_i =
      if_at (slice_get own i) (λ (f : File). result ≡ stand_together others one f) other
      (if_at (slice_get own file) (λ (f : File). IfSome (slice_get own i) (λ other. result ≡ stand_together others f other)) one given at) at_i

  pub none_at_first : IfSome (slice_get own file) (λ one. HasNoneBefore own others one 0)
  none_at_first = file_at own file (λ one. HasNoneBefore own others one 0) (λ one at k other lt at_k. absurd (omega (arith, lt)))

  pub one_more_none : (i : ℕ) (result : Bool) → IfSome (slice_get own file) (λ one. HasNoneBefore own others one i)
      → IfSome (slice_get own file) (λ one. IfSome (slice_get own i) (λ other. result ≡ stand_together others one other)) → result ≡ false
      → IfSome (slice_get own file) (λ one. HasNoneBefore own others one (i + 1))
  one_more_none i result before given fails =
      file_at own file (λ one. HasNoneBefore own others one (i + 1))
      (λ one at k other lt at_k. elim (cases_order k i) [
        | inl same ↦ sym (found_is i result one other given at (subst (λ (m : ℕ). slice_get own m ≡ Some other) same at_k)) ∙ fails
        | inr (inl earlier) ↦ if_at (slice_get own file) (λ (f : File). HasNoneBefore own others f i) one before at k other earlier at_k
        | inr (inr later) ↦ absurd (omega (arith, lt, later))
      ])

  pub none_of_all : (i : ℕ) → file ≤ i → IfSome (slice_get own file) (λ one. HasNoneBefore own others one i)
      → IfSome (slice_get own file) (λ one. HasNoneBefore own others one file)
  none_of_all i all none =
      file_at own file (λ one. HasNoneBefore own others one file)
      (λ one at k other lt at_k. if_at (slice_get own file) (λ (f : File). HasNoneBefore own others f i) one none at k other (omega (arith, all, lt)) at_k)

  -- a later file of a group
  pub later_field : AllPairs (λ (a b : File). a.name ≢ b.name) own → IfSome (slice_get own file) (λ one. HasOneBefore own others one file)
      → IfSome (slice_get own file) (λ one. None ≡ field_of (group_of own others one) one)
  later_field differ has =
      file_at own file (λ one. None ≡ field_of (group_of own others one) one)
      (λ one at.
      let before = if_at (slice_get own file) (λ (f : File). HasOneBefore own others f file) one has at in
      sym (later_has_none (stand_together others one) one own before.number file before.other (others_before own differ file one one.name at refl) before.before before.at before.together))

  -- the names so far
  pub first_name : (name field : List ℕ) → IfSome (slice_get own file) (λ one. name ≡ one.name) → field ≡ name
      → IfSome (slice_get own file) (λ one. field ≡ one.name ++ names_in (filter (stand_together others one) (slice_range own (file + 1) (file + 1))))
  first_name name field named is =
      file_at own file (λ one. field ≡ one.name ++ names_in (filter (stand_together others one) (slice_range own (file + 1) (file + 1))))
      (λ one at. no_links (stand_together others one) one own (file + 1) field (is ∙ if_at (slice_get own file) (λ (f : File). name ≡ f.name) one named at))

  pub one_name_more : (i : ℕ) (field next : List ℕ) → file + 1 ≤ i → i < length own
      → IfSome (slice_get own file) (λ one. field ≡ one.name ++ names_in (filter (stand_together others one) (slice_range own (file + 1) i)))
      → IfSome (slice_get own file) (λ one. IfSome (slice_get own i) (λ link. next ≡ field ++ (if stand_together others one link then 32 ∷ link.name else [])))
      → IfSome (slice_get own file) (λ one. next ≡ one.name ++ names_in (filter (stand_together others one) (slice_range own (file + 1) (i + 1))))
  one_name_more i field next low within before pushed =
      file_at own file (λ one. next ≡ one.name ++ names_in (filter (stand_together others one) (slice_range own (file + 1) (i + 1))))
      (λ one at.
      let (link, at_i) = got own i within in
      let so_far = if_at (slice_get own file) (λ (f : File). field ≡ f.name ++ names_in (filter (stand_together others f) (slice_range own (file + 1) i))) one before at in
      let more = if_at (slice_get own i) (λ (l : File). next ≡ field ++ (if stand_together others one l then 32 ∷ l.name else [])) link
      (if_at (slice_get own file) (λ (f : File). IfSome (slice_get own i) (λ link. next ≡ field ++ (if stand_together others f link then 32 ∷ link.name else []))) one pushed at) at_i in
      one_link_more (stand_together others one) one own (file + 1) i link field next low at_i so_far more)

  -- all of them
  pub whole_field : (i : ℕ) (field : List ℕ) → i ≡ length own → IfSome (slice_get own file) (λ one. HasNoneBefore own others one file)
      → IfSome (slice_get own file) (λ one. field ≡ one.name ++ names_in (filter (stand_together others one) (slice_range own (file + 1) i)))
      → IfSome (slice_get own file) (λ one. Some field ≡ field_of (group_of own others one) one)
  whole_field i field end none is =
      file_at own file (λ one. Some field ≡ field_of (group_of own others one) one)
      (λ one at.
      let names = if_at (slice_get own file) (λ (f : File). field ≡ f.name ++ names_in (filter (stand_together others f) (slice_range own (file + 1) i))) one is at in
      let first = if_at (slice_get own file) (λ (f : File). HasNoneBefore own others f file) one none at in
      field_of_first (stand_together others one) one own file field first at (with_itself others one)
      (names ∙ ap (λ (m : ℕ). one.name ++ names_in (filter (stand_together others one) (slice_range own (file + 1) m))) end))
