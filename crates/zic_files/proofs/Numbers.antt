-- The numbers of files by their names.
use Rattle.std.proofs.Common.{◌≡◌, ◌≢◌, ◌<◌, ◌≤◌, ◌+◌, ◌-◌, ◌*◌, ◌%◌, ◌^◌, ℕ, zero, suc, List, [], ◌∷◌, ◌++◌, length, set, take, replicate, get_or, Option, Some, None, ◌⊎◌, inl, inr, ⊎_elim, refl, sym, subst, ap, ◌∙◌, arith}
use Rattle.std.specs.Prelude.{All, IfSome, IfNone, IsSomeAnd, OnErr, Result, Ok, Err, map, slice_get, slice_index_or}
use Rattle.std.proofs.Math.ListN.{length-set}
use Rattle.std.proofs.Math.Seq.{get_or-append_seam, take-append_seam}
use Rattle.std.proofs.lemmas.Bool.{cases_lt}
use Rattle.std.proofs.lemmas.List.{get_or-set_same, get_or-set_other, get_or_append_left, get_or-replicate, get_or_past, length-append, length-replicate}
use Rattle.std.proofs.lemmas.List.Elements.{All-map}
use Rattle.std.proofs.lemmas.Nat.{mul-le}
use Rattle.std.proofs.lemmas.Option.{slice_get-get_or, slice_get_within, get_or_from_slice_get}
use Rattle.std.specs.Simd.Lanes.{fold_l}
use Rattle.zic_base.proofs.Lists.{get_mapped, take_next}
use Rattle.zic_files.specs.declared.names.Entry.{Entry}
use Rattle.zic_files.specs.File.{FileImage, file_of, no_image}
use Rattle.zic_files.specs.declared.name_index.NameIndex.{NameIndex}
use Rattle.zic_files.specs.code.NameIndex.{bucket_in, bucket_of, hash_more, hash_of, IsLastIn, AreLinked, AreNumbersUpTo, AreNumbersOf, IsSought}

-- ---- hashes

fold_more : (f : ℕ → ℕ → ℕ) (a : ℕ) (xs : List ℕ) (x : ℕ) → fold_l f a (xs ++ x ∷ []) ≡ f (fold_l f a xs) x
fold_more f a [] x = refl
fold_more f a (y ∷ xs) x = fold_more f (f a y) xs x

pub hash_first : (key : ℕ) → hash_of key [] ≡ 1
unfolding hash_of
hash_first key = refl

pub hash_next : (key : ℕ) (name : List ℕ) (i byte : ℕ) → slice_get name i ≡ Some byte → hash_more (key % 2 ^ 30) (hash_of key (take i name)) byte ≡ hash_of key (take (i + 1) name)
unfolding hash_of
hash_next key name i byte at =
    let more = hash_more (key % 2 ^ 30) in
    sym (ap (λ (l : List ℕ). fold_l more 1 l) (take_next name i byte at) ∙ fold_more more 1 (take i name) byte)

-- what is below these bounds has no more than 63 bits, and folds to less than 2 ^ 33
pub product_within : (hash point byte : ℕ) → hash < 2 ^ 33 → point < 2 ^ 30 → byte < 2 ^ 8 → hash * point + byte < 2 ^ 63
product_within hash point byte h p b =
    let most : hash * point ≤ 8589934591 * 1073741823 = mul-le hash point 8589934591 1073741823 (omega (arith, h)) (omega (arith, p)) in
    omega (arith, most, b)

-- ---- the index of the entries so far

one_entry : (entries : List Entry) (n : ℕ) (a b : Entry) → slice_get entries n ≡ Some a → slice_get entries n ≡ Some b → a ≡ b
one_entry entries n a b at at₂ = sym (get_or_from_slice_get entries n a a at) ∙ get_or_from_slice_get entries n b a at₂

same_or_not : (a b : ℕ) → (a ≡ b) ⊎ (a ≢ b)
same_or_not a b = ⊎_elim (λ lt. inr (λ e. omega (arith, lt, e))) (λ ge. ⊎_elim (λ lt. inr (λ e. omega (arith, lt, e))) (λ le. inl (omega (arith, ge, le))) (cases_lt b a)) (cases_lt a b)

pub all_zeros : (n i : ℕ) → ◌≡◌ {A = ℕ} (get_or (replicate n 0) i 0) 0
all_zeros n i = ⊎_elim (λ lt. get_or-replicate n i 0 0 lt) (λ ge. get_or_past (replicate n 0) i 0 (omega (arith, length-replicate {A = ℕ} n 0, ge))) (cases_lt i n)

module _ (place_of : List ℕ → ℕ) where
  none_in : (entries : List Entry) (bucket : ℕ) → IsLastIn place_of entries bucket 0 0
  none_in entries bucket = record {
    within = omega arith;
    is_in = λ j entry e at. absurd (omega (arith, e));
    none_after = λ j entry low high at. absurd (omega (arith, high));
  }

  -- no entry yet
  pub linked_none : (entries : List Entry) (last : List ℕ) → ((bucket : ℕ) → get_or last bucket 0 ≡ 0) → AreLinked place_of entries 0 last []
  linked_none entries last zeros = record {
    count = refl;
    last_of = λ bucket. subst (λ (k : ℕ). IsLastIn place_of entries bucket 0 k) (sym (zeros bucket)) (none_in entries bucket);
    before_of = λ i entry lt at. absurd (omega (arith, lt));
  }

  -- an entry is the last in its bucket
  last_now : (entries : List Entry) (n bucket : ℕ) (entry : Entry) → slice_get entries n ≡ Some entry → place_of entry.name ≡ bucket → IsLastIn place_of entries bucket (n + 1) (n + 1)
  last_now entries n bucket entry at is = record {
    within = omega arith;
    is_in = λ j other e at₂.
        let same : j ≡ n = omega (arith, e) in
        let one = one_entry entries n entry other at (subst (λ (k : ℕ). slice_get entries k ≡ Some other) same at₂) in
        sym (ap (λ (x : Entry). place_of x.name) one) ∙ is;
    none_after = λ j other low high at₂. absurd (omega (arith, low, high));
  }

  -- an entry of another bucket
  last_still : (entries : List Entry) (n bucket last : ℕ) (entry : Entry) → IsLastIn place_of entries bucket n last → slice_get entries n ≡ Some entry → place_of entry.name ≢ bucket → IsLastIn place_of entries bucket (n + 1) last
  last_still entries n bucket last entry is at apart = record {
    within = omega (arith, is.within);
    is_in = is.is_in;
    none_after = λ j other low high at₂. ⊎_elim
        (λ lt. is.none_after j other low lt at₂)
        (λ ge e.
        let same : j ≡ n = omega (arith, ge, high) in
        let one = one_entry entries n entry other at (subst (λ (k : ℕ). slice_get entries k ≡ Some other) same at₂) in
        apart (ap (λ (x : Entry). place_of x.name) one ∙ e))
        (cases_lt j n);
  }

  -- one entry more
  pub linked_more : (entries : List Entry) (last before : List ℕ) (n bucket place : ℕ) (entry : Entry) → AreLinked place_of entries n last before → bucket < length last → slice_get entries n ≡ Some entry
      → bucket ≡ place_of entry.name → place ≡ n + 1 → AreLinked place_of entries (n + 1) (set last bucket place) (before ++ get_or last bucket 0 ∷ [])
  linked_more entries last before n bucket place entry are within at of_name numbered =
      let old = get_or last bucket 0 in
      let count = are.count in
      record {
        count = length-append before (old ∷ []) ∙ ap (λ (k : ℕ). k + 1) count;
        last_of = λ other. ⊎_elim
            (λ same. subst (λ (k : ℕ). IsLastIn place_of entries other (n + 1) (get_or (set last bucket place) k 0)) (sym same)
            (subst (λ (k : ℕ). IsLastIn place_of entries other (n + 1) k) (sym (get_or-set_same last bucket place 0 within ∙ numbered)) (last_now entries n other entry at (sym of_name ∙ sym same))))
            (λ apart. subst (λ (k : ℕ). IsLastIn place_of entries other (n + 1) k) (sym (get_or-set_other last bucket other place 0 apart))
            (last_still entries n other (get_or last other 0) entry (are.last_of other) at (λ e. apart (sym e ∙ sym of_name))))
            (same_or_not other bucket);
        before_of = λ i other lt at₂. ⊎_elim
            (λ below. subst (λ (k : ℕ). IsLastIn place_of entries (place_of other.name) i k) (sym (get_or_append_left before (old ∷ []) 0 i (omega (arith, count, below)))) (are.before_of i other below at₂))
            (λ ge.
            let here : length before ≡ i = omega (arith, count, ge, lt) in
            let now : n ≡ i = omega (arith, ge, lt) in
            let one = one_entry entries n entry other at (subst (λ (k : ℕ). slice_get entries k ≡ Some other) (sym now) at₂) in
            let read : get_or (before ++ old ∷ []) i 0 ≡ old = subst (λ (k : ℕ). get_or (before ++ old ∷ []) k 0 ≡ old) here (get_or-append_seam before old [] 0) in
            subst (λ (k : ℕ). IsLastIn place_of entries (place_of other.name) i k) (sym read)
            (subst (λ (k : ℕ). IsLastIn place_of entries (place_of other.name) k old) now
            (subst (λ (k : ℕ). IsLastIn place_of entries k n old) (of_name ∙ ap (λ (x : Entry). place_of x.name) one) (are.last_of bucket))))
            (cases_lt i n);
      }

  -- entries that agree as far as the index goes
  last_on : (a b : List Entry) (bucket n last : ℕ) → ((j : ℕ) → j < n → slice_get a j ≡ slice_get b j) → IsLastIn place_of a bucket n last → IsLastIn place_of b bucket n last
  last_on a b bucket n last agree is = record {
    within = is.within;
    is_in = λ j entry e at. is.is_in j entry e (agree j (omega (arith, is.within, e)) ∙ at);
    none_after = λ j entry low high at. is.none_after j entry low high (agree j high ∙ at);
  }

  linked_on : (a b : List Entry) (n : ℕ) (last before : List ℕ) → ((j : ℕ) → j < n → slice_get a j ≡ slice_get b j) → AreLinked place_of a n last before → AreLinked place_of b n last before
  linked_on a b n last before agree are = record {
    count = are.count;
    last_of = λ bucket. last_on a b bucket n (get_or last bucket 0) agree (are.last_of bucket);
    before_of = λ i entry lt at. last_on a b (place_of entry.name) i (get_or before i 0) (λ j below. agree j (omega (arith, below, lt))) (are.before_of i entry lt (agree i lt ∙ at));
  }

  -- ---- the search for a name

  pub sought_first : (entries : List Entry) (name last before : List ℕ) (rest : ℕ) → AreLinked place_of entries (length entries) last before → rest ≡ get_or last (place_of name) 0 → IsSought place_of entries name rest
  sought_first entries name last before rest are is =
      let first = subst (λ (k : ℕ). IsLastIn place_of entries (place_of name) (length entries) k) (sym is) (are.last_of (place_of name)) in
      record {
        within = first.within;
        is_in = first.is_in;
        none_after = λ j entry low at e. first.none_after j entry low (slice_get_within entries j entry at) at (ap place_of e);
      }

  pub sought_on : (entries : List Entry) (name last before : List ℕ) (rest number next : ℕ) (d : Entry) → AreLinked place_of entries (length entries) last before → IsSought place_of entries name rest
      → number + 1 ≡ rest → (get_or entries number d).name ≢ name → next ≡ get_or before number 0 → IsSought place_of entries name next
  sought_on entries name last before rest number next d are is numbered other taken =
      let within = is.within in
      let lt : number < length entries = omega (arith, within, numbered) in
      let entry = get_or entries number d in
      let at = slice_get-get_or entries number d lt in
      let bucket = is.is_in number entry numbered at in
      let earlier = subst (λ (b : ℕ). IsLastIn place_of entries b number next) bucket
      (subst (λ (k : ℕ). IsLastIn place_of entries (place_of entry.name) number k) (sym taken) (are.before_of number entry lt at)) in
      record {
        within = omega (arith, earlier.within, lt);
        is_in = earlier.is_in;
        none_after = λ j found low at₂. ⊎_elim
            (λ below e. earlier.none_after j found low below at₂ (ap place_of e))
            (λ above. ⊎_elim
            (λ one e.
            let same : j ≡ number = omega (arith, above, one) in
            other (ap (λ (x : Entry). x.name) (one_entry entries number entry found at (subst (λ (k : ℕ). slice_get entries k ≡ Some found) same at₂)) ∙ e))
            (λ after. is.none_after j found (omega (arith, after, numbered)) at₂)
            (cases_lt j (number + 1)))
            (cases_lt j number);
      }

  pub sought_less : (entries : List Entry) (last before : List ℕ) (rest number next : ℕ) (d : Entry) → AreLinked place_of entries (length entries) last before → rest ≤ length entries → number + 1 ≡ rest
      → next ≡ get_or before number 0 → next < rest
  sought_less entries last before rest number next d are within numbered taken =
      let lt : number < length entries = omega (arith, within, numbered) in
      let earlier = (are.before_of number (get_or entries number d) lt (slice_get-get_or entries number d lt)).within in
      omega (arith, earlier, taken, numbered)

  pub sought_in_vain : (entries : List Entry) (name : List ℕ) (rest : ℕ) → IsSought place_of entries name rest → rest ≡ 0 → All (λ entry. entry.name ≢ name) entries
  sought_in_vain entries name rest is none k d lt = is.none_after k (get_or entries k d) (omega (arith, none)) (slice_get-get_or entries k d lt)

pub sought_found : (entries : List Entry) (name : List ℕ) (number : ℕ) (d : Entry) → number < length entries → (get_or entries number d).name ≡ name → IsSomeAnd (slice_get entries number) (λ entry. entry.name ≡ name)
sought_found entries name number d lt is = subst (λ (o : Option Entry). IsSomeAnd o (λ entry. entry.name ≡ name)) (sym (slice_get-get_or entries number d lt)) is

-- ---- the index

-- the index without buckets
pub numbers_none : (entries : List Entry) (names : NameIndex) → names.last.items ≡ [] → names.before.items ≡ [] → AreNumbersUpTo entries 0 names
numbers_none entries names empty empty₂ = record {
  linked = subst (λ (l : List ℕ). AreLinked (bucket_in names) entries 0 names.last.items l) (sym empty₂)
      (linked_none (bucket_in names) entries names.last.items
      (λ bucket. ap (λ (l : List ℕ). get_or l bucket 0) empty ∙ get_or_past [] bucket 0 (omega arith)));
  buckets = λ some. absurd (omega (arith, some));
}

-- buckets without an entry
pub numbers_fresh : (entries : List Entry) (names : NameIndex) (buckets : ℕ) → names.last.items ≡ replicate buckets 0 → names.before.items ≡ [] → 0 < buckets → AreNumbersUpTo entries 0 names
numbers_fresh entries names buckets zeros empty some = record {
  linked = subst (λ (l : List ℕ). AreLinked (bucket_in names) entries 0 names.last.items l) (sym empty)
      (linked_none (bucket_in names) entries names.last.items (λ bucket. ap (λ (l : List ℕ). get_or l bucket 0) zeros ∙ all_zeros buckets bucket));
  buckets = λ none. absurd (omega (arith, none));
}

-- the index is that of the same lists
pub numbers_same : (entries : List Entry) (n : ℕ) (names now : NameIndex) → AreNumbersUpTo entries n names → now.key ≡ names.key → now.last.items ≡ names.last.items → now.before.items ≡ names.before.items
    → AreNumbersUpTo entries n now
numbers_same entries n names now are key same same₂ = record {
  linked = subst (λ (k : ℕ). AreLinked (bucket_of k (length now.last.items)) entries n now.last.items now.before.items) (sym key)
      (subst (λ (l : List ℕ). AreLinked (bucket_of names.key (length l)) entries n l now.before.items) (sym same)
      (subst (λ (l : List ℕ). AreLinked (bucket_in names) entries n names.last.items l) (sym same₂) are.linked));
  buckets = λ some. rw same (are.buckets some);
}

pub on_err : {X E : Type 0} (r : Result X E) (P : Type 0) → P → OnErr r P
on_err (Ok x) P p = tt
on_err (Err e) P p = p

-- one entry more
pub numbers_more : (entries : List Entry) (n bucket : ℕ) (entry : Entry) (names now : NameIndex) → AreNumbersUpTo entries n names → bucket < length names.last.items → slice_get entries n ≡ Some entry
    → bucket ≡ bucket_in names entry.name → now.key ≡ names.key → now.last.items ≡ set names.last.items bucket (n + 1) → now.before.items ≡ names.before.items ++ get_or names.last.items bucket 0 ∷ []
    → AreNumbersUpTo entries (n + 1) now
numbers_more entries n bucket entry names now are inside at of_name key last before =
    let same : length now.last.items ≡ length names.last.items = ap length last ∙ length-set names.last.items bucket (n + 1) in
    record {
      linked = subst (λ (k : ℕ). AreLinked (bucket_of k (length now.last.items)) entries (n + 1) now.last.items now.before.items) (sym key)
          (subst (λ (k : ℕ). AreLinked (bucket_of names.key k) entries (n + 1) now.last.items now.before.items) (sym same)
          (subst (λ (l : List ℕ). AreLinked (bucket_in names) entries (n + 1) l now.before.items) (sym last)
          (subst (λ (l : List ℕ). AreLinked (bucket_in names) entries (n + 1) (set names.last.items bucket (n + 1)) l) (sym before)
          (linked_more (bucket_in names) entries names.last.items names.before.items n bucket (n + 1) entry are.linked inside at of_name refl))));
      buckets = λ some. omega (arith, same, inside);
    }

numbers_on : (a b : List Entry) (n : ℕ) (names : NameIndex) → ((j : ℕ) → j < n → slice_get a j ≡ slice_get b j) → AreNumbersUpTo a n names → AreNumbersUpTo b n names
numbers_on a b n names agree are = record {
  linked = linked_on (bucket_in names) a b n names.last.items names.before.items agree are.linked;
  buckets = are.buckets;
}

got_left : (xs ys : List Entry) (j : ℕ) → j < length xs → slice_get xs j ≡ slice_get (xs ++ ys) j
got_left [] ys j lt = absurd (omega arith)
got_left (x ∷ xs) ys zero lt = refl
got_left (x ∷ xs) ys (suc j) lt = got_left xs ys j (omega arith)

-- the index of no entry is that of the first none
pub numbers_first : (entries : List Entry) (names : NameIndex) → AreNumbersOf [] names → AreNumbersUpTo entries 0 names
numbers_first entries names are = numbers_on [] entries 0 names (λ j lt. absurd (omega (arith, lt))) are

-- entries after those of the index change nothing
pub numbers_pushed : (entries more : List Entry) (names : NameIndex) → AreNumbersOf entries names → AreNumbersUpTo (entries ++ more) (length entries) names
numbers_pushed entries more names are = numbers_on entries (entries ++ more) (length entries) names (got_left entries more) are

pub numbers_popped : (entries more : List Entry) (names : NameIndex) → AreNumbersUpTo (entries ++ more) (length entries) names → AreNumbersOf entries names
numbers_popped entries more names are = numbers_on (entries ++ more) entries (length entries) names (λ j lt. sym (got_left entries more j lt)) are

-- entries with one more: the index before it has the entry, once it has it, and where that was refused
module _ (entries : List Entry) (entry : Entry) (entries' : List Entry) (n : ℕ) (added : entries' ≡ entries ++ entry ∷ []) (long : n ≡ length entries) where
  pub numbers_before : (names : NameIndex) → AreNumbersOf entries names → AreNumbersUpTo entries' n names
  numbers_before names are = rw (added, long) (numbers_pushed entries (entry ∷ []) names are)

  pub numbers_now : (names : NameIndex) → AreNumbersUpTo entries' (n + 1) names → AreNumbersOf entries' names
  numbers_now names are =
      let count : n + 1 ≡ length entries' = rw added (omega (arith, long, length-append entries (entry ∷ []))) in
      subst (λ (k : ℕ). AreNumbersUpTo entries' k names) count are

  pub numbers_after : (names : NameIndex) → AreNumbersUpTo entries' n names → AreNumbersOf entries names
  numbers_after names are =
      numbers_popped entries (entry ∷ []) names
      (subst (λ (k : ℕ). AreNumbersUpTo (entries ++ entry ∷ []) k names) long (subst (λ (es : List Entry). AreNumbersUpTo es n names) added are))

-- the last entry is taken away again
pub popped : (entries : List Entry) (entry : Entry) (entries' last_gone : List Entry) (n : ℕ) → entries' ≡ entries ++ entry ∷ [] → n ≡ length entries'
    → last_gone ≡ take (n - 1) entries' → last_gone ≡ entries
popped entries entry entries' last_gone n added long is =
    let count : n - 1 ≡ length entries = (let all = long ∙ ap length added ∙ length-append entries (entry ∷ []) in omega (arith, all)) in
    is ∙ ap (λ (k : ℕ). take k entries') count ∙ ap (λ (es : List Entry). take (length entries) es) added ∙ take-append_seam entries (entry ∷ [])

-- ---- the files of the entries

some_file : (images : List FileImage) (entries : List Entry) (k : ℕ) (name : List ℕ) → IsSomeAnd (slice_get entries k) (λ entry. entry.name ≡ name)
    → IsSomeAnd (slice_get (map (file_of images) entries) k) (λ file. file.name ≡ name)
some_file images [] k name h = absurd h
some_file images (e ∷ entries) zero name h = h
some_file images (e ∷ entries) (suc k) name h = some_file images entries k name h

pub file_found : (images : List FileImage) (entries : List Entry) (name : List ℕ) (number : Option ℕ) → IfSome number (λ i. IsSomeAnd (slice_get entries i) (λ entry. entry.name ≡ name))
    → IfSome number (λ i. IsSomeAnd (slice_get (map (file_of images) entries) i) (λ file. file.name ≡ name))
file_found images entries name None found = tt
file_found images entries name (Some i) found = some_file images entries i name found

pub file_missing : (images : List FileImage) (entries : List Entry) (name : List ℕ) (number : Option ℕ) → IfNone number (All (λ entry. entry.name ≢ name) entries)
    → IfNone number (All (λ file. file.name ≢ name) (map (file_of images) entries))
file_missing images entries name None missing = All-map (λ file. file.name ≢ name) (file_of images) entries missing
file_missing images entries name (Some i) missing = tt

-- files whose entries have one number have one image
pub shared : (images : List FileImage) (entries : List Entry) (i j : ℕ) (a b : Entry) → slice_get entries i ≡ Some a → slice_get entries j ≡ Some b → a.zone ≡ b.zone
    → IfSome (slice_get (map (file_of images) entries) i) (λ file. IfSome (slice_get (map (file_of images) entries) j) (λ other. file.image ≡ other.image))
shared images entries i j a b at_a at_b same =
    rw (get_mapped (file_of images) entries i a at_a, get_mapped (file_of images) entries j b at_b) (ap (λ (n : ℕ). slice_index_or images n no_image) same)
