-- How the code finds the file of a name.
use Rattle.std.specs.Prelude.{◌≡◌, ◌≢◌, ℕ, ◌+◌, ◌-◌, ◌*◌, ◌/◌, ◌%◌, ◌^◌, ◌<◌, ◌≤◌, List, Some, bit_and, length, slice_get, slice_index}
use Rattle.std.specs.Simd.Lanes.{fold_l}
use Rattle.zic_files.specs.declared.names.Entry.{Entry}
use Rattle.zic_files.specs.declared.name_index.NameIndex.{NameIndex}

-- One step of a name's hash: the polynomial with its bytes as coefficients, at the key, modulo the prime 2 ^ 31 - 1 (a number below
-- 2 ^ 32 that stands for the remainder). Two different names of at most 255 bytes have the same remainder for at most 255 of the 2 ^ 30
-- keys. What is found doesn't depend on the key.
abbrev pub hash_more : ℕ → ℕ → ℕ → ℕ
hash_more key hash byte = (hash * key + byte) % 2 ^ 31 + (hash * key + byte) / 2 ^ 31

unfoldable pub hash_of : ℕ → List ℕ → ℕ
hash_of key name = fold_l (hash_more (key % 2 ^ 30)) 1 name

-- the bucket of a name, of as many buckets
abbrev pub bucket_of : ℕ → ℕ → List ℕ → ℕ
bucket_of key buckets name = bit_and (hash_of key name) (buckets - 1)

-- Of the first n entries whose names have this place, this is the last, by a number from 1, or 0 where there is none.
pub record IsLastIn (place_of : List ℕ → ℕ) (entries : List Entry) (place n last : ℕ) : Type 0 where
  pub within : last ≤ n
  pub is_in : (j : ℕ) (entry : Entry) → j + 1 ≡ last → slice_get entries j ≡ Some entry → place_of entry.name ≡ place
  pub none_after : (j : ℕ) (entry : Entry) → last ≤ j → j < n → slice_get entries j ≡ Some entry → place_of entry.name ≢ place

-- of each place the last of the first n entries, and of each of these the one before it at its place
pub record AreLinked (place_of : List ℕ → ℕ) (entries : List Entry) (n : ℕ) (last before : List ℕ) : Type 0 where
  pub count : length before ≡ n
  pub last_of : (place : ℕ) → IsLastIn place_of entries place n (slice_index last place)
  pub before_of : (i : ℕ) (entry : Entry) → i < n → slice_get entries i ≡ Some entry → IsLastIn place_of entries (place_of entry.name) i (slice_index before i)

-- the bucket of a name in an index
abbrev pub bucket_in : NameIndex → List ℕ → ℕ
bucket_in names name = bucket_of names.key (length names.last.items) name

-- the index of the first n entries; it has buckets from the first entry on
pub record AreNumbersUpTo (entries : List Entry) (n : ℕ) (names : NameIndex) : Type 0 where
  pub linked : AreLinked (bucket_in names) entries n names.last.items names.before.items
  pub buckets : 0 < n → 0 < length names.last.items

-- the index of all of the entries
abbrev pub AreNumbersOf : List Entry → NameIndex → Type 0
AreNumbersOf entries names = AreNumbersUpTo entries (length entries) names

-- The name is that of no entry after this one, by a number from 1, and this one has the name's place.
pub record IsSought (place_of : List ℕ → ℕ) (entries : List Entry) (name : List ℕ) (rest : ℕ) : Type 0 where
  pub within : rest ≤ length entries
  pub is_in : (j : ℕ) (entry : Entry) → j + 1 ≡ rest → slice_get entries j ≡ Some entry → place_of entry.name ≡ place_of name
  pub none_after : (j : ℕ) (entry : Entry) → rest ≤ j → slice_get entries j ≡ Some entry → entry.name ≢ name
