-- The texts of fields, as the code holds them.
use Rattle.std.specs.Prelude.{◌≡◌, ℕ, List, [], map, slice_index_or, Some}
use Rattle.std.specs.Cow.{cow_slice_items}
use Rattle.std.specs.declared.borrow.CowSlice.{CowSlice}
use Rattle.zic_lines.specs.declared.keyword.Keyword.{Keyword}
use Rattle.zic_lines.specs.Keyword.{keyword_of}

-- the texts of fields that are borrowed or owned
abbrev pub texts_of : {Z : Type 0} → List (CowSlice ℕ Z) → List (List ℕ)
texts_of fields = map cow_slice_items fields

-- the first text stands for this keyword
abbrev pub BeginsWith : Keyword → List (List ℕ) → Type 0
BeginsWith keyword texts = keyword_of (slice_index_or texts 0 []) ≡ Some keyword
