-- What finds the instants of a local time without a walk over the changes near it.
use Rattle.std.specs.Prelude.{ℤ, ◌+ℤ◌, ◌<ℤ◌, ◌≤ℤ◌, ◌≤◌, List, All, AllPairs, Contains, unsigned_abs}
use Rattle.zic_base.specs.declared.constants.TheConstants.{FARTHEST_FILE_OFFSET}
use Rattle.zic_tzif.specs.Content.{Content}
use Rattle.zic_local.specs.declared.local_index.LocalIndex.{LocalIndex}
use Rattle.zic_local.specs.declared.local_index.Passed.{Passed}
use Rattle.zic_local.specs.LocalTime.{IsOffsetAt}

-- UT offsets that fall and are within 25:59:59, among them each that the content answers
pub record AreOffsetsOf (content : Content) (offsets : List ℤ) : Type 0 where
  pub falling : AllPairs (λ a b. b <ℤ a) offsets
  pub near : All (λ offset. unsigned_abs offset ≤ FARTHEST_FILE_OFFSET) offsets
  pub all : (t offset : ℤ) → IsOffsetAt content t offset → Contains offsets offset

-- up to the instant clocks show no later local time
abbrev pub IsPassed : Content → Passed → Type 0
IsPassed content passed = (t offset : ℤ) → t ≤ℤ passed.until → IsOffsetAt content t offset → (t +ℤ offset) ≤ℤ passed.most

-- the index is that of a zone with this content
pub record IsIndexOf (content : Content) (index : LocalIndex) : Type 0 where
  pub offsets : AreOffsetsOf content index.offsets.items
  pub passed : All (IsPassed content) index.passed.items
