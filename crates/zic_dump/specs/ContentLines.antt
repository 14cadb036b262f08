-- Content lines of iCalendar: RFC 5545, 3.1.
use Rattle.std.specs.Prelude.{◌≡◌, ℕ, ◌+◌, ◌<◌, ◌≤◌, List, length, slice_index}

-- a line feed is at this place or at one of the next ones, before an end
abbrev pub HasFeed : List ℕ → ℕ → ℕ → Type 0
HasFeed text from end = (k : ℕ) × (from ≤ k) × (k < end) × (slice_index text k ≡ 10)

-- no line has more than 75 bytes, and its end: among any 77 bytes in a row is a line feed
abbrev pub HasShortLines : List ℕ → Type 0
HasShortLines text = (i : ℕ) → i + 76 < length text → HasFeed text i (i + 77)

-- such lines, of which the last has at most this number of bytes
pub record AreLines (text : List ℕ) (used : ℕ) : Type 0 where
  pub short : HasShortLines text
  pub last : (i : ℕ) → i + used < length text → HasFeed text i (length text)
  pub room : used ≤ 75
