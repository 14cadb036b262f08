-- Laws about what bytes are a file, and what a file answers.
use Rattle.std.specs.Prelude.{◌≡◌, ◌≢◌, ℕ, ℤ, List, [], Option}
use Rattle.zic_base.specs.State.{Shown}
use Rattle.zic_tzif.specs.Content.{Content}
use Rattle.zic_tzif.specs.Answer.{Gives, IsUnspecified, Answers}
use Rattle.zic_tzif.specs.States.{IsStateOfNumber}
use Rattle.zic_tzif.specs.declared.reason.Reason.{Reason}
use Rattle.zic_tzif.specs.Reading.{IsFile, IsFault}

-- no bytes are both a file and faulty
abbrev pub FilesHaveNoFault : Type 0
FilesHaveNoFault = (octets : List ℕ) (content : Content) (r : Reason) → IsFile octets content → IsFault octets r → ⊥

-- a file says one thing
abbrev pub FilesSayOne : Type 0
FilesSayOne = (octets : List ℕ) (a b : Content) → IsFile octets a → IsFile octets b → a ≡ b

-- faulty bytes have one reason
abbrev pub FaultsAreOne : Type 0
FaultsAreOne = (octets : List ℕ) (a b : Reason) → IsFault octets a → IsFault octets b → a ≡ b

-- a file answers exactly one thing at every instant
pub record FilesAnswerOnce : Type 0 where
  pub some : (octets : List ℕ) (content : Content) → IsFile octets content → (t : ℤ) → (answer : Option Shown) × Answers content t answer
  pub only : (octets : List ℕ) (content : Content) → IsFile octets content → (t : ℤ) (a b : Option Shown)
      → Answers content t a → Answers content t b → a ≡ b

-- each state that a content gives at an instant has a number, and a number has no other state
pub record StatesHaveNumbers : Type 0 where
  pub some : (content : Content) (t : ℤ) (state : Shown) → Gives content t state → (number : ℕ) × IsStateOfNumber content number state
  pub only : (content : Content) (number : ℕ) (a b : Shown) → IsStateOfNumber content number a → IsStateOfNumber content number b → a ≡ b

-- a content whose footer has a text leaves local time open at no instant
abbrev pub FootersLeaveNothingOpen : Type 0
FootersLeaveNothingOpen = (content : Content) (t : ℤ) → content.text ≢ [] → IsUnspecified content t → ⊥
