-- Laws of the changes of a file.
use Rattle.std.specs.Prelude.{◌≡◌, ◌*◌, ℕ, ℤ, pos, ◌+ℤ◌, ◌<ℤ◌, List}
use Rattle.zic_tzif.specs.Content.{Content}
use Rattle.zic_tzif.specs.Answer.{IsBeforeLast}
use Rattle.zic_dump.specs.Changes.{ChangesAt, StaysSame}
use Rattle.zic_dump.specs.Text.{IsDump}
use Rattle.zic_dump.specs.Years.{Between}

-- For the bytes of a file, a path and two years there is at most one text.
abbrev pub OneDump : Type 0
OneDump = (path bytes : List ℕ) (years : Between) (a b : List ℕ) → IsDump path bytes years a → IsDump path bytes years b → a ≡ b

-- Local time that stays the same for 400 years, 146,097 days, after which no transition comes, never changes after their start.
abbrev pub ChangesComeAgain : Type 0
ChangesComeAgain =
    (content : Content) (t : ℤ) → (IsBeforeLast content t → ⊥) → StaysSame content t (t +ℤ pos (146_097 * 86_400))
    → (change : ℤ) → t <ℤ change → ChangesAt content change → ⊥
