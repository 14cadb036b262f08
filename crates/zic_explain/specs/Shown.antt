-- Texts that are shown to people: own choice.
use Rattle.std.specs.Prelude.{◌≡◌, ◌≤◌, ◌⊎◌, ℕ, List, All}

-- a byte that a terminal shows, and takes for no command: a tab, a line feed, or from space to `~`
abbrev pub IsShown : ℕ → Type 0
IsShown byte = (byte ≡ 9) ⊎ ((byte ≡ 10) ⊎ ((32 ≤ byte) × (byte ≤ 126)))

-- a byte that no terminal takes for a command by itself: it is shown, or a part of a character beyond ASCII
abbrev pub IsHarmless : ℕ → Type 0
IsHarmless byte = IsShown byte ⊎ (128 ≤ byte)

-- the text has no other bytes than those that are shown
abbrev pub IsShownText : List ℕ → Type 0
IsShownText text = All IsShown text

-- A text that was shown before is shown after.
abbrev pub StaysShown : List ℕ → List ℕ → Type 0
StaysShown before after = IsShownText before → IsShownText after
