-- The keyword that a line begins with: zic(8), FILES.
use Rattle.std.specs.Prelude.{ℕ, List, [], ◌∷◌, Option, option_map, if◌then◌else◌, ◌==◌, codes}
use Rattle.zic_lines.specs.declared.keyword.Keyword.{Keyword}
use Rattle.zic_lines.specs.declared.keyword.Keyword.TheVariants.{Rule, Zone, Link}
use Rattle.zic_lines.specs.Word.{only_word}

-- the keywords, in lower case
abbrev pub keyword_words : List (List ℕ)
keyword_words = codes "rule" ∷ codes "zone" ∷ codes "link" ∷ []

-- the keyword of this place in the list
abbrev pub keyword_at : ℕ → Keyword
keyword_at place = if place == 0 then Rule else (if place == 1 then Zone else Link)

-- the keyword that is this word, or the only one that begins with it
unfoldable pub keyword_of : List ℕ → Option Keyword
keyword_of field = option_map keyword_at (only_word keyword_words field)
