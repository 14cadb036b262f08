-- What is known of a tree of files or of a log is a list: what it replied, what was placed into it, or what it noted. Own choice.
use Rattle.std.specs.Prelude.{◌≡◌, ⊤, List, ◌++◌, Option, Some, None}

-- What is known grew by these, in order. Where nothing was known before, this holds always; what was known stays known.
abbrev pub Gains : {A : Type 0} → Option (List A) → Option (List A) → List A → Type 0
Gains None new more = ⊤
Gains (Some old) None more = ⊥
Gains (Some old) (Some new) more = new ≡ old ++ more
