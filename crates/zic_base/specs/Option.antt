-- Steps that may have no result.
use Rattle.std.specs.Prelude.{Bool, false, Option, Some, None, option_and_then}

-- `x ← o` goes on with what o has, and stops where it has nothing
infixl 10 ◌>>=◌
abbrev pub ◌>>=◌ : {A B : Type 0} → Option A → (A → Option B) → Option B
o >>= f = option_and_then f o

-- it has something, of which the test is true
abbrev pub some_and : {A : Type 0} → Option A → (A → Bool) → Bool
some_and None test = false
some_and (Some x) test = test x
