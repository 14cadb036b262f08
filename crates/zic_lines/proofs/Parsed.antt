-- What a parse that refused its field says of the field, what one that took it has kept, and what was made of that.
use Rattle.std.proofs.Common.{◌≡◌, Bool, true, false, Result, Ok, Err, refl, sym, subst}
use Rattle.std.specs.Prelude.{◌↔◌, IfOk, IsOkAnd, MatchResult}

pub refused : (b : Bool) → (false ≡ true) ↔ (b ≡ true) → b ≡ false
refused true just = absurd (let no : false ≡ true = just.1 refl in cc)
refused false just = refl

pub unchanged : {X E : Type 0} (made : Result X E) (x y : X) → made ≡ Ok y → IfOk made (λ v. v ≡ x) → y ≡ x
unchanged (Ok v) x y e h = cc
unchanged (Err error) x y e h = absurd cc

pub wrapped : {X Y E : Type 0} (wrap : X → Y) (P : X → Type 0) (Q : Y → Type 0) (made : Result X E) (entry : Result Y E)
    → MatchResult made (λ x. IsOkAnd entry (λ y. y ≡ wrap x)) (λ e. entry ≡ Err e) → ((x : X) → P x → Q (wrap x)) → IfOk made P → IfOk entry Q
wrapped wrap P Q (Ok x) (Ok y) is keeps p = subst Q (sym is) (keeps x p)
wrapped wrap P Q (Ok x) (Err e) is keeps p = tt
wrapped wrap P Q (Err e) (Ok y) is keeps p = absurd cc
wrapped wrap P Q (Err e) (Err e') is keeps p = tt
