-- Bytes that are the same.
use Rattle.std.proofs.Common.{◌≡◌, ℕ, true, List, refl}
use Rattle.std.specs.Prelude.{bytes_eq}
use Rattle.std.proofs.lemmas.Slice.Eq.{bytes_eq-Decides}

pub bytes_eq_means : (a b : List ℕ) → bytes_eq a b ≡ true → a ≡ b
bytes_eq_means a b e = (bytes_eq-Decides a b).0 e

pub bytes_eq_itself : (a : List ℕ) → bytes_eq a a ≡ true
bytes_eq_itself a = (bytes_eq-Decides a a).1 refl
