-- Lists that grow at the end, and numbers of texts of states.
use Rattle.std.proofs.Common.{◌≡◌, ◌++◌, ℕ, zero, suc, List, [], ◌∷◌, length, Some, inl, inr, subst, sym}
use Rattle.std.specs.Prelude.{slice_get}
use Rattle.zic_base.specs.State.{Shown}
use Rattle.zic_zones.proofs.Slots.{got_more}
use Rattle.zic_tzif.specs.Content.{Content}
use Rattle.zic_tzif.specs.States.{IsStateOfNumber}
use Rattle.zic_zones.specs.States.{HasState}
use Rattle.zic_zones.specs.code.Numbered.{Keeps}
use Rattle.zic_zones.specs.code.Texts.{AreNumbersOf}

-- ---- lists that grow at the end

pub keeps_same : {X : Type 0} (xs : List X) → Keeps xs xs
keeps_same xs = record { still = λ i x at. at }

pub keeps_then : {X : Type 0} (xs ys zs : List X) → Keeps xs ys → Keeps ys zs → Keeps xs zs
keeps_then xs ys zs first second = record { still = λ i x at. second.still i x (first.still i x at) }

pub got_still : {X : Type 0} (xs ys : List X) (i : ℕ) (x : X) → slice_get xs i ≡ Some x → slice_get (xs ++ ys) i ≡ Some x
got_still [] ys i x at = absurd cc
got_still (z ∷ xs) ys zero x at = at
got_still (z ∷ xs) ys (suc i) x at = got_still xs ys i x at

pub keeps_more : {X : Type 0} (xs ys : List X) → Keeps xs (xs ++ ys)
keeps_more xs ys = record { still = λ i x at. got_still xs ys i x at }

-- ---- numbers of texts

pub has_text_still : (old new : List Shown) (n : ℕ) (holds : Shown → Type 0) → Keeps old new → HasState old n holds → HasState new n holds
has_text_still old new n holds keeps has = λ says. let (text, at, it) = has says in (text, keeps.still n text at, it)

module _ (content : Content) where
  pub numbers_still : (old new : List Shown) (numbers : List ℕ) → Keeps old new → AreNumbersOf content old numbers → AreNumbersOf content new numbers
  numbers_still old new numbers keeps are = record {
    each = λ number n at. has_text_still old new n (λ s. IsStateOfNumber content number s) keeps (are.each number n at);
  }

  -- the number of one state more
  pub number_added : (texts : List Shown) (numbers : List ℕ) (n : ℕ) (state : Shown) → AreNumbersOf content texts numbers → HasState texts n (λ text. text ≡ state)
      → IsStateOfNumber content (length numbers) state → AreNumbersOf content texts (numbers ++ n ∷ [])
  number_added texts numbers n state are has of = record {
    each = λ number m at. elim (got_more numbers n m number at) [
      | inl before ↦ are.each number m before
      | inr last ↦ subst (λ (k : ℕ). HasState texts k (λ s. IsStateOfNumber content number s)) last.1 (λ says.
          let (text, got, is) = has says in
          (text, got, subst (λ (s : Shown). IsStateOfNumber content number s) (sym is) (subst (λ (i : ℕ). IsStateOfNumber content i state) last.0 of)))
    ];
  }
