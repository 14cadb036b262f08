-- Periods one after another.
use Rattle.std.proofs.Common.{◌≡◌, ℕ, zero, suc, ◌-◌, List, [], ◌∷◌, ◌++◌, length, Option, Some, None, add-one, refl, sym, subst, arith, ℤ, pos, ◌-ℤ◌, ◌<ℤ◌, ◌≤ℤ◌}
use Rattle.std.specs.Prelude.{All, AllPairs, IfSome, slice_get}
use Rattle.std.proofs.lemmas.Int.{ints}
use Rattle.std.proofs.lemmas.List.Elements.{All-nil, All-cons, All-weaker, All-head}
use Rattle.std.proofs.lemmas.List.Kept.{AllPairs-cons}
use Rattle.std.proofs.lemmas.Option.{same_Some}
use Rattle.zic_states.specs.Zone.{Zone}
use Rattle.zic_rules.specs.declared.line.Period.{Period}
use Rattle.zic_rules.specs.code.Period.{Holds, ArePeriods}
use Rattle.zic_rules.specs.code.Held.{IsFrom, ComesAfter, AreHeld, last_line, last_rule}

-- ---- later ones joined to earlier ones

-- Up to `middle` these periods, then one from there, and others after it.
pub joined : (zone : Zone) (middle end : ℤ) (start : Option ℤ) (number : ℕ) (rule : Option ℕ) (xs : List Period) (s : Period) (ys : List Period)
    → s.from ≡ middle → middle <ℤ end → ComesAfter start middle → AreHeld zone middle start number rule xs → AreHeld zone end (Some s.from) s.line s.rule ys
    → AreHeld zone end start number rule (xs ++ s ∷ ys)
unfolding AreHeld
joined zone middle end start number rule [] s ys at lt after held more =
    (subst (ComesAfter start) (sym at) after, omega (arith, ints), (λ t from before. held t from (omega (arith, ints))), more)
joined zone middle end start number rule (x ∷ xs) s ys at lt after (later, before, holds, rest) more =
    (later, omega (arith, ints), holds, joined zone middle end (Some x.from) x.line x.rule xs s ys at lt before rest more)

pub last_line_joined : (number : ℕ) (xs ys : List Period) → last_line number (xs ++ ys) ≡ last_line (last_line number xs) ys
last_line_joined number [] ys = refl
last_line_joined number (x ∷ xs) ys = last_line_joined x.line xs ys

-- ---- what holds just before the end

pub before_from : (start : Option ℤ) (t u : ℤ) → ComesAfter start u → u ≤ℤ t → IsFrom start t
before_from None t u after le = tt
before_from (Some s) t u after le = omega (arith, ints)

-- at the last instant the last period's line holds
pub holds_last : (zone : Zone) (end : ℤ) (start : Option ℤ) (number : ℕ) (rule : Option ℕ) (xs : List Period) → ComesAfter start end
    → AreHeld zone end start number rule xs → Holds zone (end -ℤ pos 1) (last_line number xs) (last_rule rule xs)
unfolding AreHeld
holds_last zone end None number rule [] after held = held (end -ℤ pos 1) tt (omega (arith, ints))
holds_last zone end (Some s) number rule [] after held = held (end -ℤ pos 1) (omega (arith, ints)) (omega (arith, ints))
holds_last zone end start number rule (x ∷ xs) after (later, before, holds, rest) =
    holds_last zone end (Some x.from) x.line x.rule xs before rest

-- the rule of the last
pub last_rule_is : (rule : Option ℕ) (x : Period) (xs : List Period) → IfSome (slice_get (x ∷ xs) (length (x ∷ xs) - 1)) (λ s. s.rule ≡ last_rule rule (x ∷ xs))
last_rule_is rule x [] = refl
last_rule_is rule x (y ∷ ys) =
    let place : suc (length (y ∷ ys) - 1) ≡ length (x ∷ y ∷ ys) - 1 = omega arith in
    subst (λ (k : ℕ). IfSome (slice_get (x ∷ y ∷ ys) k) (λ s. s.rule ≡ last_rule rule (x ∷ y ∷ ys))) place (last_rule_is x.rule y ys)

-- ---- all of them

all_later : (zone : Zone) (end : ℤ) (start : ℤ) (number : ℕ) (rule : Option ℕ) (xs : List Period) → AreHeld zone end (Some start) number rule xs
    → All (λ s. start <ℤ s.from) xs
unfolding AreHeld
all_later zone end start number rule [] held = All-nil (λ s. start <ℤ s.from)
all_later zone end start number rule (x ∷ xs) (later, before, holds, rest) =
    All-cons (λ s. start <ℤ s.from) x xs later
    (All-weaker (λ s. x.from <ℤ s.from) (λ s. start <ℤ s.from) (λ s lt. omega (arith, ints)) xs (all_later zone end x.from x.line x.rule xs rest))

rising : (zone : Zone) (end : ℤ) (start : Option ℤ) (number : ℕ) (rule : Option ℕ) (xs : List Period) → AreHeld zone end start number rule xs
    → AllPairs (λ a b. a.from <ℤ b.from) xs
unfolding AreHeld
rising zone end start number rule [] held = λ i j d lt within. absurd (omega arith)
rising zone end start number rule (x ∷ xs) (later, before, holds, rest) =
    AllPairs-cons (λ a b. a.from <ℤ b.from) x xs (all_later zone end x.from x.line x.rule xs rest) (rising zone end (Some x.from) x.line x.rule xs rest)

before_end : (zone : Zone) (end : ℤ) (start : Option ℤ) (number : ℕ) (rule : Option ℕ) (xs : List Period) → AreHeld zone end start number rule xs
    → All (λ s. s.from <ℤ end) xs
unfolding AreHeld
before_end zone end start number rule [] held = All-nil (λ s. s.from <ℤ end)
before_end zone end start number rule (x ∷ xs) (later, before, holds, rest) =
    All-cons (λ s. s.from <ℤ end) x xs before (before_end zone end (Some x.from) x.line x.rule xs rest)

before_all : (zone : Zone) (end : ℤ) (start : Option ℤ) (number : ℕ) (rule : Option ℕ) (xs : List Period) → AreHeld zone end start number rule xs
    → (t : ℤ) → IsFrom start t → t <ℤ end → All (λ s. t <ℤ s.from) xs → Holds zone t number rule
unfolding AreHeld
before_all zone end start number rule [] held t from lt all = held t from lt
before_all zone end start number rule (x ∷ xs) (later, before, holds, rest) t from lt all =
    holds t from (All-head (λ s. t <ℤ s.from) x xs all)

none_yet : (zone : Zone) (end : ℤ) (from : ℤ) (number : ℕ) (rule : Option ℕ) (xs : List Period) (t : ℤ) → AreHeld zone end (Some from) number rule xs
    → from ≤ℤ t → t <ℤ end → IfSome (slice_get xs 0) (λ next. t <ℤ next.from) → Holds zone t number rule
unfolding AreHeld
none_yet zone end from number rule [] t held le lt next = held t le lt
none_yet zone end from number rule (x ∷ xs) t (later, before, holds, rest) le lt next = holds t le next

each : (zone : Zone) (end : ℤ) (start : Option ℤ) (number : ℕ) (rule : Option ℕ) (xs : List Period) → AreHeld zone end start number rule xs
    → (k : ℕ) (s : Period) (t : ℤ) → slice_get xs k ≡ Some s → s.from ≤ℤ t → t <ℤ end
    → IfSome (slice_get xs (suc k)) (λ next. t <ℤ next.from) → Holds zone t s.line s.rule
unfolding AreHeld
each zone end start number rule [] held k s t got le lt next = absurd cc
each zone end start number rule (x ∷ xs) (later, before, holds, rest) zero s t got le lt next =
    let same : x ≡ s = same_Some x s got in
    subst (λ (z : Period). Holds zone t z.line z.rule) same
    (none_yet zone end x.from x.line x.rule xs t rest (subst (λ (z : Period). z.from ≤ℤ t) (sym same) le) lt next)
each zone end start number rule (x ∷ xs) (later, before, holds, rest) (suc k) s t got le lt next =
    each zone end (Some x.from) x.line x.rule xs rest k s t got le lt next

pub all_periods : (zone : Zone) (end : ℤ) (xs : List Period) → AreHeld zone end None 0 None xs → ArePeriods zone end xs
all_periods zone end xs held = record {
  rising = rising zone end None 0 None xs held;
  before_end = before_end zone end None 0 None xs held;
  before = λ t lt all. before_all zone end None 0 None xs held t tt lt all;
  each = λ k s t got le lt next. each zone end None 0 None xs held k s t got le lt
      (subst (λ (j : ℕ). IfSome (slice_get xs j) (λ z. t <ℤ z.from)) (add-one k) next);
}
