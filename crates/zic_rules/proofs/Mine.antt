-- The periods from a line's occurrences.
use Rattle.std.proofs.Common.{◌≡◌, ℕ, suc, ◌-◌, Bool, true, false, List, [], ◌∷◌, ◌++◌, length, map, Option, Some, option_map, refl, sym, ap, subst, ◌∙◌, arith, append_assoc, append-nil, length-append, ℤ, ◌<ℤ◌, ◌≤ℤ◌}
use Rattle.std.specs.Prelude.{All, filter, int_le, slice_get}
use Rattle.std.proofs.lemmas.Int.{ints}
use Rattle.std.proofs.lemmas.List.Elements.{All-head, All-tail, All-cons, All-nil, All-push, All-weaker, filter-append}
use Rattle.zic_states.specs.declared.occurrence.TimedOccurrence.{TimedOccurrence}
use Rattle.zic_states.specs.ByList.{AreRising, not_after, last_of, rule_at}
use Rattle.zic_states.specs.Zone.{Zone}
use Rattle.zic_states.proofs.Filters.{int_le-true}
use Rattle.zic_rules.specs.code.Period.{Holds}
use Rattle.zic_rules.specs.code.Held.{IsFrom, ComesAfter, AreHeld}
use Rattle.zic_rules.specs.code.Line.{period_at}
use Rattle.zic_rules.proofs.Held.{before_from}

int_le-false : (a b : ℤ) → b <ℤ a → int_le a b ≡ false
int_le-false a b h = grind (arith, ints)

module _ {A : Type 0} (test : A → Bool) where
  pub filter_all : (xs : List A) → All (λ x. test x ≡ true) xs → filter test xs ≡ xs
  filter_all [] all = refl
  filter_all (x ∷ xs) all =
      rw (All-head (λ y. test y ≡ true) x xs all) (ap (λ (l : List A). x ∷ l) (filter_all xs (All-tail (λ y. test y ≡ true) x xs all)))

  filter_none : (xs : List A) → All (λ x. test x ≡ false) xs → filter test xs ≡ []
  filter_none [] all = refl
  filter_none (x ∷ xs) all = rw (All-head (λ y. test y ≡ false) x xs all) (filter_none xs (All-tail (λ y. test y ≡ false) x xs all))

-- of a list parted at an instant the first part isn't after it
parted : (done rest : List TimedOccurrence) (t : ℤ) → All (λ x. x.instant ≤ℤ t) done → All (λ x. t <ℤ x.instant) rest → not_after (done ++ rest) t ≡ done
parted done rest t early late =
    let test : TimedOccurrence → Bool = λ x. int_le x.instant t in
    let first = filter_all test done (All-weaker (λ x. x.instant ≤ℤ t) (λ x. test x ≡ true) (λ x le. int_le-true x.instant t le) done early) in
    let second = filter_none test rest (All-weaker (λ x. t <ℤ x.instant) (λ x. test x ≡ false) (λ x lt. int_le-false x.instant t lt) rest late) in
    filter-append test done rest ∙ ap (λ (l : List TimedOccurrence). l ++ filter test rest) first ∙ ap (λ (l : List TimedOccurrence). done ++ l) second ∙ append-nil done

abbrev pub rule_of : Option TimedOccurrence → Option ℕ
rule_of o = option_map (λ x. x.rule) o

at_end : (xs : List TimedOccurrence) (x : TimedOccurrence) → slice_get (xs ++ x ∷ []) (length xs) ≡ Some x
at_end [] x = refl
at_end (y ∷ xs) x = at_end xs x

pub last_pushed : (xs : List TimedOccurrence) (x : TimedOccurrence) → last_of (xs ++ x ∷ []) ≡ Some x
last_pushed xs x =
    let place : length (xs ++ x ∷ []) - 1 ≡ length xs = omega (arith, length-append xs (x ∷ [])) in
    ap (slice_get (xs ++ x ∷ [])) place ∙ at_end xs x

pub rising_tail : (x : TimedOccurrence) (xs : List TimedOccurrence) → AreRising (x ∷ xs) → AreRising xs × All (λ y. x.instant <ℤ y.instant) xs
rising_tail x xs rising = (
  λ i j d lt within. rising (suc i) (suc j) d (omega arith) (omega arith),
  λ i d within. rising 0 (suc i) d (omega arith) (omega arith),
)

-- What a line keeps, with the instant `moved g`, from one occurrence to the next.
pub held_by_each : (zone : Zone) (number : ℕ) (end : ℤ) (g : ℤ → ℤ) (mine : List TimedOccurrence) → ((t : ℤ) → t ≤ℤ g t)
    → (done rest : List TimedOccurrence) (start : Option ℤ) → done ++ rest ≡ mine
    → ((t : ℤ) → IsFrom start t → t <ℤ end → Holds zone t number (rule_at mine (g t)))
    → ((t : ℤ) → IsFrom start t → All (λ x. x.instant ≤ℤ g t) done)
    → ((t : ℤ) → All (λ x. t <ℤ x.instant → g t <ℤ x.instant) rest)
    → AreRising rest → All (λ x. x.instant <ℤ end) rest → All (λ x. ComesAfter start x.instant) rest
    → AreHeld zone end start number (rule_of (last_of done)) (map (period_at number) rest)
unfolding AreHeld
held_by_each zone number end g mine up done [] start same holds early late rising before after = λ t from lt.
    let at : not_after mine (g t) ≡ done = ap (λ (l : List TimedOccurrence). not_after l (g t)) (sym same) ∙ parted done [] (g t) (early t from) (All-nil (λ x. g t <ℤ x.instant)) in
    subst (λ (l : List TimedOccurrence). Holds zone t number (option_map (λ (x : TimedOccurrence). x.rule) (last_of l))) at (holds t from lt)
held_by_each zone number end g mine up done (x ∷ xs) start same holds early late rising before after =
    let tail = rising_tail x xs rising in
    let comes : ComesAfter start x.instant = All-head (λ y. ComesAfter start y.instant) x xs after in
    let within : x.instant <ℤ end = All-head (λ y. y.instant <ℤ end) x xs before in
    let on : (t : ℤ) → x.instant ≤ℤ t → IsFrom start t = λ t le. before_from start t x.instant comes le in
    let first : (t : ℤ) → IsFrom start t → t <ℤ x.instant → Holds zone t number (option_map (λ (y : TimedOccurrence). y.rule) (last_of done)) = λ t from lt.
    let all_later : All (λ y. t <ℤ y.instant) (x ∷ xs) = All-cons (λ y. t <ℤ y.instant) x xs lt (All-weaker (λ y. x.instant <ℤ y.instant) (λ y. t <ℤ y.instant) (λ y less. omega (arith, ints)) xs tail.1) in
    let moved : All (λ y. g t <ℤ y.instant) (x ∷ xs) = λ i d inside. late t i d inside (all_later i d inside) in
    let at : not_after mine (g t) ≡ done = ap (λ (l : List TimedOccurrence). not_after l (g t)) (sym same) ∙ parted done (x ∷ xs) (g t) (early t from) moved in
    subst (λ (l : List TimedOccurrence). Holds zone t number (option_map (λ (y : TimedOccurrence). y.rule) (last_of l))) at (holds t from (omega (arith, ints)))
    in
    let rest = held_by_each zone number end g mine up (done ++ x ∷ []) xs (Some x.instant) (append_assoc done (x ∷ []) xs ∙ same)
    (λ t le lt. holds t (on t le) lt)
    (λ t le. All-push (λ y. y.instant ≤ℤ g t) done x (early t (on t le)) (let more = up t in omega (arith, ints)))
    (λ t. All-tail (λ y. t <ℤ y.instant → g t <ℤ y.instant) x xs (late t))
    tail.0 (All-tail (λ y. y.instant <ℤ end) x xs before) tail.1
    in
    (comes, within, first, subst (λ (o : Option TimedOccurrence). AreHeld zone end (Some x.instant) number (option_map (λ (y : TimedOccurrence). y.rule) o) (map (period_at number) xs)) (last_pushed done x) rest)
