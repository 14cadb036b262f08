-- The last of times that rise is that of the last transition.
use Rattle.std.proofs.Common.{◌≡◌, ℕ, ◌+◌, ◌<◌, ◌≤◌, ℤ, pos, ◌<ℤ◌, ◌≤ℤ◌, inl, inr, List, [], length, get_or, Any, AllPairs, ap, subst, arith}
use Rattle.std.proofs.lemmas.Bool.{cases_lt}
use Rattle.std.proofs.lemmas.Int.{ints}
use Rattle.std.proofs.lemmas.List.{get_or_default, nil_from_length}
use Rattle.zic_tzif.specs.declared.content.Change.{Change}
use Rattle.zic_tzif.specs.Block.{changes_at}
use Rattle.zic_tzif.specs.Content.{Content}
use Rattle.zic_tzif.specs.LastTransition.{IsLastTransitionAt}
use Rattle.zic_tzif.specs.code.Window.{IsSplit}
use Rattle.zic_tzif.proofs.Search.{IsFound, found, instant_at, same_item, times_rise, not_before_last}
use Rattle.zic_tzif.proofs.Transitions.{changes_length}

pub no_transition : (content : Content) (times : List ℤ) (numbers : List ℕ) → length times ≡ length numbers → changes_at times numbers ≡ content.changes
    → length times ≡ 0 → content.changes ≡ []
no_transition content times numbers as_many same none =
    let long = changes_length times numbers as_many in
    let size = ap (λ (changes : List Change). length changes) same in
    nil_from_length content.changes (omega (arith, long, size, none))

-- all times have come at the last of them
all_come : (times : List ℤ) (k : ℕ) → AllPairs (λ a b. a <ℤ b) times → length times ≡ k + 1 → IsSplit times (get_or times k (pos 0)) (k + 1)
all_come times k rising is =
    let within : k < length times = omega (arith, is) in
    record {
      inside = omega (arith, is);
      not_after = λ place below d.
          let same = get_or_default times k d (pos 0) within in
          elim (cases_lt place k) [
            | inl less ↦ let lower : get_or times place d <ℤ get_or times k d = rising place k d less within in omega (arith, ints, lower, same)
            | inr not ↦ let here : place ≡ k = omega (arith, below, not) in rw here (omega (arith, ints, same))
          ];
      after = λ place from more d. absurd (omega (arith, is, from, more));
    }

pub last_at_end : (content : Content) (times : List ℤ) (numbers : List ℕ) (k : ℕ) → length times ≡ length numbers → changes_at times numbers ≡ content.changes
    → AllPairs (λ (a b : Change). a.instant <ℤ b.instant) (changes_at times numbers) → length times ≡ k + 1 → IsLastTransitionAt content (get_or times k (pos 0))
last_at_end content times numbers k as_many same rising is =
    let t = get_or times k (pos 0) in
    let all = changes_at times numbers in
    let d : Change = record { instant = pos 0; number = 0 } in
    let long = changes_length times numbers as_many in
    let size = ap (λ (changes : List Change). length changes) same in
    let there : k < length all = omega (arith, long, is) in
    let transition : Any (λ (c : Change). c.instant ≡ t) all = (k, get_or all k d, there, same_item all k d there, instant_at times numbers as_many k d) in
    let split = all_come times k (times_rise times numbers as_many rising) is in
    let point = subst (λ (changes : List Change). IsFound changes t (k + 1)) same (found times numbers t (k + 1) as_many split) in
    record {
      transition = subst (λ (changes : List Change). Any (λ (c : Change). c.instant ≡ t) changes) same transition;
      last = not_before_last content t (k + 1) point (omega (arith, long, size, is));
    }
