-- The pieces of the zones of a source, put together.
use Rattle.std.proofs.Common.{◌≡◌, ◌≤◌, ◌<◌, ◌+◌, ◌*◌, ℕ, List, [], ◌∷◌, length, Ok, Err, inl, inr, zero, suc, refl, ap, subst, ◌∙◌, arith, flat_map}
use Rattle.std.proofs.Math.Nat.{min-le_left, min-le_right, min-eq_right}
use Rattle.std.proofs.lemmas.Bool.{cases_order}
use Rattle.std.proofs.lemmas.Grind.{div_ceil_times}
use mathlib.Core.Option.{some}
use lib.ListN.{get_elem?}
use Rattle.zic_base.specs.declared.fault.Fault.{Fault}
use Rattle.zic_files.specs.File.{FileImage}
use Rattle.zic_pieces.specs.Task.{HaveValues, AreValues, IsStop}
use Rattle.zic_pieces.specs.declared.task.TaskStop.{TaskStop}
use Rattle.zic_pieces.specs.declared.task.TaskStop.TheVariants as task
use Rattle.zic_compile.specs.Files.{AreImagesOf, HaveImagesBefore, IsFaultOfFiles}
use Rattle.zic_compile.specs.code.Zones.{AreImagesWithin}
use Rattle.zic_compile.specs.code.Pieces.{Pieces, IsOutcomeOf, count_of, start_of}
use Rattle.zic_compile.specs.code.Stop.{IsStopOfImages, end_of}
use Rattle.zic_compile.proofs.Zones.{none_within, both_within, have_within, all_images}

-- a piece starts at a zone, or after the last
pub starts_within : (p : Pieces) (i : ℕ) → start_of p i ≤ length p.source.zones
starts_within p i = min-le_right (i * p.size) (length p.source.zones)

-- the last piece ends after the last zone
last_start : (p : Pieces) → 0 < p.size → start_of p (count_of p) ≡ length p.source.zones
last_start p positive = min-eq_right (div_ceil_times (length p.source.zones) p.size positive).0

module _ (p : Pieces) where
  -- what some pieces in a row have, put together
  joined_from : (i : ℕ) (values : List (List FileImage)) → ((k : ℕ) (x : List FileImage) → get_elem? values k ≡ some x → IsOutcomeOf p (i + k) (Ok x))
      → AreImagesWithin p.source (start_of p i) (start_of p (i + length values)) (flat_map (λ x. x) values)
  joined_from i [] each =
      let at : i ≡ i + 0 = omega arith in
      subst (λ (n : ℕ). AreImagesWithin p.source (start_of p i) (start_of p n) []) at (none_within p.source (start_of p i))
  joined_from i (x ∷ values) each =
      let here : i + 0 ≡ i = omega arith in
      let first = subst (λ (n : ℕ). AreImagesWithin p.source (start_of p n) (start_of p (n + 1)) x) here (each 0 x refl) in
      let next : (k : ℕ) (y : List FileImage) → get_elem? values k ≡ some y → IsOutcomeOf p (i + 1 + k) (Ok y)
      = λ k y e. (let at : i + suc k ≡ i + 1 + k = omega arith in subst (λ (n : ℕ). IsOutcomeOf p n (Ok y)) at (each (suc k) y e)) in
      let rest = joined_from (i + 1) values next in
      let end : i + 1 + length values ≡ i + suc (length values) = omega arith in
      subst (λ (n : ℕ). AreImagesWithin p.source (start_of p i) (start_of p n) (flat_map (λ y. y) (x ∷ values))) end
      (both_within p.source (start_of p i) (start_of p (i + 1)) (start_of p (i + 1 + length values)) x (flat_map (λ y. y) values) first rest)

  -- what all pieces have, put together
  pub joined_all : (values : List (List FileImage)) → 0 < p.size → AreValues (IsOutcomeOf p) (count_of p) values → AreImagesOf p.source (flat_map (λ x. x) values)
  joined_all values positive are =
      let each : (k : ℕ) (x : List FileImage) → get_elem? values k ≡ some x → IsOutcomeOf p (0 + k) (Ok x)
      = λ k x e. (let at : k ≡ 0 + k = omega arith in subst (λ (n : ℕ). IsOutcomeOf p n (Ok x)) at (are.1 k x e)) in
      let first : start_of p 0 ≡ 0 = omega (arith, min-le_left (0 * p.size) (length p.source.zones)) in
      let end : start_of p (0 + length values) ≡ length p.source.zones = ap (start_of p) (omega (arith, are.0)) ∙ last_start p positive in
      let within = subst (λ (n : ℕ). AreImagesWithin p.source n (start_of p (0 + length values)) (flat_map (λ x. x) values)) first (joined_from 0 values each) in
      all_images p.source (start_of p (0 + length values)) (flat_map (λ x. x) values) end within

  -- each zone of the first pieces has an image
  have_before : (i : ℕ) → HaveValues (IsOutcomeOf p) i → HaveImagesBefore p.source (start_of p i)
  have_before zero have m lt = absurd (omega (arith, lt))
  have_before (suc i) have m lt =
      let last = have i (omega arith) in
      let mine = have_within p.source (start_of p i) (start_of p (i + 1)) last.0 last.1 m in
      let end : start_of p (suc i) ≡ start_of p (i + 1) = ap (start_of p) (omega arith) in
      elim (cases_order m (start_of p i)) [
        | inl same ↦ mine (omega (arith, same)) (omega (arith, lt, end))
        | inr (inl below) ↦ have_before i (λ j l. have j (omega (arith, l))) m below
        | inr (inr above) ↦ mine (omega (arith, above)) (omega (arith, lt, end))
      ]

  -- the fault of the least piece that has one
  fault_of_least : (i : ℕ) (fault : Fault) → HaveValues (IsOutcomeOf p) i → IsOutcomeOf p i (Err fault) → IsFaultOfFiles p.source fault
  fault_of_least i fault have within = record {
    number = within.number;
    is_zone = omega (arith, within.below, starts_within p (i + 1));
    fault_of_zone = within.fault_of_zone;
    before = λ m lt. elim (cases_order m (start_of p i)) [
      | inl same ↦ within.before m (omega (arith, same)) lt
      | inr (inl below) ↦ have_before i have m below
      | inr (inr above) ↦ within.before m (omega (arith, above)) lt
    ];
  }

  -- how the run ends where the task does
  pub task_stop : (stop : TaskStop Fault) → IsStop (IsOutcomeOf p) (count_of p) stop → IsStopOfImages p.source (end_of stop)
  task_stop (task.Fault i fault) h = fault_of_least i fault h.1 h.2
  task_stop (task.Memory i) h = tt
  task_stop task.NoThread h = absurd h
