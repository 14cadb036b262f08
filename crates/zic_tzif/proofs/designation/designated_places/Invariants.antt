use Rattle.std.proofs.Common.{◌≡◌, ℕ, ◌-◌, ◌<◌, ◌≤◌, false, length, get_or}
use Rattle.zic_tzif.specs.Designation.{is_designated}
use Rattle.zic_tzif.proofs.designation.designated_places.Given as goal

abbrev pub invariant-loop-passed : goal.invariant-loop-passed
invariant-loop-passed l = record {
  size : length l.places ≡ 256;
  begins : l.begins ≡ is_designated l.names (length l.names - l.passed);
  known : (place : ℕ) → length l.names - l.passed ≤ place → place < 256 → get_or l.places place false ≡ is_designated l.names place;
}
