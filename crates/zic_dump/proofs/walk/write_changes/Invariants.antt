use Rattle.std.proofs.Common.{◌≡◌, ℤ, ◌<ℤ◌, ◌≤ℤ◌, take, drop, length, FitsSigned, w64}
use Rattle.zic_local.specs.LocalTime.{AreJust}
use Rattle.zic_dump.specs.NearChanges.{IsChangeWithin}
use Rattle.zic_dump.proofs.walk.write_changes.Given as goal

-- the changes up to the last that is written are written
abbrev pub invariant-loop-count : goal.invariant-loop-count
invariant-loop-count l = record {
  order : l.first ≤ℤ l.from;
  reach : (u : ℤ) → l.first <ℤ u → u ≤ℤ l.from → u ≤ℤ l.last;
  changes : AreJust (IsChangeWithin l.zone l.first l.from) (take l.count l.room);
  size : length l.room ≡ length l.fn.room;
  rest : drop l.count l.room ≡ drop l.count l.fn.room;
  fits : FitsSigned w64 l.from;
}
