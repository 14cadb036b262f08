-- What is meant by a local time, as a function of a file's bytes: for definitions that are functions themselves.
use Rattle.std.specs.Prelude.{ℕ, ℤ, List, Result}
use Rattle.zic_layouts.specs.declared.disambiguation.Disambiguation.{Disambiguation}
use Rattle.zic_local.specs.declared.local_time.Unresolved.{Unresolved}
use Rattle.zic_local.proofs.Resolving.{resolved_by}

-- The instant that is meant by a local time, or why none is: of the bytes of a file the one thing of which `Means` or `IsUnresolved` holds, as
-- the law `LocalTimesResolve` says; by `ChoicesMeanOne` there is one at most, so its body needn't be read. Bytes that are no file it leaves open.
unfoldable pub resolved : List ℕ → ℤ → Disambiguation → Result ℤ Unresolved
resolved octets local disambiguation = resolved_by octets local disambiguation
