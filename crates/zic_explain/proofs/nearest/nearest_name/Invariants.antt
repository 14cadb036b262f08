use denote.Text.{Utf8}
use denote.Shadow.{shadow}
use Rattle.zic_explain.proofs.NearestNames.{NearestOf}
use Rattle.zic_explain.proofs.nearest.nearest_name.Given as goal

-- the nearest of the names so far
abbrev pub invariant-loop-other : goal.invariant-loop-other
invariant-loop-other l =
    shadow (Utf8 l.nearest) × NearestOf l.names l.name l.other-index l.nearest l.least
