-- Values that the code of spans computes.
use Rattle.std.specs.Prelude.{◌≡◌, ◌≤◌, ℤ, pos, ◌+ℤ◌, ◌<ℤ◌, ◌≤ℤ◌, unsigned_abs, MatchBool}
use Rattle.zic_posix.specs.declared.footer.Dst.{Dst}
use Rattle.zic_posix.specs.declared.span.Around.{Around}
use Rattle.zic_posix.specs.declared.span.Phase.{Phase}
use Rattle.zic_posix.specs.Meaning.{IsDaylightAt, IsStandardAt, IsEdgeInstant}

-- t lies between the instants of an edge in a year and in the next
pub record IsAround (edge : ℤ → ℤ) (t : ℤ) (around : Around) : Type 0 where
  pub year : ℤ
  pub year_from : pos 1968 ≤ℤ year
  pub year_to : year ≤ℤ pos 2370
  pub last : around.last ≡ edge year
  pub next : around.next ≡ edge (year +ℤ pos 1)
  pub not_after : around.last ≤ℤ t
  pub after : t <ℤ around.next

-- less than 10,000 years from 1970
abbrev pub IsNear : ℤ → Type 0
IsNear t = unsigned_abs t ≤ 300_000_000_000

-- t lies between two edges that follow each other, and this time is in force
pub record IsPhase (standard : ℤ) (dst : Dst) (t : ℤ) (phase : Phase) : Type 0 where
  pub in_force : MatchBool phase.is_daylight (IsDaylightAt standard dst t) (IsStandardAt standard dst t)
  pub from_edge : IsEdgeInstant standard dst phase.from
  pub until_edge : IsEdgeInstant standard dst phase.until
  pub not_after : phase.from ≤ℤ t
  pub after : t <ℤ phase.until
  pub none : (u : ℤ) → phase.from <ℤ u → u <ℤ phase.until → IsEdgeInstant standard dst u → ⊥
  pub from_near : IsNear phase.from
  pub until_near : IsNear phase.until
