-- The zones of a source, cut into pieces.
use Rattle.std.specs.Prelude.{ℕ, ◌+◌, ◌*◌, ◌≤◌, ◌<◌, List, length, min, Result, Ok, Err}
use Rattle.std.specs.Int.{div_ceil}
use Rattle.zic_base.specs.declared.fault.Fault.{Fault}
use Rattle.zic_source.specs.Source.{SourceLines}
use Rattle.zic_source.specs.declared.source.TheConstants.{MAX_NAMES}
use Rattle.zic_files.specs.File.{FileImage}
use Rattle.zic_layouts.specs.declared.plan.TheConstants.{MAX_OF_PIECE}
use Rattle.zic_compile.specs.code.Zones.{AreImagesWithin, IsFaultWithin}

-- a source, and how many zones a piece has; the last may have fewer
pub record Pieces : Type 0 where
  pub source : SourceLines
  pub size : ℕ

-- how many pieces there are
abbrev pub count_of : Pieces → ℕ
count_of pieces = div_ceil (length pieces.source.zones) pieces.size

-- the number of a piece's first zone, and of the last piece's end
abbrev pub start_of : Pieces → ℕ → ℕ
start_of pieces i = min (i * pieces.size) (length pieces.source.zones)

-- the limits of a source's pieces
pub record ArePieces (pieces : Pieces) : Type 0 where
  pub some : 0 < pieces.size
  pub most : pieces.size ≤ MAX_OF_PIECE
  pub few : length pieces.source.zones ≤ MAX_NAMES

-- The outcome of a piece: the images of its zones, or the fault of the first of them that has one.
abbrev pub IsOutcomeOf : Pieces → ℕ → Result (List FileImage) Fault → Type 0
IsOutcomeOf pieces i (Ok images) =
    AreImagesWithin pieces.source (start_of pieces i) (start_of pieces (i + 1)) images
IsOutcomeOf pieces i (Err fault) =
    IsFaultWithin pieces.source (start_of pieces i) (start_of pieces (i + 1)) fault
