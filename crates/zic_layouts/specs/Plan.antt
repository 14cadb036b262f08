-- How work is cut and shared, and how much of it there may be. The limits are own choice.
use Rattle.std.specs.Prelude.{ℕ, ◌≤◌}
use Rattle.std.specs.Int.{IsInRange}
use Rattle.zic_layouts.specs.declared.plan.TheConstants.{MAX_WORKERS, MAX_OF_PIECE, MAX_ROWS, MAX_BYTES}

-- the number of workers, those of zones and of rows in a piece, and those of rows and bytes that a
-- column may have
pub record Limits : Type 0 where
  pub workers : ℕ
  pub zone_piece : ℕ
  pub row_piece : ℕ
  pub max_rows : ℕ
  pub max_bytes : ℕ

abbrev pub limits : ℕ → ℕ → ℕ → ℕ → ℕ → Limits
limits workers zone_piece row_piece max_rows max_bytes =
    record {
      workers = workers;
      zone_piece = zone_piece;
      row_piece = row_piece;
      max_rows = max_rows;
      max_bytes = max_bytes;
    }

-- some worker, some zone and some row in each piece, and none beyond its limit
pub record IsPlan (limits : Limits) : Type 0 where
  pub workers : IsInRange 1 MAX_WORKERS limits.workers
  pub zone_piece : IsInRange 1 MAX_OF_PIECE limits.zone_piece
  pub row_piece : IsInRange 1 MAX_OF_PIECE limits.row_piece
  pub max_rows : limits.max_rows ≤ MAX_ROWS
  pub max_bytes : limits.max_bytes ≤ MAX_BYTES
