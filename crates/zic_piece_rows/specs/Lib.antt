pub mod code
pub mod Detail
pub mod Rows
pub mod LayoutRows
pub mod PieceRows
pub use Rattle.zic_row_text.specs.Instant
pub use Rattle.zic_row_text.specs.Row
pub use Rattle.zic_files.specs.File
