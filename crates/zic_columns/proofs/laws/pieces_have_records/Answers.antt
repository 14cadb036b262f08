use Rattle.zic_columns.proofs.PieceRecords.{pieces_fields}
use Rattle.zic_columns.proofs.laws.pieces_have_records.Goals as goal

pub returns : goal.returns
returns c = pieces_fields
