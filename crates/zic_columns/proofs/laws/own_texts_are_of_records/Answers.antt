use Rattle.zic_columns.proofs.PieceRecords.{wholes_fields, wholes_owns}
use Rattle.zic_columns.proofs.laws.own_texts_are_of_records.Goals as goal

pub returns : goal.returns
returns c = λ d bytes. (wholes_owns d bytes, wholes_fields d bytes)
