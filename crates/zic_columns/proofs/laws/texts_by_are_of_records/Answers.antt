use Rattle.zic_columns.proofs.ByMode.{owns_by}
use Rattle.zic_columns.proofs.laws.texts_by_are_of_records.Goals as goal

pub returns : goal.returns
returns c = λ mode d bytes. owns_by d mode bytes
