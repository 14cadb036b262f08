use Rattle.zic_columns.proofs.RfcRecords.{rfc_strays}
use Rattle.zic_columns.proofs.laws.rfc_records_have_no_stray.Goals as goal

pub returns : goal.returns
returns c = rfc_strays
