use Rattle.zic_columns.proofs.StrayLaws.{plain_strays}
use Rattle.zic_columns.proofs.laws.plain_bytes_have_no_stray.Goals as goal

pub returns : goal.returns
returns c = λ d own can. plain_strays can own
