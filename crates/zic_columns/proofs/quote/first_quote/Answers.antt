use Rattle.zic_columns.proofs.FoundBytes.{quote_found}
use Rattle.zic_columns.proofs.quote.first_quote.Goals as goal

pub returns : goal.returns
returns c = quote_found c.args.bytes.now c.memchr.result c.memchr.ensures
