use Rattle.std.proofs.lemmas.List.{take_rest}
use Rattle.zic_columns.proofs.WalkFacts.{quoted_at}
use Rattle.zic_columns.proofs.walk.quoted_field.Goals as goal

pub returns : goal.returns
returns c =
    let piece = c.args.piece.now in
    let at = c.args.at in
    let found = c.field_len-found in
    quoted_at c.args.delimiter.can piece at c.requires _ found.ensures.0 found.result.len found.result.stray (take_rest piece at) found.ensures.1 found.ensures.2
