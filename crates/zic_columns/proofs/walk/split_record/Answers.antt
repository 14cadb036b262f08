use Rattle.std.proofs.Common.{refl, arith}
use Rattle.std.proofs.lemmas.List.{length-drop}
use Rattle.zic_columns.proofs.WalkFacts.{walked_none}
use Rattle.zic_columns.proofs.walk.split_record.Goals as goal

pub split_rest-requires-clause-walked : goal.split_rest-requires-clause-walked
split_rest-requires-clause-walked c =
    walked_none c.args.delimiter.can c.args.piece.now c.args.start c.args.wanted _ (omega (arith, c.requires.some, length-drop c.args.start c.args.piece.now)) refl refl refl refl refl
