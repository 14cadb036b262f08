use Rattle.std.proofs.Common.{refl, arith}
use Rattle.std.proofs.lemmas.List.{length-drop}
use Rattle.zic_columns.specs.code.Plain.{no_fields, record_of}
use Rattle.zic_columns.proofs.WalkFacts.{walked_none}
use Rattle.zic_columns.proofs.plain.split_fields.Goals as goal

pub reading-init : goal.reading-init
reading-init c = record {
  walked = rw c.no_fields-fields.ensures (walked_none c.args.delimiter.can c.args.piece.now c.args.start c.args.wanted (record_of c.args.start c.args.start (no_fields c.args.start))
      (omega (arith, c.requires.begins.some, length-drop c.args.start c.args.piece.now)) refl refl refl refl refl);
  shows = c.requires.shows;
}
