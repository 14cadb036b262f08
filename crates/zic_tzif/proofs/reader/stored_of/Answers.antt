use Rattle.std.proofs.Common.{length, refl, ◌∙◌}
use Rattle.std.proofs.lemmas.List.{length-map}
use Rattle.zic_tzif.specs.Block.{pieces, time_in}
use Rattle.zic_tzif.proofs.Passed.{pieces_length}
use Rattle.zic_tzif.proofs.reader.stored_of.Goals as goal

pub returns-clause-as_many : goal.returns-clause-as_many
returns-clause-as_many c =
    let block = c.args.parts.now.block in
    let count = length block.numbers.now in
    rw (c.in_ok-copy.ensures.times, c.new-stored.ensures.times, c.in_ok-times-2.ensures, c.in_ok-times.ensures, c.in_ok-copy.ensures.numbers)
    (length-map (pieces 8 count block.times.now) time_in ∙ pieces_length 8 count block.times.now)

pub returns-clause-content : goal.returns-clause-content
returns-clause-content c =
    rw (
      c.in_ok-copy.ensures.times,
      c.new-stored.ensures.times,
      c.in_ok-times-2.ensures,
      c.in_ok-times.ensures,
      c.in_ok-copy.ensures.version,
      c.new-stored.ensures.version,
      c.in_ok-copy.ensures.numbers,
      c.in_ok-copy.ensures.types,
      c.in_ok-copy.ensures.names,
      c.in_ok-copy.ensures.text,
      c.args.parts.now.block.numbers_are_there,
    )
    refl
