use Rattle.zic_dump.proofs.OffsetLemmas.{have_offsets}
use Rattle.zic_dump.proofs.changes.dump.Goals as goal

pub text_of-requires : goal.text_of-requires
text_of-requires c = have_offsets c.args.bytes.now c.in_ok-zone.zone c.in_ok-zone.ensures.ok

pub returns-clause-ok : goal.returns-clause-ok
returns-clause-ok c =
    let made = c.in_ok-text_of.ensures in
    record {
      content = c.in_ok-zone.zone;
      is_file = c.in_ok-zone.ensures.ok;
      before = made.before;
      answers = made.answers;
      changes = made.changes;
      are_changes = made.are_changes;
      is = made.is;
    }
