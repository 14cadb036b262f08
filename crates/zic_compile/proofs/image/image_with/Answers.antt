use Rattle.std.proofs.Common.{refl}
use Rattle.zic_compile.proofs.zone_images.Instants.{gives_shows}
use Rattle.zic_compile.proofs.image.image_with.Goals as goal

pub returns-clause-ok : goal.returns-clause-ok
returns-clause-ok c =
    rw c.in_ok-file_of.ensures.is (record {
      sound = c.requires.sound;
      footer = c.args.footer.now;
      is_made = c.requires.made;
      is_content = c.in_ok-table.ensures.ok;
      are_written = refl;
    })

pub returns-clause-reads : goal.returns-clause-reads
returns-clause-reads c =
    rw c.in_ok-file_of.ensures.is (record {
      read = c.in_ok-file_of.ensures.read;
      gives = gives_shows c.args.states.now c.requires.source c.requires.zone c.requires.sound c.args.footer.now c.requires.goes_on
          c.in_ok-table.table c.in_ok-table.ensures.ok c.in_ok-table.ensures.footer c.in_ok-table.ensures.writable;
    })
