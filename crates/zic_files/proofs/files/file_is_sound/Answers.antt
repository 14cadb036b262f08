use Rattle.zic_files.proofs.Added.{sound_file}
use Rattle.zic_files.proofs.files.file_is_sound.Goals as goal

pub returns : goal.returns
returns c =
    sound_file c.states_have_numbers.ensures c.footers_leave_nothing_open.ensures c.args.name.now c.args.image.now c.octets.ensures.name c.zone.ensures.read c.requires
