use Rattle.std.proofs.Common.{◌<◌, length, map}
use Rattle.zic_files.specs.File.{file_of}
use Rattle.zic_compile.proofs.FilesOfEntries.{on_err, some_zone, have_images, all_files}
use Rattle.zic_compile.proofs.SoundFiles.{files_are_sound}
use Rattle.zic_compile.proofs.compiler.files_of.Goals as goal

pub returns-in_err-files-clause-memory : goal.returns-in_err-files-clause-memory
returns-in_err-files-clause-memory c =
    let source = c.args.source.now in
    on_err c.from_residual-in_err-files.result (0 < length source.zones) (some_zone source c.in_ok-entries.entries.items c.in_ok-entries.ensures.ok c.in_err-files.ensures.memory)

pub new-requires-clause-images : goal.new-requires-clause-images
new-requires-clause-images c =
    let are = c.in_ok-entries.ensures.ok in
    have_images c.args.source.now c.args.images.items are.places c.in_ok-entries.entries.items c.requires are.each

pub new-requires-clause-sound : goal.new-requires-clause-sound
new-requires-clause-sound c =
    let source = c.args.source.now in
    let images = c.args.images.items in
    let entries = c.in_ok-entries.entries.items in
    files_are_sound source c.zones.ensures.sound (map (file_of images) entries) (all_files source images entries c.requires c.in_ok-entries.ensures.ok)

pub returns-clause-ok : goal.returns-clause-ok
returns-clause-ok c =
    rw c.in_ok-files.ensures.ok (all_files c.args.source.now c.args.images.items c.in_ok-entries.entries.items c.requires c.in_ok-entries.ensures.ok)
