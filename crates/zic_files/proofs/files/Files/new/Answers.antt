use Rattle.std.proofs.Common.{◌<◌, List, length, map, sym, subst}
use Rattle.std.specs.Prelude.{All}
use Rattle.zic_files.specs.File.{FileImage, file_of}
use Rattle.zic_files.specs.Sound.{AreSoundFiles}
use Rattle.zic_files.specs.declared.names.Entry.{Entry}
use Rattle.zic_files.specs.code.NameIndex.{AreNumbersOf}
use Rattle.zic_files.proofs.files.Files.new.Goals as goal

pub invariant_of-result : goal.invariant_of-result
invariant_of-result c =
    let entries = c.args.entries.items in
    let same = sym c.of-2.ensures in
    record {
      zones = subst (λ (images : List FileImage). All (λ (e : Entry). e.zone < length images) entries) same c.requires.images;
      numbers = subst (λ (entries : List Entry). AreNumbersOf entries c.in_ok-names.names) c.deref.ensures.value c.in_ok-names.ensures.ok;
      sound = subst (λ (images : List FileImage). AreSoundFiles (map (file_of images) entries)) same c.requires.sound;
    }
