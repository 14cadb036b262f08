-- The fields of the type of files.
use Rattle.std.specs.Prelude.{◌<◌, List, length, map, All}
use Rattle.zic_files.specs.File.{FileImage, file_of}
use Rattle.zic_files.specs.Sound.{AreSoundFiles}
use Rattle.zic_files.specs.declared.names.Entry.{Entry}
use Rattle.zic_files.specs.declared.name_index.NameIndex.{NameIndex}
use Rattle.zic_files.specs.code.NameIndex.{AreNumbersOf}

-- Each entry has the image of its zone, each name its number, and the files are sound.
pub record AreEntries (images : List FileImage) (entries : List Entry) (names : NameIndex) : Type 0 where
  pub zones : All (λ entry. entry.zone < length images) entries
  pub numbers : AreNumbersOf entries names
  pub sound : AreSoundFiles (map (file_of images) entries)
