-- A file: its name, its bytes, and what a reader makes of them.
use Rattle.std.specs.Prelude.{ℕ, List, [], slice_index_or}
use Rattle.zic_tzif.specs.Content.{Content, content}
use Rattle.zic_files.specs.declared.names.Entry.{Entry}

-- the bytes of a file, and what a reader makes of them
pub record FileImage : Type 0 where
  pub octets : List ℕ
  pub content : Content

-- a file's name, and its image
pub record File : Type 0 where
  pub name : List ℕ
  pub image : FileImage

-- an image for a number that no image has
abbrev pub no_image : FileImage
no_image = record { octets = []; content = content 2 [] [] [] [] }

-- the file of an entry: its name, and the image of its number
abbrev pub file_of : List FileImage → Entry → File
file_of images entry = record { name = entry.name; image = slice_index_or images entry.zone no_image }
