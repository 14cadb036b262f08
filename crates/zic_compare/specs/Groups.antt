-- The names that share the lines of `diff`: own choice.
use Rattle.std.specs.Prelude.{ℕ, bytes_eq, Bool, true, false, ◌&&◌, if◌then◌else◌, List, [], ◌∷◌, ◌++◌, Option, Some, None}
use Rattle.std.specs.List.{filter, flat_map}
use Rattle.zic_compare.specs.declared.sides.Grouping.{Grouping}
use Rattle.zic_compare.specs.declared.sides.Grouping.TheVariants as groupings
use Rattle.zic_files.specs.File.{File}

-- the bytes of the file of a name, if one of these has it
abbrev pub octets_of : List File → List ℕ → Option (List ℕ)
octets_of [] name = None
octets_of (file ∷ files) name = if bytes_eq file.name name then Some file.image.octets else octets_of files name

-- the same bytes twice, or twice no file
abbrev pub are_same : Option (List ℕ) → Option (List ℕ) → Bool
are_same None None = true
are_same (Some one) (Some other) = bytes_eq one other
are_same _ _ = false

-- Two files of one release stand together: they have the same bytes, and so have the files of their names in the other release, or it has
-- neither.
abbrev pub stand_together : List File → File → File → Bool
stand_together others one other = bytes_eq one.image.octets other.image.octets && are_same (octets_of others one.name) (octets_of others other.name)

-- the files of a release that stand together with this one of it, in their order
abbrev pub group_of : List File → List File → File → List File
group_of own others file = filter (stand_together others file) own

-- the names of a group, with a space before each but the first
abbrev pub names_in : List File → List ℕ
names_in links = flat_map (λ link. 32 ∷ link.name) links

-- the first field of the lines of a group, if the file is the first of it: the lines of a group are those of its first file
abbrev pub field_of : List File → File → Option (List ℕ)
field_of [] file = None
field_of (first ∷ links) file = if bytes_eq first.name file.name then Some (first.name ++ names_in links) else None

-- The first field of a file's lines, if it has any: its name, or the names that share its lines.
abbrev pub zone_field : Grouping → List File → List File → File → Option (List ℕ)
zone_field groupings.Apart own others file = Some file.name
zone_field groupings.Together own others file = field_of (group_of own others file) file
