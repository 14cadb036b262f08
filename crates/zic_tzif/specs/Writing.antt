-- The one form in which a file is written. Own choice: a first block of one type and one byte of designations, all 0, no
-- indicators, reserved bytes 0.
use Rattle.std.specs.Prelude.{ℕ, ◌+◌, if◌then◌else◌, List, [], ◌∷◌, ◌++◌, map, length, replicate}
use Rattle.std.specs.Int.{w32, w64, cast_unsigned}
use Rattle.std.specs.List.{flat_map}
use Rattle.byteorder.specs.Endian.{big_bytes}
use Rattle.zic_tzif.specs.declared.content.Change.{Change}
use Rattle.zic_tzif.specs.declared.content.LocalType.{LocalType}
use Rattle.zic_tzif.specs.Content.{Content, IsWritable}
use Rattle.zic_tzif.specs.Reading.{IsFile}

-- a header of this version, without indicators and leap seconds
abbrev pub header : ℕ → ℕ → ℕ → ℕ → List ℕ
header version transitions types characters =
    84 ∷ 90 ∷ 105 ∷ 102 ∷ (48 + version) ∷ replicate 15 0 ++ big_bytes 4 0 ++ big_bytes 4 0 ++ big_bytes 4 0
    ++ big_bytes 4 transitions ++ big_bytes 4 types ++ big_bytes 4 characters

abbrev pub type_octets : LocalType → List ℕ
type_octets t = big_bytes 4 (cast_unsigned w32 t.offset) ++ (if t.daylight then 1 else 0) ∷ t.place ∷ []

abbrev pub time_octets : Change → List ℕ
time_octets c = big_bytes 8 (cast_unsigned w64 c.instant)

-- the bytes of a content
abbrev pub written : Content → List ℕ
written content =
    header content.version 0 1 1 ++ replicate 7 0
    ++ header content.version (length content.changes) (length content.types) (length content.names)
    ++ flat_map time_octets content.changes ++ map (λ c. c.number) content.changes
    ++ flat_map type_octets content.types ++ content.names ++ 10 ∷ (content.text ++ 10 ∷ [])

-- the written form of a writable content is a file, which says this content
abbrev pub WrittenIsFile : Type 0
WrittenIsFile = (content : Content) → IsWritable content → IsFile (written content) content
