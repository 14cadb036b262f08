-- Handles, and what they hold.
use Rattle.std.specs.Prelude.{◌≡◌, ℕ, ℤ, List, slice_get, Option, Some, None, option_map}
use Rattle.zic_tzif.specs.Content.{Content}
use Rattle.zic_files.specs.File.{File}
use Rattle.pzic_zones.specs.declared.held.Held.{Held}
use Rattle.pzic_zones.specs.declared.held.Held.TheVariants as held
use Rattle.pzic_zones.specs.declared.column.Made.{Made}
use Rattle.pzic_zones.specs.declared.handle.Handle.{Handle}
use Rattle.pzic_zones.specs.declared.status.TheConstants.{OK, NO_MEMORY, NO_HANDLE}

-- what a handle holds
abbrev pub held_in : Handle → Option Held
held_in h = h.owned.value

-- the number of what a handle holds: 0 is nothing, 1 a zone, 2 files and 3 rows
abbrev pub kind_of : Option Held → ℕ
kind_of None = 0
kind_of (Some (held.Zone zone)) = 1
kind_of (Some (held.Member member)) = 1
kind_of (Some (held.Files files)) = 2
kind_of (Some (held.Rows rows)) = 3

-- The handle says what it holds. It is one that a call filled, or all zeros.
abbrev pub IsHandle : Handle → Type 0
IsHandle h = h.kind ≡ kind_of (held_in h)

-- the content of the file of a number
abbrev pub content_at : List File → ℕ → Option Content
content_at files i = option_map (λ file. file.image.content) (slice_get files i)

-- the content of the zone's file, where something holds a zone
abbrev pub content_of : Held → Option Content
content_of (held.Zone single) = Some single.zone.value
content_of (held.Member member) = content_at member.files.value member.number
content_of (held.Files files) = None
content_of (held.Rows rows) = None

-- the files, where something holds files
abbrev pub files_of : Held → Option (List File)
files_of (held.Zone zone) = None
files_of (held.Member member) = None
files_of (held.Files files) = Some files.value
files_of (held.Rows rows) = None

-- the rows, where something holds rows
abbrev pub rows_of : Held → Option Made
rows_of (held.Zone zone) = None
rows_of (held.Member member) = None
rows_of (held.Files files) = None
rows_of (held.Rows rows) = Some rows.value

-- the content of the file of a handle's zone, and nothing where the handle holds no zone
abbrev pub zone_of : Option Held → Option Content
zone_of (Some x) = content_of x
zone_of None = None

abbrev pub zone_in : Handle → Option Content
zone_in h = zone_of (held_in h)

-- the files that a handle holds, and nothing where it holds none
abbrev pub files_held : Option Held → Option (List File)
files_held (Some x) = files_of x
files_held None = None

abbrev pub files_in : Handle → Option (List File)
files_in h = files_held (held_in h)

-- the rows that a handle holds, and nothing where it holds none
abbrev pub rows_held : Option Held → Option Made
rows_held (Some x) = rows_of x
rows_held None = None

abbrev pub rows_in : Handle → Option Made
rows_in h = rows_held (held_in h)

-- They hold the same zone, the same files or the same rows.
pub record AreAlike (x y : Held) : Type 0 where
  pub zone : content_of x ≡ content_of y
  pub files : files_of x ≡ files_of y
  pub rows : rows_of x ≡ rows_of y

-- The other handle holds the same, or nothing where memory ran out or there was nothing to share.
abbrev pub IsShared : Option Held → ℤ → Option Held → Type 0
IsShared None status other = (status ≡ NO_HANDLE) × (other ≡ None)
IsShared (Some x) status (Some other) = (status ≡ OK) × AreAlike other x
IsShared (Some x) status None = status ≡ NO_MEMORY
