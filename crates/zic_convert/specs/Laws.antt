-- Laws of converted columns: each is the contract of a function of the module `laws`.
use Rattle.std.specs.Prelude.{◌≡◌, ◌↔◌, ℕ, List, Option, IfSome}
use Rattle.zic_files.specs.File.{File}
use Rattle.zic_files.specs.Sound.{AreSoundFiles}
use Rattle.zic_zones.specs.Zones.{alone}
use Rattle.zic_zones.specs.declared.zones.Releases.{Releases}
use Rattle.zic_layouts.specs.Layout.{HasPlainRows, records_before}
use Rattle.zic_layouts.specs.declared.layout.Header.TheVariants as header
use Rattle.zic_base.specs.declared.row_fault.RowKind.{RowKind}
use Rattle.zic_convert.specs.By.{By}
use Rattle.zic_convert.specs.Column.{ConvertsBodyTo, ConvertsBy, ConvertsTo}

-- The files of each release are sound.
pub record AreSoundReleases (releases : Releases) : Type 0 where
  pub zones : AreSoundFiles releases.zones
  pub old : IfSome releases.old AreSoundFiles

-- By the files of a source a column converts to at most one list of texts, and one fault or none, also by each layout, and compared with
-- those of another.
pub record ColumnsConvertOnce : Type 0 where
  pub all : (files : List File) (most : ℕ) (column : List ℕ) (a b : List (List ℕ)) (fault other : Option RowKind) → AreSoundFiles files
      → ConvertsTo files most column a fault → ConvertsTo files most column b other → (a ≡ b) × (fault ≡ other)
  pub by : (by : By) (column : List ℕ) (a b : List (List ℕ)) (fault other : Option RowKind) → AreSoundReleases by.releases
      → ConvertsBy by column a fault → ConvertsBy by column b other → (a ≡ b) × (fault ≡ other)

-- By a layout of plain rows a column converts to what it converts to without a layout, and to nothing else, whether its first record is a
-- header or not.
pub record PlainColumnsConvertAlike : Type 0 where
  pub all : (by : By) (files : List File) (column : List ℕ) (texts : List (List ℕ)) (fault : Option RowKind) → HasPlainRows by.layout → by.releases ≡ alone files
      → by.layout.header ≡ header.Absent → (ConvertsBy by column texts fault ↔ ConvertsTo files by.most_rows column texts fault)
  pub body : (by : By) (files : List File) (column : List ℕ) (texts : List (List ℕ)) (fault : Option RowKind) → HasPlainRows by.layout → by.releases ≡ alone files
      → records_before by.layout.header ≡ 1 → (ConvertsBy by column texts fault ↔ ConvertsBodyTo files by.most_rows column texts fault)
