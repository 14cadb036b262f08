-- What is made ready of files before rows are made.
use Rattle.std.specs.Prelude.{◌≡◌, ◌≤◌, ℕ, ℤ, List, length, Some, None, IfSome, IsSomeAnd, slice_get, slice_index_or}
use Rattle.zic_base.specs.State.{Shown}
use Rattle.zic_files.specs.File.{File}
use Rattle.zic_zones.specs.Places.{base_of}
use Rattle.zic_zones.specs.declared.slot.Slot.{Slot}
use Rattle.zic_tzif.specs.Answer.{Answers}
use Rattle.zic_tzif.specs.Content.{Content}
use Rattle.zic_tzif.specs.States.{IsStateOfNumber}
use Rattle.zic_local.specs.Index.{IsIndexOf}
use Rattle.zic_local.specs.declared.local_index.LocalIndex.{LocalIndex}
use Rattle.zic_zones.specs.code.NameKeys.{AreNamesOf}
use Rattle.zic_zones.specs.code.Tables.{IsTable}
use Rattle.zic_zones.specs.code.Texts.{AreNumbersOf}
use Rattle.zic_zones.specs.declared.ready.Ready.{Ready}
use Rattle.zic_zones.specs.declared.ready.ReadyZone.{ReadyZone}

-- a state that a content answers at an instant
abbrev pub AnswersState : Content → ℤ → Shown → Type 0
AnswersState content t state = Answers content t (Some state)

-- the index of this number is that of a zone with this content
abbrev pub HasIndex : Content → List LocalIndex → ℕ → Type 0
HasIndex content indexes number = IsSomeAnd (slice_get indexes number) (IsIndexOf content)

-- The numbers of a zone's texts, tables of them for its eras, and the number of its index, if it has one.
pub record IsReadyZone (content : Content) (texts : List Shown) (slots : List Slot) (indexes : List LocalIndex) (zone : ReadyZone) : Type 0 where
  pub numbers : AreNumbersOf content texts zone.numbers.items
  pub tables : (era start : ℕ) → slice_index_or zone.tables era None ≡ Some start → IsTable texts slots (AnswersState content) (base_of era) start
  pub index : IfSome zone.index (HasIndex content indexes)

-- The first files are ready, and their names.
pub record AreReady (files : List File) (ready : Ready) : Type 0 where
  pub names : AreNamesOf files ready.names
  pub few : length ready.zones.items ≤ length files
  pub each : (i : ℕ) (file : File) (zone : ReadyZone) → slice_get files i ≡ Some file → slice_get ready.zones.items i ≡ Some zone
      → IsReadyZone file.image.content ready.texts ready.tables ready.indexes.items zone

-- the file of this number has this state, by the state's number
abbrev pub IsTextOf : List File → ℕ → ℕ → Shown → Type 0
IsTextOf files file number state = IfSome (slice_get files file) (λ f. IsStateOfNumber f.image.content number state)

-- the file of this number has the name
abbrev pub IsFileOf : List File → List ℕ → ℕ → Type 0
IsFileOf files name number = IsSomeAnd (slice_get files number) (λ file. file.name ≡ name)
