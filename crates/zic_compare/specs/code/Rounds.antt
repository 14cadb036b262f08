-- Two lists of files, the lines of one of which are made in rounds, and the pieces of a round.
use Rattle.std.specs.Prelude.{ℕ, ◌+◌, ◌-◌, ◌*◌, ◌≡◌, ◌≤◌, List, [], ◌∷◌, length, min, slice_range, take, Option, Result, Ok, Err}
use Rattle.std.specs.Int.{div_ceil}
use Rattle.zic_compare.specs.Files.{AreLinesOfNew, AreLinesOfOld, HasInstants}
use Rattle.zic_compare.specs.Lines.{AreLinesOfAll}
use Rattle.zic_compare.specs.Text.{with_names}
use Rattle.zic_compare.specs.Written.{EndsAfter}
use Rattle.zic_compare.specs.declared.sides.Listed.{Listed}
use Rattle.zic_compare.specs.declared.lists.Side.{Side}
use Rattle.zic_compare.specs.declared.lists.Side.TheVariants as sides
use Rattle.zic_compare.specs.declared.lists.TheConstants.{MAX_NAMES}
use Rattle.zic_compare.specs.declared.sides.DiffStop.{DiffStop}
use Rattle.zic_compare.specs.declared.sides.DiffStop.TheVariants as stops
use Rattle.zic_counted.specs.Counts.{Counts}
use Rattle.zic_counted.specs.Written.{FailsWithin, Writes}
use Rattle.zic_files.specs.File.{File}
use Rattle.zic_pieces.specs.Task.{AreValues}
use Rattle.zic_layouts.specs.declared.plan.TheConstants.{MAX_OF_PIECE}

-- what is listed, the old and the new files, and the list whose lines are made
pub record FileLists : Type 0 where
  pub how : Listed
  pub old : List File
  pub new : List File
  pub side : Side

-- one of two lists, and what the lines of a file of it are
abbrev pub files_by : Side → List File → List File → List File
files_by sides.Old old new = old
files_by sides.New old new = new

abbrev pub AreLinesBy : Side → Listed → List File → List File → File → List ℕ → Type 0
AreLinesBy sides.Old how old new = AreLinesOfOld how old new
AreLinesBy sides.New how old new = AreLinesOfNew how old new

abbrev pub files_of : FileLists → List File
files_of l = files_by l.side l.old l.new

abbrev pub AreLinesIn : FileLists → File → List ℕ → Type 0
AreLinesIn l = AreLinesBy l.side l.how l.old l.new

-- the files of a list from one number on up to another, and how many of them a piece has; the last may have fewer
pub record FileRound : Type 0 where
  pub lists : FileLists
  pub first : ℕ
  pub end : ℕ
  pub size : ℕ

-- the limits of a round
pub record IsRound (r : FileRound) : Type 0 where
  pub instants : HasInstants r.lists.how
  pub order : r.first ≤ r.end
  pub within : r.end ≤ length (files_of r.lists)
  pub few : r.end - r.first ≤ MAX_NAMES
  pub some : 1 ≤ r.size
  pub most : r.size ≤ MAX_OF_PIECE

-- how many pieces it has
abbrev pub count_of : FileRound → ℕ
count_of r = div_ceil (r.end - r.first) r.size

-- the number of the first file of a piece, and of the end of the piece before it
abbrev pub start_of : FileRound → ℕ → ℕ
start_of r i = r.first + min (i * r.size) (r.end - r.first)

-- the files of a piece
abbrev pub files_in : FileRound → ℕ → List File
files_in r i = slice_range (files_of r.lists) (start_of r i) (start_of r (i + 1))

-- The outcome of a piece: its lines. None has a fault.
abbrev pub IsOutcomeOf : FileRound → ℕ → Result (List ℕ) (Unit {0}) → Type 0
IsOutcomeOf r i (Ok text) = AreLinesOfAll (AreLinesIn r.lists) (files_in r i) text
IsOutcomeOf r i (Err fault) = ⊥

-- the lines of all pieces
pub record AreTextsOf (r : FileRound) (texts : List (List ℕ)) : Type 0 where
  pub round : IsRound r
  pub values : AreValues (IsOutcomeOf r) (count_of r) texts

-- the names that are still to be written before a line: none, once there was one
abbrev pub names_after : List ℕ → List ℕ → List ℕ
names_after names [] = names
names_after names (byte ∷ lines) = []

-- the lines of these files were written, with these names before the first line, and those are left that come before a later one
pub record WritesLines {W : Type 0} (contents : W → Option (List ℕ)) (l : FileLists) (names : List ℕ) (files : List File) (old new : Counts W)
    (left : List ℕ) : Type 0 where
  pub lines : List ℕ
  pub are : AreLinesOfAll (AreLinesIn l) files lines
  pub writes : Writes contents old new (with_names names lines)
  pub left_is : left ≡ names_after names lines

-- the files of a round
abbrev pub round_files : FileRound → List File
round_files r = slice_range (files_of r.lists) r.first r.end

-- a write failed within the lines of these files
pub record FailsInLines {W : Type 0} (contents : W → Option (List ℕ)) (l : FileLists) (names : List ℕ) (files : List File) (old new : Counts W) : Type 0 where
  pub lines : List ℕ
  pub are : AreLinesOfAll (AreLinesIn l) files lines
  pub fails : FailsWithin contents old new (with_names names lines)

-- nothing of a round was written, for want of memory, or a write failed within its lines
abbrev pub EndsRound : {W : Type 0} → (W → Option (List ℕ)) → FileRound → List ℕ → Counts W → Counts W → DiffStop → Type 0
EndsRound contents r names old new stops.Memory = new ≡ old
EndsRound contents r names old new stops.WriteFailed = FailsInLines contents r.lists names (round_files r) old new

-- nothing of these lines was written, since memory ran out, or a write failed within them
abbrev pub EndsRefused : {W : Type 0} → (W → Option (List ℕ)) → List ℕ → List ℕ → Counts W → Counts W → DiffStop → Type 0
EndsRefused contents names lines old new stops.Memory = new ≡ old
EndsRefused contents names lines old new stops.WriteFailed = FailsWithin contents old new (with_names names lines)

-- the lines of some of the first files of a list were written, or a write failed within them
pub record EndsList {W : Type 0} (contents : W → Option (List ℕ)) (l : FileLists) (names : List ℕ) (old new : Counts W) (stop : DiffStop) : Type 0 where
  pub count : ℕ
  pub lines : List ℕ
  pub are : AreLinesOfAll (AreLinesIn l) (take count (files_of l)) lines
  pub ends : EndsAfter contents old new (with_names names lines) stop
