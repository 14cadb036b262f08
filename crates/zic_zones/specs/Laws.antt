-- Laws of zones by name.
use Rattle.std.specs.Prelude.{ℕ, ℤ, List, ◌++◌, MatchResult}
use Rattle.zic_layouts.specs.declared.disambiguation.Disambiguation.{Disambiguation}
use Rattle.zic_tzif.specs.Content.{Content}
use Rattle.zic_tzif.specs.Reading.{IsFile}
use Rattle.zic_local.specs.Choice.{IsUnresolved, Means}
use Rattle.zic_files.specs.File.{File}
use Rattle.zic_files.specs.Tree.{AreFilesOfReplies, IsKnown, IsLearntFrom, Learnt, Reply}
use Rattle.zic_zones.specs.Resolved.{resolved}
use Rattle.zic_zones.specs.Zones.{Agree}

-- The files of a tree's replies agree with what was learnt of the first of them, whatever the tree replies to other names.
abbrev pub RepliesAgree : Type 0
RepliesAgree = (replies others : List Reply) (learnt : Learnt) (files : List File) → IsLearntFrom replies learnt → AreFilesOfReplies (replies ++ others) files
    → Agree (IsKnown learnt) learnt.files files

-- what is meant by a local time of a file's, as the function gives it
abbrev pub LocalTimesResolve : Type 0
LocalTimesResolve =
    (octets : List ℕ) (content : Content) → IsFile octets content → (local : ℤ) (disambiguation : Disambiguation)
    → MatchResult (resolved octets local disambiguation) (Means content local disambiguation) (IsUnresolved content local disambiguation)
