-- How a run ends.
use Rattle.zic_base.specs.declared.fault.Fault.{Fault}
use Rattle.zic_pieces.specs.declared.task.TaskStop.{TaskStop}
use Rattle.zic_pieces.specs.declared.task.TaskStop.TheVariants as task
use Rattle.zic_source.specs.Source.{SourceLines}
use Rattle.zic_compile.specs.Files.{IsFaultOfFiles}
use Rattle.zic_base.specs.declared.stops.RunStop.{RunStop}
use Rattle.zic_base.specs.declared.stops.RunStop.TheVariants.{Source, Memory, NoThread}

-- the end of a run for that of the task of its zones
abbrev pub end_of : TaskStop Fault → RunStop
end_of (task.Fault i fault) = Source fault
end_of (task.Memory i) = Memory
end_of task.NoThread = NoThread

-- why there are no images of all zones of a source: the fault of the first that has one, or memory
-- ran out
abbrev pub IsStopOfImages : SourceLines → RunStop → Type 0
IsStopOfImages source (Source fault) = IsFaultOfFiles source fault
IsStopOfImages source Memory = Unit {0}
IsStopOfImages source _ = ⊥
