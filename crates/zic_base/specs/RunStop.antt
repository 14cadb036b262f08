-- How a run ends.
use Rattle.zic_base.specs.declared.fault.Stop.{Stop}
use Rattle.zic_base.specs.declared.fault.Stop.TheVariants as stops
use Rattle.zic_base.specs.declared.stops.RunStop.{RunStop}
use Rattle.zic_base.specs.declared.stops.RunStop.TheVariants.{Source, Memory}

-- the end of a run for a fault of a source, or because memory ran out
abbrev pub run_stop : Stop → RunStop
run_stop (stops.Fault fault) = Source fault
run_stop stops.Memory = Memory
