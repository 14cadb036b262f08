-- An observance: what is in force, as the code has it.
use Rattle.std.specs.Option.{option_copied}
use Rattle.zic_states.specs.declared.observance.Observance.{Observance}
use Rattle.zic_states.specs.InForce.{InForce}

-- its saving, flag and letter
abbrev pub in_force : Observance → InForce
in_force observed = record { saving = observed.saving; daylight = observed.daylight; letter = option_copied observed.letter }
