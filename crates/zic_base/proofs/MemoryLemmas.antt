-- What holds anyway holds where a call answers out of memory.
use Rattle.std.proofs.Common.{Option, Some, None}
use Rattle.std.specs.Prelude.{Result, Ok, Err, IfNone}
use Rattle.zic_base.specs.Memory.{OnOutOfMemory}

if_none : {F : Type 0} (o : Option F) (P : Type 0) → P → IfNone o P
if_none None P p = p
if_none (Some x) P p = tt

pub on_want : {X E F : Type 0} (refusal_of : E → Option F) (result : Result X E) (P : Type 0) → P → OnOutOfMemory refusal_of result P
on_want refusal_of (Ok x) P p = tt
on_want refusal_of (Err error) P p = if_none (refusal_of error) P p
