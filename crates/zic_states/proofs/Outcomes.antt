-- What a call answers follows from what another does.
use Rattle.std.proofs.Common.{Result, Ok, Err, Option}
use Rattle.std.specs.Prelude.{IfOk}
use Rattle.std.proofs.lemmas.Option.{IfSome_then}
use Rattle.zic_base.specs.Memory.{IfRefusal}

pub ok_from_both : {X E : Type 0} (r : Result X E) {P Q R : X → Type 0} → IfOk r P → IfOk r Q → ((x : X) → P x → Q x → R x) → IfOk r R
ok_from_both (Ok x) p q both = both x p q
ok_from_both (Err e) p q both = tt

pub refusal_from : {X E F : Type 0} (refusal_of : E → Option F) (r : Result X E) {P Q : F → Type 0} → IfRefusal refusal_of r P → ((fault : F) → P fault → Q fault) → IfRefusal refusal_of r Q
refusal_from refusal_of (Ok x) h then = tt
refusal_from refusal_of (Err e) h then = IfSome_then (refusal_of e) h then
