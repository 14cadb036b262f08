-- Out of memory, defined once for all calls. A call answers a value, a refusal, or out of memory. For each type of errors one
-- function gives the refusal that an error is, and nothing where it is out of memory. No clause can say that a growth was
-- refused; a clause says what holds where a call answers so.
use Rattle.std.specs.Prelude.{Result, Option, IfErr, IfSome, IfNone}

-- Where the call refuses, this holds of the refusal.
abbrev pub IfRefusal : {X E F : Type 0} → (E → Option F) → Result X E → (F → Type 0) → Type 0
IfRefusal refusal_of result P = IfErr result (λ error. IfSome (refusal_of error) P)

-- Where the call answers out of memory, this holds.
abbrev pub OnOutOfMemory : {X E F : Type 0} → (E → Option F) → Result X E → Type 0 → Type 0
OnOutOfMemory refusal_of result P = IfErr result (λ error. IfNone (refusal_of error) P)

-- The call answers a value, or out of memory.
abbrev pub NeverRefuses : {X E F : Type 0} → (E → Option F) → Result X E → Type 0
NeverRefuses refusal_of result = IfRefusal refusal_of result (λ _. ⊥)
