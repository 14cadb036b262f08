-- Where the image of a zone may want memory.
use Rattle.std.proofs.Common.{◌≡◌, Option, Some, None, Result, Ok, Err, subst}
use Rattle.std.specs.Prelude.{IfNone}
use Rattle.zic_base.specs.declared.fault.Fault.{Fault}
use Rattle.zic_base.specs.declared.fault.Kind.TheVariants as kind
use Rattle.zic_states.specs.Fault.{HasOffsetOutOfRange, IsSound}
use Rattle.zic_states.specs.Zone.{Zone}
use Rattle.zic_posix.specs.Footer.{TzString}
use Rattle.zic_footer.specs.Making.{IsMade}
use Rattle.zic_rules.specs.Timeline.{IsFixed}
use Rattle.zic_base.specs.Memory.{OnOutOfMemory}
use Rattle.zic_compile.specs.Image.{ImageNeedsMemory}
use Rattle.zic_compile.proofs.Zones.{if_none_weaker}

-- once its footer is made
pub may_want : (states zone : Zone) → states ≡ zone → IsSound states → (footer : TzString) → IsMade states footer → ImageNeedsMemory zone
may_want states zone same sound footer made = subst ImageNeedsMemory same (record { in_range = sound kind.OffsetRange; fixed = λ _. (sound, (footer, made)) })

-- while its states are found
pub at_states : (fault : Option Fault) (zone : Zone) → IfNone fault (HasOffsetOutOfRange zone → ⊥) → IfNone fault (IsFixed zone → ⊥) → IfNone fault (ImageNeedsMemory zone)
at_states None zone in_range fixed = record { in_range = in_range; fixed = λ is. absurd (fixed is) }
at_states (Some fault) zone in_range fixed = tt

-- where the call that makes it does
pub want_from : {X E F : Type 0} (refusal_of : E → Option F) (result : Result X E) {P Q : Type 0} → OnOutOfMemory refusal_of result P → (P → Q) → OnOutOfMemory refusal_of result Q
want_from refusal_of (Ok x) wants then = tt
want_from refusal_of (Err e) {P} {Q} wants then = if_none_weaker (refusal_of e) P Q then wants

-- where it never does
pub never : (fault : Option Fault) (P : Type 0) → IfNone fault ⊥ → IfNone fault P
never None P none = absurd none
never (Some fault) P none = tt
