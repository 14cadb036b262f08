-- What is known of a refusal, whichever it is.
use Rattle.std.proofs.Common.{Option, Some, None, IfSome, IfNone, MatchOption}

pub match_of : {X : Type 0} (P : X → Type 0) (Q : Type 0) (o : Option X) → IfSome o P → IfNone o Q → MatchOption o Q P
match_of P Q (Some x) some none = some
match_of P Q None some none = none
