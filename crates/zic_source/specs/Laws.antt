-- Laws about sources and first faults.
use Rattle.std.specs.Prelude.{◌≡◌, ℕ, List, ◌⊎◌}
use Rattle.zic_base.specs.declared.fault.Fault.{Fault}
use Rattle.zic_source.specs.Source.{SourceLines}
use Rattle.zic_source.specs.Grammar.{IsSource}
use Rattle.zic_source.specs.FirstFault.{IsFirstFault}
use Rattle.zic_source.specs.Sound.{IsSoundSource}

-- texts are a source, or have a first fault
abbrev pub TextsAreSourceOrFaulty : Type 0
TextsAreSourceOrFaulty = (texts : List (List ℕ)) → ((source : SourceLines) × IsSource texts source) ⊎ ((fault : Fault) × IsFirstFault texts fault)

-- texts are at most one source
abbrev pub TextsAreOneSource : Type 0
TextsAreOneSource = (texts : List (List ℕ)) (a b : SourceLines) → IsSource texts a → IsSource texts b → a ≡ b

-- no texts are both a source and faulty
abbrev pub NoSourceHasAFault : Type 0
NoSourceHasAFault = (texts : List (List ℕ)) (source : SourceLines) (fault : Fault) → IsSource texts source → IsFirstFault texts fault → ⊥

-- texts have at most one first fault
abbrev pub OneFaultIsFirst : Type 0
OneFaultIsFirst = (texts : List (List ℕ)) (a b : Fault) → IsFirstFault texts a → IsFirstFault texts b → a ≡ b

-- each source is sound
abbrev pub SourcesAreSound : Type 0
SourcesAreSound = (texts : List (List ℕ)) (source : SourceLines) → IsSource texts source → IsSoundSource source
