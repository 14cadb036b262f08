-- Texts are a source, or have one first fault, and never both.
use Rattle.std.proofs.Common.{◌≡◌, ℕ, ◌⊎◌, inl, inr, ⊎_elim, List, subst}
use Rattle.zic_base.specs.declared.fault.Fault.{Fault}
use Rattle.zic_source.specs.Event.{events_of}
use Rattle.zic_source.specs.Source.{SourceLines}
use Rattle.zic_source.specs.Grammar.{IsReadable, IsSource}
use Rattle.zic_source.specs.Whole.{IsWholeSource, HasFirst}
use Rattle.zic_source.specs.FirstFault.{IsFirstFault}
use Rattle.zic_source.proofs.links.NamesDiffer.{NamesDiffer, once_differ}
use Rattle.zic_source.proofs.faults.Whole.{whole_or_first, whole_has_none}
use Rattle.zic_source.proofs.faults.OneFault.{one_first}
use Rattle.zic_source.proofs.reading.Limits.{OfName}
use Rattle.zic_source.proofs.reading.Read.{is_read}
use Rattle.zic_source.proofs.reading.Once.{read_once}
use Rattle.zic_source.proofs.reading.Stops.{read_or_stops, read_never_stops, stops_once}

-- names of a source that is read differ
pub names_differ : (texts : List (List ℕ)) (source : SourceLines) → IsReadable texts source → NamesDiffer source
names_differ texts source is = let r = is_read (events_of texts) source is in once_differ source (λ name. r.within (OfName name))

pub source_or_fault : (texts : List (List ℕ)) → ((source : SourceLines) × IsSource texts source) ⊎ ((fault : Fault) × IsFirstFault texts fault)
source_or_fault texts = ⊎_elim
    (λ (source, read). ⊎_elim
    (λ whole. inl (source, record { read = read; whole = whole }))
    (λ (fault, first). inr (fault, inr (source, read, first)))
    (whole_or_first source (names_differ texts source read)))
    (λ (fault, stops). inr (fault, inl stops))
    (read_or_stops texts)

pub source_has_no_fault : (texts : List (List ℕ)) (source : SourceLines) (fault : Fault) → IsSource texts source → IsFirstFault texts fault → ⊥
source_has_no_fault texts source fault is (inl reading) = read_never_stops texts source fault is.read reading
source_has_no_fault texts source fault is (inr (other, read, first)) =
    let whole : IsWholeSource other = subst IsWholeSource (read_once (events_of texts) source other is.read read) is.whole in
    whole_has_none other (names_differ texts other read) fault.place fault.kind whole first.has

pub one_first_fault : (texts : List (List ℕ)) (a b : Fault) → IsFirstFault texts a → IsFirstFault texts b → a ≡ b
one_first_fault texts a b (inl x) (inl y) = stops_once texts a b x y
one_first_fault texts a b (inl x) (inr (source, read, first)) = absurd (read_never_stops texts source a read x)
one_first_fault texts a b (inr (source, read, first)) (inl y) = absurd (read_never_stops texts source b read y)
one_first_fault texts a b (inr (source, read, first)) (inr (other, read', first')) =
    one_first texts source read a b first (subst (λ (s : SourceLines). HasFirst s b) (read_once (events_of texts) other source read' read) first')
