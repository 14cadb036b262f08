-- Texts have one fault.
use Rattle.std.proofs.Common.{◌≡◌, ◌<◌, ℕ, inl, inr, subst, arith}
use Rattle.std.proofs.lemmas.Bool.{cases_lt}
use Rattle.zic_base.specs.declared.fault.Fault.{Fault}
use Rattle.zic_source.specs.Event.{events_of}
use Rattle.zic_source.specs.Sound.{IsSoundSource}
use Rattle.zic_source.specs.Source.{SourceLines}
use Rattle.zic_source.proofs.faults.FirstFault.{one_first_fault, source_has_no_fault}
use Rattle.zic_source.proofs.reading.Once.{read_once}
use Rattle.zic_source.proofs.sound.Sources.{source_is_sound}
use Rattle.zic_rules.specs.Timeline.{zone_of}
use Rattle.zic_compile.specs.Image.{IsFaultOfZone}
use Rattle.zic_compile.proofs.zone_images.OneFault.{one_fault}
use Rattle.zic_compile.proofs.zone_images.OneImage.{images_without_fault}
use Rattle.zic_compile.specs.Files.{IsFaultOfFiles}
use Rattle.zic_compile.specs.Laws.{TextsHaveOneFault}
use Rattle.zic_compile.proofs.OneFiles.{is_whole}

module _ (source : SourceLines) (sound : IsSoundSource source) where
  -- no zone before the first with a fault has one
  not_before : (a b : Fault) (one : IsFaultOfFiles source a) (other : IsFaultOfFiles source b) → one.number < other.number → ⊥
  not_before a b one other lt =
      let (image, is) = other.before one.number lt in
      images_without_fault (zone_of source one.number) (is_whole source sound one.number image one.is_zone is) image is a one.fault_of_zone

  one_of_files : (a b : Fault) → IsFaultOfFiles source a → IsFaultOfFiles source b → a ≡ b
  one_of_files a b one other =
      let number : one.number ≡ other.number = elim (cases_lt one.number other.number) [
        | inl lt ↦ absurd (not_before a b one other lt)
        | inr ge ↦ elim (cases_lt other.number one.number) [ inl gt ↦ absurd (not_before b a other one gt) | inr le ↦ omega (arith, ge, le) ]
      ] in
      one_fault (zone_of source other.number) sound other.is_zone a b
      (subst (λ (n : ℕ). IsFaultOfZone (zone_of source n) a) number one.fault_of_zone) other.fault_of_zone

pub one_fault_of_texts : TextsHaveOneFault
one_fault_of_texts texts a b (inl one) (inl other) = one_first_fault texts a b one other
one_fault_of_texts texts a b (inl one) (inr (source, is_source, other)) = absurd (source_has_no_fault texts source a is_source one)
one_fault_of_texts texts a b (inr (source, is_source, one)) (inl other) = absurd (source_has_no_fault texts source b is_source other)
one_fault_of_texts texts a b (inr (source, is_source, one)) (inr (second, is_second, other)) =
    let same = read_once (events_of texts) source second is_source.read is_second.read in
    one_of_files second (source_is_sound texts second is_second) a b (subst (λ (s : SourceLines). IsFaultOfFiles s a) same one) other
