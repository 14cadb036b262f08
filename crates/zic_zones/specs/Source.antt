-- The laws of the zones of a source: files that stay the same.
use Rattle.std.proofs.Common.{subst, sym, ◌∙◌}
use Rattle.std.specs.Prelude.{◌≡◌, ℕ, List}
use Rattle.zic_files.specs.File.{File}
use Rattle.zic_files.specs.Sound.{AreSoundFiles}
use Rattle.zic_zones.specs.Zones.{ReleasesAgree, alone}
use Rattle.zic_zones.specs.declared.zones.Releases.{Releases}

pub source_then : (a b c : List File) → b ≡ a → c ≡ b → c ≡ a
source_then a b c first second = second ∙ first

pub source_narrows : (a b : List File) (releases : Releases) → b ≡ a → (releases ≡ alone b) × AreSoundFiles b → (releases ≡ alone a) × AreSoundFiles a
source_narrows a b releases same are = subst (λ (l : List File). (releases ≡ alone l) × AreSoundFiles l) same are

pub source_agrees : (known : List File) (releases : Releases) → (releases ≡ alone known) × AreSoundFiles known → ReleasesAgree (λ (_ : List ℕ). Unit {0}) (alone known) releases
source_agrees known releases are = subst (λ (r : Releases). ReleasesAgree (λ (_ : List ℕ). Unit {0}) (alone known) r) (sym are.0) (record {
  zones = record { sound = are.1; still = λ file has. has; only = λ file has _. has };
  old = tt;
})
