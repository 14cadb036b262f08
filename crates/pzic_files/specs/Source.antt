-- What the call that compiles a source returns. Own choice.
use Rattle.std.specs.Prelude.{◌≡◌, ◌≢◌, ℕ, ℤ, ◌⊎◌, List, [], ◌∷◌, length, take, drop, Option, Some, None, IfSome, IsSomeAnd}
use Rattle.std.specs.List.{sum}
use Rattle.zic_base.specs.Fault.{kind_number}
use Rattle.zic_base.specs.declared.fault.Fault.{Fault}
use Rattle.zic_compile.specs.Build.{AreFilesOfTexts, IsFaultOfTexts}
use Rattle.pzic_zones.specs.Handle.{files_of}
use Rattle.pzic_zones.specs.declared.held.Held.{Held}
use Rattle.pzic_files.specs.declared.compiling.SourceFault.{SourceFault}
use Rattle.pzic_zones.specs.declared.status.TheConstants.{OK, NO_MEMORY, BAD_SOURCE, LENGTHS}

-- the texts of these lengths, which lie one after another
abbrev pub texts_in : List ℕ → List ℕ → List (List ℕ)
texts_in [] bytes = []
texts_in (n ∷ lengths) bytes = take n bytes ∷ texts_in lengths (drop n bytes)

-- The status and the fault say why texts have no files: a fault's text, line and kind, or that memory ran out, and then the fault stays as it was.
abbrev pub IsFaultGiven : Option Fault → ℤ → SourceFault → SourceFault → Type 0
IsFaultGiven (Some fault) status before reported =
    (status ≡ BAD_SOURCE) × (reported.text ≡ fault.place.text) × (reported.line ≡ fault.place.line) × (reported.kind ≡ kind_number fault.kind)
IsFaultGiven None status before reported = (status ≡ NO_MEMORY) × (reported ≡ before)

-- The texts were compiled, and the handle holds their files; or they weren't, the handle holds nothing, and the first fault is returned, or that memory ran
-- out, which may come at any time.
abbrev pub IsCompiled : List (List ℕ) → ℤ → SourceFault → SourceFault → Option Held → Type 0
IsCompiled texts status before reported (Some held) = (status ≡ OK) × (reported ≡ before) × IsSomeAnd (files_of held) (AreFilesOfTexts texts)
IsCompiled texts status before reported None =
    (fault : Option Fault) × IfSome fault (IsFaultOfTexts texts) × IsFaultGiven fault status before reported

-- The texts of these lengths were compiled, or not; or the lengths aren't those of texts that lie one after another here, and the handle holds nothing.
abbrev pub AreCompiled : List ℕ → List ℕ → ℤ → SourceFault → SourceFault → Option Held → Type 0
AreCompiled bytes lengths status before reported held =
    ((sum lengths ≡ length bytes) × IsCompiled (texts_in lengths bytes) status before reported held)
    ⊎ ((sum lengths ≢ length bytes) × (status ≡ LENGTHS) × (reported ≡ before) × (held ≡ None))
