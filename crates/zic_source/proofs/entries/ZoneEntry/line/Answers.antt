use Rattle.std.proofs.Common.{◌≡◌, ◌≢◌, ◌<◌, ◌-◌, ℕ, zero, suc, List, ◌∷◌, length, Some, refl, ap, subst, arith}
use Rattle.std.specs.Prelude.{slice_get}
use Rattle.std.proofs.lemmas.Option.{slice_get_read}
use Rattle.zic_source.specs.Source.{ZoneLines, lines_of_zone}
use Rattle.zic_source.proofs.entries.ZoneEntry.line.Goals as goal

later : {A : Type 0} (x : A) (xs : List A) (n : ℕ) (y : A) → n ≢ 0 → slice_get xs (n - 1) ≡ Some y → slice_get (x ∷ xs) n ≡ Some y
later x xs zero y some at = absurd (some refl)
later x xs (suc n) y some at = let same : suc n - 1 ≡ n = omega arith in subst (λ (k : ℕ). slice_get xs k ≡ Some y) same at

pub returns-then-line-eq0 : goal.returns-then-line-eq0
returns-then-line-eq0 c =
    let zone = c.self.inside in
    subst (λ (z : ZoneLines). slice_get (lines_of_zone z) c.args.line ≡ Some zone.first) c.self.view_is
    (ap (λ (n : ℕ). slice_get (zone.first ∷ zone.continuations.items) n) c.if-line-eq0.true)

pub returns-else-line-eq0 : goal.returns-else-line-eq0
returns-else-line-eq0 c =
    let zone = c.self.inside in
    let within : c.args.line - 1 < length zone.continuations.items = omega (arith, c.requires, ap (λ (z : ZoneLines). length (lines_of_zone z)) c.self.view_is, c.if-line-eq0.false) in
    subst (λ (z : ZoneLines). slice_get (lines_of_zone z) c.args.line ≡ Some c.index.result.now) c.self.view_is
    (later zone.first zone.continuations.items c.args.line c.index.result.now c.if-line-eq0.false
    (slice_get_read zone.continuations.items _ (c.args.line - 1) c.index.result.now refl within c.index.ensures))
