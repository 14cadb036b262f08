use Rattle.std.proofs.Common.{◌≡◌, ◌∙◌, ℕ, List, Some, refl, subst, sym, length, arith}
use Rattle.std.proofs.lemmas.Option.{slice_get_read}
use Rattle.std.specs.List.{slice_get}
use Rattle.zic_zones.specs.code.NameKeys.{IsShortName}
use Rattle.zic_zones.specs.declared.name_keys.NameKey.{NameKey}
use Rattle.zic_zones.proofs.Held.{is_short}
use Rattle.zic_zones.proofs.name_keys.NameKeys.is_name.Goals as goal

pub returns-then-found-len : goal.returns-then-found-len
returns-then-found-len c name long short key same =
    let keys = c.self.inside.keys.items in
    let number = c.args.number in
    let found = c.in-Some.found.now in
    let lookup = c.in-Some.ensures.lookup in
    let at : slice_get keys number ≡ Some found =
    subst (λ (l : List NameKey). slice_get l number ≡ Some found) c.deref.ensures.value (slice_get_read c.deref.result.now (length c.deref.result.now) number found refl lookup.3.0 lookup.1) in
    subst (λ (names : List (List ℕ)). IsShortName names name number) c.self.view_is
    (is_short keys found name number at (c.is_same.ensures same ∙ key) (c.if-found-len.true ∙ sym long) (omega (arith, long, short)))
