use Rattle.std.proofs.Common.{◌≡◌, ℕ, ◌<◌, List, length, map, get_or, ap, sym, ◌∙◌, arith}
use Rattle.std.proofs.lemmas.List.{get_or-map}
use Rattle.zic_tzif.specs.declared.content.LocalType.{LocalType}
use Rattle.zic_tzif.specs.Content.{Content}
use Rattle.zic_tzif.specs.Designation.{designation}
use Rattle.zic_tzif.specs.code.StoredContent.{name_length}
use Rattle.zic_tzif.proofs.zone.Zone.state_of.Goals as goal

-- the length of a designation, as it was kept
length_at : (names read : List ℕ) (types : List LocalType) (lengths : List ℕ) (number n : ℕ) (t : LocalType) → read ≡ names → lengths ≡ map (name_length names) types → number < length types
    → t ≡ get_or types number t → n ≡ get_or lengths number n → n ≡ length (designation read t.place)
length_at names read types lengths number n t same are within t_is n_is =
    n_is
    ∙ ap (λ (all : List ℕ). get_or all number n) are
    ∙ get_or-map (name_length names) types number t n within
    ∙ ap (λ (u : LocalType). name_length names u) (sym t_is)
    ∙ ap (λ (bytes : List ℕ). length (designation bytes t.place)) (sym same)

pub designation_of-requires-clause-size : goal.designation_of-requires-clause-size
designation_of-requires-clause-size c =
    let size = ap (λ (content : Content). length content.types) c.self.view_is in
    length_at c.self.inside.names.items c.deref.result.now c.self.inside.types.items c.self.inside.lengths.items c.args.number c.index-length.result.now c.index-local_type.result.now
    c.deref.ensures.value c.self.invariant.lengths_are (let within = c.requires in omega (arith, within, size)) c.index-local_type.ensures c.index-length.ensures
