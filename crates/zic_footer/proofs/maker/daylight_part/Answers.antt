use Rattle.std.proofs.Common.{◌≡◌, ◌∙◌, subst, sym, arith, ◌+ℤ◌, to_z, of_z, w32}
use Rattle.std.proofs.lemmas.Int.{ints}
use Rattle.zic_posix.specs.Grammar.{IsName}
use Rattle.zic_footer.specs.code.Edges as edges
use Rattle.zic_footer.proofs.Names.{is_name}
use Rattle.zic_footer.proofs.maker.daylight_part.Goals as goal

pub returns-clause-ok : goal.returns-clause-ok
returns-clause-ok c =
    let starting = c.args.pair.now.starting.now in
    let ending = c.args.pair.now.ending.now in
    let standard : to_z w32 (of_z w32 c.args.standard) ≡ c.args.standard = omega (arith, ints, c.requires.within) in
    let saved : to_z w32 (of_z w32 ending.saving.seconds) ≡ ending.saving.seconds = omega (arith, ints, c.requires.ending.saving) in
    let saved_too : to_z w32 (of_z w32 starting.saving.seconds) ≡ starting.saving.seconds = omega (arith, ints, c.requires.starting.saving) in
    let name = c.in_ok-name.ensures.ok ∙ c.octets.ensures.octets in
    let offset : to_z w32 (of_z w32 (to_z w32 (of_z w32 c.args.standard) +ℤ to_z w32 (of_z w32 starting.saving.seconds))) ≡ c.args.standard +ℤ starting.saving.seconds
    = omega (arith, ints, c.requires.within, c.requires.starting.saving) in
    let start = c.edge_of.ensures ∙ (λ k. edges.edge_of (standard k) starting (saved k)) in
    let stop = c.edge_of-2.ensures ∙ (λ k. edges.edge_of (standard k) ending (saved_too k)) in
    λ k. record { name = name k; offset = offset k; start = start k; stop = stop k }

pub returns-clause-name : goal.returns-clause-name
returns-clause-name c =
    subst IsName (sym (c.in_ok-name.ensures.ok ∙ c.octets.ensures.octets)) (is_name c.args.pair.now.starting.now.name c.octets.ensures.abbreviation)
