use Rattle.std.proofs.Common.{◌≡◌, ◌∙◌, subst, sym, refl, arith, ◌+ℤ◌, to_z, of_z, w32}
use Rattle.std.proofs.lemmas.Int.{ints}
use Rattle.zic_posix.specs.Grammar.{IsName, IsTzString}
use Rattle.zic_posix.specs.declared.footer.Dst.{Dst}
use Rattle.zic_footer.specs.Making.{IsWide}
use Rattle.zic_footer.specs.code.Edges.{daylight_part}
use Rattle.zic_footer.proofs.Names.{is_name}
use Rattle.zic_footer.proofs.Pairs.{is_string, same_string}
use Rattle.zic_footer.proofs.maker.by_pair.Goals as goal

pub invariant_of-result : goal.invariant_of-result
invariant_of-result c =
    let starting = c.args.pair.now.starting.now in
    let ending = c.args.pair.now.ending.now in
    let standard : to_z w32 (of_z w32 c.args.standard) ≡ c.args.standard = omega (arith, ints, c.requires.within) in
    let part : c.in_ok-dst.dst ≡ daylight_part c.args.standard starting ending = c.in_ok-dst.ensures.ok ∙ (λ k. daylight_part (standard k) starting ending) in
    let offset : to_z w32 (of_z w32 (to_z w32 (of_z w32 c.args.standard) +ℤ to_z w32 (of_z w32 ending.saving.seconds))) ≡ c.args.standard +ℤ ending.saving.seconds
    = omega (arith, ints, c.requires.within, c.requires.ending.saving) in
    let start = subst (λ (d : Dst). IsWide d.start) part (c.if-not-is_wide.ensures.0 refl) in
    let stop = subst (λ (d : Dst). IsWide d.stop) part (c.if-not-is_wide-2.ensures.0 refl) in
    let name = subst (λ (d : Dst). IsName d.name) part c.in_ok-dst.ensures.name in
    subst IsTzString (sym (same_string c.args.standard _ starting ending c.in_ok-std.std c.in_ok-dst.dst (c.in_ok-std.ensures.ok ∙ c.octets.ensures.octets) offset part))
    (is_string c.args.standard starting ending c.requires.starting c.requires.ending name (is_name ending.name c.octets.ensures.abbreviation) start stop)

pub returns-clause-made : goal.returns-clause-made
returns-clause-made c =
    let starting = c.args.pair.now.starting.now in
    let ending = c.args.pair.now.ending.now in
    let standard : to_z w32 (of_z w32 c.args.standard) ≡ c.args.standard = omega (arith, ints, c.requires.within) in
    let part : c.in_ok-dst.dst ≡ daylight_part c.args.standard starting ending = c.in_ok-dst.ensures.ok ∙ (λ k. daylight_part (standard k) starting ending) in
    let offset : to_z w32 (of_z w32 (to_z w32 (of_z w32 c.args.standard) +ℤ to_z w32 (of_z w32 ending.saving.seconds))) ≡ c.args.standard +ℤ ending.saving.seconds
    = omega (arith, ints, c.requires.within, c.requires.ending.saving) in
    same_string c.args.standard _ starting ending c.in_ok-std.std c.in_ok-dst.dst (c.in_ok-std.ensures.ok ∙ c.octets.ensures.octets) offset part

pub returns-clause-wide : goal.returns-clause-wide
returns-clause-wide c =
    let starting = c.args.pair.now.starting.now in
    let ending = c.args.pair.now.ending.now in
    let standard : to_z w32 (of_z w32 c.args.standard) ≡ c.args.standard = omega (arith, ints, c.requires.within) in
    let part : c.in_ok-dst.dst ≡ daylight_part c.args.standard starting ending = c.in_ok-dst.ensures.ok ∙ (λ k. daylight_part (standard k) starting ending) in
    record {
      start = subst (λ (d : Dst). IsWide d.start) part (c.if-not-is_wide.ensures.0 refl);
      stop = subst (λ (d : Dst). IsWide d.stop) part (c.if-not-is_wide-2.ensures.0 refl);
    }
