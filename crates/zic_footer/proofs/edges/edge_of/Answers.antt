use Rattle.std.proofs.Common.{◌≡◌, ◌∙◌, arith, pos, ◌+ℤ◌, ◌*ℤ◌, to_z, of_z, w32}
use Rattle.std.proofs.lemmas.Int.{ints}
use Rattle.zic_footer.specs.Making as making
use Rattle.zic_footer.proofs.edges.edge_of.Goals as goal

pub returns : goal.returns
returns c =
    let moment = c.args.rule.now.moment in
    let at = c.day_of_form-at.ensures in
    let standard : to_z w32 (of_z w32 c.args.standard) ≡ c.args.standard = omega (arith, ints, c.requires.standard) in
    let saved : to_z w32 (of_z w32 c.args.saved) ≡ c.args.saved = omega (arith, ints, c.requires.saved) in
    let wall : c.wall_time.result ≡ making.wall_time moment.at.form c.args.standard c.args.saved moment.at.seconds =
    c.wall_time.ensures.value ∙ (λ k. making.wall_time moment.at.form (standard k) (saved k) moment.at.seconds) in
    let whole : to_z w32 (of_z w32 (to_z w32 (of_z w32 c.wall_time.result) +ℤ to_z w32 (of_z w32 (pos 86_400 *ℤ to_z w32 (of_z w32 c.day_of_form-at.result.shift)))))
    ≡ c.wall_time.result +ℤ (pos 86_400 *ℤ c.day_of_form-at.result.shift) = omega (arith, ints, c.wall_time.ensures.range, at.range) in
    let time = whole ∙ (λ k. wall k +ℤ (pos 86_400 *ℤ at.shift k)) in
    λ k. record { day = at.day k; time = time k }
