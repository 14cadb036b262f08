use Rattle.std.proofs.Common.{◌≡◌, ◌<◌, ◌++◌, ◌∷◌, [], ℕ, List, length, length-append, take, sym, subst, arith}
use Rattle.std.specs.Prelude.{IfSome, slice_get}
use Rattle.zic_zones.specs.code.NameKeys.{AreNamesOf}
use Rattle.zic_zones.proofs.Held.{name_added}
use Rattle.zic_zones.proofs.name_keys.NameKeys.extend.Goals as goal

pub loop-file-preserved : goal.loop-file-preserved
loop-file-preserved c =
    let files = c.args.files.now in
    let names = c.loop-file.self in
    let name = c.name.result.now in
    let long = c.loop-file.invariant.long in
    let added : c.add.new.self ≡ names ++ take 32 name ∷ [] = c.in_ok-add.ensures.ok in
    let within : length names < length files = omega (arith, long, c.loop-file-test.true, c.len-file-end.ensures.count) in
    let is = subst (λ (i : ℕ). IfSome (slice_get files i) (λ file. name ≡ file.name)) (sym long) c.name.ensures.name in
    record {
      long = rw added (omega (arith, length-append names (take 32 name ∷ []), long));
      are = subst (λ (l : List (List ℕ)). AreNamesOf files l) (sym added) (name_added files names c.loop-file.invariant.are name within is);
    }
