use Rattle.std.proofs.Common.{◌∙◌, ◌%◌, ◌^◌, ℕ, Some, ap, sym, arith}
use Rattle.std.proofs.lemmas.Option.{slice_get-get_or}
use Rattle.zic_files.specs.code.NameIndex.{hash_more}
use Rattle.zic_files.proofs.Numbers.{hash_first, hash_next, product_within}
use Rattle.zic_files.proofs.name_index.hash_of.Goals as goal

pub loop-byte-init : goal.loop-byte-init
loop-byte-init c = record { few = omega arith; is = sym (hash_first c.args.key) }

pub loop-byte-preserved : goal.loop-byte-preserved
loop-byte-preserved c =
    let name = c.args.name.now in
    let i = c.loop-byte.byte-index in
    let point = c.args.key % 2 ^ 30 in
    let at = slice_get-get_or name i 0 (omega arith) ∙ ap (λ (b : ℕ). Some b) (sym c.from.ensures) in
    let next = product_within c.loop-byte.hash point c.from.result c.loop-byte.invariant.few (omega arith) (omega arith) in
    record {
      few = omega (arith, next);
      is = ap (λ (hash : ℕ). hash_more point hash c.from.result) c.loop-byte.invariant.is ∙ hash_next c.args.key name i c.from.result at;
    }
