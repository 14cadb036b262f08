use Rattle.std.proofs.Common.{◌≡◌, ◌∙◌, ◌-◌, ℕ, ap, length, arith}
use Rattle.std.specs.List.{slice_range}
use Rattle.std.proofs.lemmas.List.Edits.{length-between}
use Rattle.zic_zones.specs.code.NameKeys.{padded}
use Rattle.zic_zones.proofs.name_keys.NameKeys.quick.Goals as goal

pub returns-then-is_name : goal.returns-then-is_name
returns-then-is_name c =
    let bytes = c.args.bytes.now in
    let start = c.args.start in
    let end = c.args.end in
    let name = slice_range bytes start end in
    let long : length name ≡ end - start = length-between bytes start end (omega arith) in
    let key : c.key_at-key.result ≡ padded name = c.key_at-key.ensures ∙ ap (λ (n : ℕ). padded (slice_range bytes start n)) (omega arith) in
    c.is_name.ensures name (omega (arith, long)) (omega arith) key c.if-is_name.true

pub returns-then-is_name-2 : goal.returns-then-is_name-2
returns-then-is_name-2 c =
    let bytes = c.args.bytes.now in
    let start = c.args.start in
    let end = c.args.end in
    let name = slice_range bytes start end in
    let long : length name ≡ end - start = length-between bytes start end (omega arith) in
    let key : c.key_at-key.result ≡ padded name = c.key_at-key.ensures ∙ ap (λ (n : ℕ). padded (slice_range bytes start n)) (omega arith) in
    c.is_name-in-loop-place.ensures name (omega (arith, long)) (omega arith) key c.if-is_name-2.true
