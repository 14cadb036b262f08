use Rattle.std.proofs.Common.{string_bytes, ap, ◌∙◌, ◌++◌, arith}
use Rattle.zic_bulk.proofs.NameLemmas.{name_more}
use Rattle.zic_bulk.proofs.build_command.with_name.Goals as goal

pub loop-byte-preserved : goal.loop-byte-preserved
loop-byte-preserved c =
    let l = c.loop-byte in
    name_more (string_bytes c.args.path) c.args.name.now (string_bytes l.path) (string_bytes c.push.new.self) l.byte-index c.from.result
    c.requires (omega arith) c.from.ensures l.invariant
    (λ small. c.in_ok-push.ensures.bytes ∙ ap (λ t. string_bytes l.path ++ t) (c.in_ok-push.ensures.ascii small))
