use Rattle.std.proofs.Common.{List, ℕ, flat_map, sym, subst}
use Rattle.zic_compare.specs.code.Rounds.{AreTextsOf}
use Rattle.zic_compare.proofs.Joining.{joined_round}
use Rattle.zic_compare.proofs.writing.write_round.Goals as goal

pub returns-in-Ok-write_texts-clause-ok : goal.returns-in-Ok-write_texts-clause-ok
returns-in-Ok-write_texts-clause-ok g c =
    let texts = c.deref.result.now in
    let are = subst (λ (ts : List (List ℕ)). AreTextsOf c.args.round.now ts) (sym c.deref.ensures.value) c.in-Ok.ensures in
    record {
      lines = flat_map (λ (x : List ℕ). x) texts;
      are = joined_round c.args.round.now texts are;
      writes = c.in-Ok-write_texts.ensures.ok;
      left_is = c.in-Ok-write_texts.ensures.left;
    }

pub returns-clause-err : goal.returns-clause-err
returns-clause-err g c =
    let texts = c.deref.result.now in
    let are = subst (λ (ts : List (List ℕ)). AreTextsOf c.args.round.now ts) (sym c.deref.ensures.value) c.in-Ok.ensures in
    record { lines = flat_map (λ (x : List ℕ). x) texts; are = joined_round c.args.round.now texts are; fails = c.in-Err-write_texts.ensures.err }
