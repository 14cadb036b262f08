use Rattle.std.proofs.Common.{ℕ, List, [], ◌∷◌, take, get_or, subst, sym, arith}
use Rattle.std.proofs.lemmas.List.{take_all, take_more}
use Rattle.zic_columns.specs.code.Machine.{EndsWith, ReadsTo, state_at}
use Rattle.zic_columns.proofs.MachineFacts.{ends_both, ends_byte, reads_both, reads_byte, reads_none}
use Rattle.zic_columns.proofs.machine.record_end.Goals as goal

pub loop-index-init : goal.loop-index-init
loop-index-init c = reads_none c.args.delimiter.can (state_at c.args.place)

pub returns-in-None : goal.returns-in-None
returns-in-None c =
    let bytes = c.args.bytes.now in
    let index = c.loop-index.index in
    let byte = get_or bytes index 0 in
    let s = state_at c.args.place in
    let t = state_at c.loop-index.place_now in
    record {
      some = omega arith;
      within = omega (arith, c.loop-index-test.true);
      ends = subst (EndsWith c.args.delimiter.byte s) (sym (take_more bytes index 0 c.loop-index-test.true)) (ends_both c.args.delimiter.can s t (take index bytes) (byte ∷ []) c.loop-index.invariant (ends_byte c.args.delimiter.can t byte c.in-None.ensures));
    }

pub loop-index-preserved : goal.loop-index-preserved
loop-index-preserved c =
    let bytes = c.args.bytes.now in
    let index = c.loop-index.index in
    let byte = get_or bytes index 0 in
    let s = state_at c.args.place in
    let t = state_at c.loop-index.place_now in
    let u = state_at c.in-Some.next in
    subst (λ (b : List ℕ). ReadsTo c.args.delimiter.byte s b u) (sym (take_more bytes index 0 c.loop-index-test.true)) (reads_both c.args.delimiter.can s t u (take index bytes) (byte ∷ []) c.loop-index.invariant (reads_byte c.args.delimiter.can t u byte c.in-Some.ensures))

pub returns : goal.returns
returns c =
    let bytes = c.args.bytes.now in
    subst (λ (b : List ℕ). ReadsTo c.args.delimiter.byte (state_at c.args.place) b (state_at c.loop-index.place_now)) (take_all c.loop-index.index bytes c.loop-index-test.false) c.loop-index.invariant
