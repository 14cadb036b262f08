use Rattle.std.proofs.Common.{◌<◌, ℕ, [], ◌∷◌, Vec, length, get_or, arith}
use Rattle.std.specs.Global.{Global}
use Rattle.std.proofs.lemmas.List.{length-drop, map-append}
use Rattle.std.proofs.lemmas.List.Sums.{sum_by-drop_more}
use Rattle.zic_source.specs.Texts.{texts_of}
use Rattle.pzic_files.specs.Source.{texts_in}
use Rattle.pzic_files.proofs.Texts.{copied-next, copied-all}
use Rattle.pzic_files.proofs.compiling.copy_texts.Goals as goal

pub loop-len-preserved : goal.loop-len-preserved
loop-len-preserved c =
    let l = c.loop-len in
    let lengths = c.args.lengths.now in
    let rest = l.rest.now in
    let inside : l.len-index < length lengths = omega arith in
    let summed = sum_by-drop_more (λ (x : ℕ). x) lengths l.len-index 0 inside in
    let v = c.in_ok-from_slice.field-0 in
    record {
      left = rw c.split_at.ensures.back (omega (arith, summed, length-drop (get_or lengths l.len-index 0) rest, l.invariant.left));
      copied = rw c.in_ok-push.ensures.items (rw (map-append (λ (text : Vec ℕ Global). text.items) l.copies.items (v ∷ []))
          (rw c.in_ok-from_slice.ensures.items (rw c.split_at.ensures.front (rw c.split_at.ensures.back
          (copied-next (texts_of l.copies.items) l.len-index lengths rest (texts_in lengths c.args.texts.now) inside l.invariant.copied)))));
    }

pub returns : goal.returns
returns c =
    let l = c.loop-len in
    copied-all (texts_of l.copies.items) l.len-index c.args.lengths.now l.rest.now _ (omega arith) l.invariant.copied
