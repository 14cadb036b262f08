use Rattle.std.proofs.Common.{◌≡◌, ◌++◌, drop, length}
use Rattle.std.specs.List.{sum}
use Rattle.zic_source.specs.Texts.{texts_of}
use Rattle.pzic_files.specs.Source.{texts_in}
use Rattle.pzic_files.proofs.compiling.copy_texts.Given as goal

abbrev pub invariant-loop-len : goal.invariant-loop-len
invariant-loop-len l = record {
  left : sum (drop l.len-index l.lengths) ≡ length l.rest;
  copied : texts_of l.copies.items ++ texts_in (drop l.len-index l.lengths) l.rest ≡ texts_in l.lengths l.texts;
}
