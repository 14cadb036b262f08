use Rattle.std.proofs.Common.{◌≡◌, map, take, string_bytes}
use Rattle.zic_source.specs.Texts.{texts_of}
use Rattle.zic_io.specs.Sources.{AreTextsOf}
use Rattle.zic_io.proofs.SourceLemmas.{known_afters, AreFiles, IsKnown}
use Rattle.zic_io.proofs.sources.read_sources.Given as goal

abbrev pub invariant-loop-word : goal.invariant-loop-word
invariant-loop-word g l =
    let words = map string_bytes (take l.word-index l.words) in
    let input = g.I.Read.remaining l.fn.input.inner in
    AreTextsOf words input (texts_of l.texts.items) × IsKnown (known_afters words input) (g.I.Read.remaining l.input.inner)
    × (AreFiles words → l.input ≡ l.fn.input)
