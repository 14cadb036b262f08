use Rattle.std.proofs.Common.{◌≡◌, ◌≢◌, ℕ, ◌+◌, List, [], ◌∷◌, ◌++◌, map, take, drop, string_bytes, refl, Some, sym, subst, ap, ◌∙◌, rules}
use Rattle.std.proofs.lemmas.List.{map-append, take_all}
use Rattle.std.proofs.lemmas.List.Elements.{All-pop}
use Rattle.std.proofs.lemmas.Result.{err_from_is_err_and}
use Rattle.zic_source.specs.Texts.{texts_of}
use Rattle.zic_base.specs.declared.constants.TheConstants.{STANDARD_INPUT}
use Rattle.zic_io.specs.Sources.{AreTextsOf}
use Rattle.zic_io.proofs.ListLemmas.{taken, parts}
use Rattle.zic_io.proofs.SourceLemmas.{AreFiles, files_parts, known_afters, known_more, known_on, source_stop, text_more, text_of}
use Rattle.zic_io.proofs.sources.read_sources.Goals as goal

pub returns-in_err-source_text-clause-err : goal.returns-in_err-source_text-clause-err
returns-in_err-source_text-clause-err g c =
    let p = err_from_is_err_and c.from_residual.result c.from_residual.ensures.1 in
    let l = c.loop-word in
    let word = c.word-item.result in
    let words = c.args.words.now in
    let whole = ap (map string_bytes) (parts words l.word-index word c.loop-word-test.true (sym c.word-item.is)) ∙ map-append string_bytes (take l.word-index words) (word ∷ drop (l.word-index + 1) words) in
    let unread = rw c.as_str.ensures.value at c.in_err-source_text.ensures.err in
    rw (p.1, p.2) (source_stop (map string_bytes words) (map string_bytes (take l.word-index words)) (string_bytes word) (map string_bytes (drop (l.word-index + 1) words))
    (g.I.Read.remaining c.args.input.now.inner) (texts_of l.texts.items) c.args.input.now l.input c.source_text.new.input
    c.in_err-source_text.field-0.0 whole l.invariant.0 l.invariant.2 unread)

pub returns-in_err-source_text-clause-unrequested : goal.returns-in_err-source_text-clause-unrequested
returns-in_err-source_text-clause-unrequested g c =
    let l = c.loop-word in
    let word = c.word-item.result in
    let words = c.args.words.now in
    let whole = ap (map string_bytes) (parts words l.word-index word c.loop-word-test.true (sym c.word-item.is)) ∙ map-append string_bytes (take l.word-index words) (word ∷ drop (l.word-index + 1) words) in
    let unrequested = rw c.as_str.ensures.value at c.source_text.ensures.unrequested in
    λ files.
    let split = files_parts (map string_bytes (take l.word-index words)) (string_bytes word) (map string_bytes (drop (l.word-index + 1) words)) (rw whole at files) in
    unrequested split.1 ∙ l.invariant.2 split.0

pub returns-in_err-push-clause-unrequested : goal.returns-in_err-push-clause-unrequested
returns-in_err-push-clause-unrequested g c =
    let l = c.loop-word in
    let word = c.word-item.result in
    let words = c.args.words.now in
    let whole = ap (map string_bytes) (parts words l.word-index word c.loop-word-test.true (sym c.word-item.is)) ∙ map-append string_bytes (take l.word-index words) (word ∷ drop (l.word-index + 1) words) in
    let unrequested = rw c.as_str.ensures.value at c.source_text.ensures.unrequested in
    λ files.
    let split = files_parts (map string_bytes (take l.word-index words)) (string_bytes word) (map string_bytes (drop (l.word-index + 1) words)) (rw whole at files) in
    unrequested split.1 ∙ l.invariant.2 split.0

pub loop-word-preserved : goal.loop-word-preserved
loop-word-preserved g c =
    let l = c.loop-word in
    let word = c.word-item.result in
    let name = string_bytes word in
    let before = take l.word-index c.args.words.now in
    let names = map string_bytes before in
    let input = g.I.Read.remaining c.args.input.now.inner in
    let left = g.I.Read.remaining l.input.inner in
    let text = c.in_ok-source_text.field-0 in
    let one_more : map string_bytes (take (l.word-index + 1) c.args.words.now) ≡ names ++ name ∷ [] =
    ap (map string_bytes) (taken c.args.words.now l.word-index word c.loop-word-test.true (sym c.word-item.is)) ∙ map-append string_bytes before (word ∷ []) in
    let pushed : texts_of c.push.new.self.items ≡ texts_of l.texts.items ++ text.items ∷ [] = ap texts_of c.in_ok-push.ensures.items ∙ map-append (λ t. t.items) l.texts.items (text ∷ []) in
    let whole = rw c.as_str.ensures.value at c.in_ok-source_text.ensures.whole in
    let unrequested = rw c.as_str.ensures.value at c.in_ok-source_text.ensures.unrequested in
    let known = known_afters names input in (
      rw (one_more, pushed) (text_more names input (texts_of l.texts.items) name text.items l.invariant.0 (text_of name known left text.items l.invariant.1 c.in_ok-source_text.ensures.size whole)),
      rw (one_more, known_more names name input) (known_on name known left (g.I.Read.remaining c.source_text.new.input.inner) l.invariant.1 (λ other. ap (λ r. g.I.Read.remaining r.inner) (unrequested other))),
      λ files.
          let none = All-pop (λ (w : List ℕ). w ≢ STANDARD_INPUT.now) (names ++ name ∷ []) names (Some name) refl (rw one_more at files) in
          unrequested none.1 ∙ l.invariant.2 none.0,
    )

pub returns-clause-err : goal.returns-clause-err
returns-clause-err c = search rules

pub returns-clause-ok : goal.returns-clause-ok
returns-clause-ok g c =
    let all = ap (map string_bytes) (take_all c.loop-word.word-index c.args.words.now c.loop-word-test.false) in
    subst (λ (names : List (List ℕ)). AreTextsOf names (g.I.Read.remaining c.args.input.now.inner) (texts_of c.loop-word.texts.items)) all c.loop-word.invariant.0

pub returns-clause-unrequested : goal.returns-clause-unrequested
returns-clause-unrequested g c =
    let all = ap (map string_bytes) (take_all c.loop-word.word-index c.args.words.now c.loop-word-test.false) in
    λ files. c.loop-word.invariant.2 (subst AreFiles (sym all) files)
