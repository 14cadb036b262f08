use Rattle.std.proofs.Common.{◌≡◌, ◌≢◌, ◌<◌, ◌+◌, ◌++◌, ◌∷◌, [], ◌∙◌, ℕ, List, not, cond, length, take, get_or, append-nil, sym, ap, arith}
use Rattle.std.proofs.lemmas.Bool.Decides.{nat_tests}
use Rattle.std.proofs.lemmas.List.Elements.{filter_more}
use Rattle.zic_lines.specs.Field.{is_quote}
use Rattle.zic_lines.specs.code.Taken.{without_quotes}
use Rattle.zic_lines.proofs.field.text_without_quotes.Goals as goal
use Rattle.zic_lines.proofs.field.text_without_quotes.Goals.{then-byte-ne34+in_ok-push, else-byte-ne34}

same_more : (xs : List ℕ) (i : ℕ) (text : List ℕ) → i < length xs → text ≡ without_quotes (take i xs) → get_or xs i 0 ≢ 34
    → text ++ get_or xs i 0 ∷ [] ≡ without_quotes (take (i + 1) xs)
same_more xs i text lt so_far other =
    let more = filter_more (λ (byte : ℕ). not (is_quote byte)) xs i 0 lt in
    grind (arith, nat_tests)

left_out : (xs : List ℕ) (i : ℕ) (text : List ℕ) → i < length xs → text ≡ without_quotes (take i xs) → get_or xs i 0 ≡ 34
    → text ≡ without_quotes (take (i + 1) xs)
left_out xs i text lt so_far quote =
    let more : without_quotes (take (i + 1) xs) ≡ without_quotes (take i xs) ++ [] =
    filter_more (λ (byte : ℕ). not (is_quote byte)) xs i 0 lt
    ∙ ap (λ (byte : ℕ). without_quotes (take i xs) ++ cond (not (is_quote byte)) (byte ∷ []) []) quote
    in
    let same : without_quotes (take (i + 1) xs) ≡ without_quotes (take i xs) = rw append-nil at more in
    so_far ∙ sym same

pub loop-byte-preserved : goal.loop-byte-preserved
loop-byte-preserved c =
    let xs = c.args.field.now in
    let i = c.loop-byte.byte-index in
    elim c.if-byte-ne34.branch [
      | then-byte-ne34+in_ok-push w ↦
          rw (w.text-is, w.in_ok-push.ensures.items) (same_more xs i c.loop-byte.text.items c.loop-byte-test.true c.loop-byte.invariant w.if-byte-ne34.true)
      | else-byte-ne34 w ↦ rw w.text-is (left_out xs i c.loop-byte.text.items c.loop-byte-test.true c.loop-byte.invariant w.if-byte-ne34.false)
    ]
