-- What a writer holds, and the start of a text.
use Rattle.std.proofs.Common.{◌≡◌, ℕ, List, [], ◌++◌, length, drop, Option, sym, ap, subst, ◌∙◌, append_assoc}
use Rattle.std.proofs.lemmas.List.{append-nil, take-append-drop}
use Rattle.std.proofs.Math.Seq.{take-append_seam}
use Rattle.std.specs.Io.{StartsWith}
use Rattle.csv.proofs.WriteFacts.{appends-more}
use Rattle.zic_counted.specs.Counts.{Counts, HasFailedSince}
use Rattle.zic_counted.specs.Written.{FailsWithin}
use Rattle.zic_convert.specs.code.Written.{FailsAfter, Wrote}

-- a text starts with what stands at its front
pub starts_with : (part rest : List ℕ) → StartsWith (part ++ rest) part
starts_with part rest = take-append_seam part rest

-- what stands after the start of a text
pub split_start : (text part : List ℕ) → StartsWith text part → part ++ drop (length part) text ≡ text
split_start text part starts = ap (λ p. p ++ drop (length part) text) (sym starts) ∙ take-append-drop (length part) text

-- a start of a text that follows another, with some more after
pub starts_later : (before text part more : List ℕ) → StartsWith text part → StartsWith ((before ++ text) ++ more) (before ++ part)
starts_later before text part more starts =
    let rest = drop (length part) text in
    let e : (before ++ part) ++ (rest ++ more) ≡ (before ++ text) ++ more
    = sym (append_assoc (before ++ part) rest more) ∙ ap (λ (l : List ℕ). l ++ more) (append_assoc before part rest ∙ ap (λ (l : List ℕ). before ++ l) (split_start text part starts)) in
    subst (λ (l : List ℕ). StartsWith l (before ++ part)) e (starts_with (before ++ part) (rest ++ more))

module _ {W : Type 0} (contents : W → Option (List ℕ)) where
  -- some bytes, and then others
  pub wrote_both : (a b c : Counts W) (xs ys : List ℕ) → Wrote contents a b xs → Wrote contents b c ys → Wrote contents a c (xs ++ ys)
  wrote_both a b c xs ys first then = (appends-more (contents a.inner) (contents b.inner) (contents c.inner) xs ys first.0 then.0, then.1 ∙ first.1)

  -- some bytes, and then a failure within others
  pub fails_after : (a b c : Counts W) (xs ys more all : List ℕ) → all ≡ (xs ++ ys) ++ more → Wrote contents a b xs → FailsWithin contents b c ys → FailsAfter contents a c xs all
  fails_after a b c xs ys more all is first then = record {
    part = xs ++ then.part;
    starts = subst (λ (l : List ℕ). StartsWith l (xs ++ then.part)) (sym is) (starts_later xs ys then.part more then.starts);
    least = starts_with xs then.part;
    wrote = appends-more (contents a.inner) (contents b.inner) (contents c.inner) xs then.part first.0 then.wrote;
    failed = subst (λ (n : ℕ). HasFailedSince c n) first.1 then.failed;
  }

  pub fails_later : (a b c : Counts W) (xs ys : List ℕ) → Wrote contents a b xs → FailsWithin contents b c ys → FailsWithin contents a c (xs ++ ys)
  fails_later a b c xs ys first then = record {
    part = xs ++ then.part;
    starts = subst (λ (l : List ℕ). StartsWith l (xs ++ then.part)) (append-nil (xs ++ ys)) (starts_later xs ys then.part [] then.starts);
    wrote = appends-more (contents a.inner) (contents b.inner) (contents c.inner) xs then.part first.0 then.wrote;
    failed = subst (λ (n : ℕ). HasFailedSince c n) first.1 then.failed;
  }
