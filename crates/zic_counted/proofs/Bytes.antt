-- Bytes that are written in parts.
use Rattle.std.proofs.Common.{◌≡◌, ℕ, ◌-◌, List, ◌++◌, length, take, drop, Option, sym, ap, subst, ◌∙◌, append_assoc, arith, take_all}
use Rattle.std.proofs.KnownBytes.{Appends-trans}
use Rattle.std.proofs.Math.Seq.{take-append_seam}
use Rattle.std.proofs.lemmas.List.{length-drop, take-append-drop}
use Rattle.std.specs.Io.{StartsWith}
use Rattle.zic_counted.specs.Counts.{Counts, HasFailedSince}
use Rattle.zic_counted.specs.Written.{Writes, FailsWithin}

-- the rest, after some more of it was written
pub moved : (done rest all : List ℕ) (n : ℕ) → done ++ rest ≡ all
    → (done ++ take n rest) ++ take (length rest - n) (drop n rest) ≡ all
moved done rest all n e =
    let whole : take (length rest - n) (drop n rest) ≡ drop n rest = take_all (length rest - n) (drop n rest) (omega (arith, length-drop n rest)) in
    rw whole (append_assoc done (take n rest) (drop n rest) ∙ ap (λ (l : List ℕ). done ++ l) (take-append-drop n rest) ∙ e)

-- some bytes, and then others
pub writes_both : {W : Type 0} (contents : W → Option (List ℕ)) (a b c : Counts W) (xs ys : List ℕ)
    → Writes contents a b xs → Writes contents b c ys → Writes contents a c (xs ++ ys)
writes_both contents a b c xs ys first then = record {
  wrote = Appends-trans (contents a.inner) (contents b.inner) (contents c.inner) xs ys first.wrote then.wrote;
  counts = record { failures = then.counts.failures ∙ first.counts.failures; taken = then.counts.taken ∙ first.counts.taken };
}

-- a text starts with a part of its own start
starts_later : (before text part more : List ℕ) → StartsWith text part → StartsWith ((before ++ text) ++ more) (before ++ part)
starts_later before text part more starts =
    let rest = drop (length part) text in
    let whole : part ++ rest ≡ text = ap (λ (p : List ℕ). p ++ rest) (sym starts) ∙ take-append-drop (length part) text in
    let e : (before ++ part) ++ (rest ++ more) ≡ (before ++ text) ++ more
    = sym (append_assoc (before ++ part) rest more) ∙ ap (λ (l : List ℕ). l ++ more) (append_assoc before part rest ∙ ap (λ (l : List ℕ). before ++ l) whole) in
    subst (λ (l : List ℕ). StartsWith l (before ++ part)) e (take-append_seam (before ++ part) (rest ++ more))

-- some bytes, and then a failure within others, after which more were to come
pub fails_after : {W : Type 0} (contents : W → Option (List ℕ)) (a b c : Counts W) (xs ys more : List ℕ)
    → Writes contents a b xs → FailsWithin contents b c ys → FailsWithin contents a c ((xs ++ ys) ++ more)
fails_after contents a b c xs ys more first then = record {
  part = xs ++ then.part;
  starts = starts_later xs ys then.part more then.starts;
  wrote = Appends-trans (contents a.inner) (contents b.inner) (contents c.inner) xs then.part first.wrote then.wrote;
  failed = subst (λ (n : ℕ). HasFailedSince c n) first.counts.failures then.failed;
}
