use Rattle.std.proofs.Common.{◌≡◌, ℕ, ◌+◌, ◌<◌, ◌≤◌, List, true, false, take, drop, length, refl, sym, ap, ◌∙◌, Some, None, arith}
use Rattle.std.specs.Prelude.{◌==◌}
use Rattle.std.specs.List.{position, before_first}
use Rattle.std.proofs.lemmas.Bool.{lt-ltb, le-ltb, eq-eqb, ne_eqb}
use Rattle.std.proofs.lemmas.List.{take_rest, length-take, length-drop}
use Rattle.zic_tzif.proofs.ReadChecks.{footer_outcome, not_there, is_there}
use Rattle.zic_tzif.proofs.reader.footer_text.Goals as goal

taken : (n : ℕ) (xs : List ℕ) → n < length xs → n ≡ length (take n xs)
taken n xs within = let size = length-take n xs in omega (arith, within, size)

pub slice_bounds-result-end : goal.slice_bounds-result-end
slice_bounds-result-end c =
    let o = c.args.octets.now in
    let following = drop (c.args.place + 1) o in
    let same = take_rest o (c.args.place + 1) in
    let some : position (λ b. b == 10) following ≡ Some c.in-Some.end = ap (position (λ b. b == 10)) (sym same) ∙ sym c.place_of.ensures ∙ c.in-Some.is in
    taken c.in-Some.end following (is_there (λ b. b == 10) following c.in-Some.end some).2 ∙ ap (λ (xs : List ℕ). length (take c.in-Some.end xs)) (sym same)

pub returns-then-octets-place : goal.returns-then-octets-place
returns-then-octets-place c =
    footer_outcome c.args.octets.now c.args.place false _ _ c.requires (le-ltb _ _ c.if-octets-place.true) refl refl

pub returns-then-octets-place-ne10 : goal.returns-then-octets-place-ne10
returns-then-octets-place-ne10 c =
    footer_outcome c.args.octets.now c.args.place true false _ c.requires (lt-ltb _ _ c.if-octets-place.false) (ne_eqb _ _ c.if-octets-place-ne10.true) refl

pub returns-in-None : goal.returns-in-None
returns-in-None c =
    let o = c.args.octets.now in
    let following = drop (c.args.place + 1) o in
    let none : position (λ b. b == 10) following ≡ None = ap (position (λ b. b == 10)) (sym (take_rest o (c.args.place + 1))) ∙ sym c.place_of.ensures ∙ c.in-None.is in
    footer_outcome o c.args.place true true false c.requires (lt-ltb _ _ c.if-octets-place.false) (eq-eqb _ _ c.if-octets-place-ne10.false) (not_there (λ b. b == 10) following none)

pub returns-in-Some : goal.returns-in-Some
returns-in-Some c =
    let o = c.args.octets.now in
    let following = drop (c.args.place + 1) o in
    let some : position (λ b. b == 10) following ≡ Some c.in-Some.end = ap (position (λ b. b == 10)) (sym (take_rest o (c.args.place + 1))) ∙ sym c.place_of.ensures ∙ c.in-Some.is in
    let found = is_there (λ b. b == 10) following c.in-Some.end some in
    let text = ap (take c.in-Some.end) (take_rest o (c.args.place + 1)) in (
      footer_outcome o c.args.place true true true c.requires (lt-ltb _ _ c.if-octets-place.false) (eq-eqb _ _ c.if-octets-place-ne10.false) found.0,
      record {
        is = text ∙ found.1 ∙ ap (λ n. before_first (λ b. b == 10) (drop (n + 1) o)) c.requires;
        inside =
            let e1 = length-drop (c.args.place + 1) o in
            let e2 = length-take c.in-Some.end following in
            let here : c.args.place + length (take c.in-Some.end following) + 2 ≤ length o = omega (arith, found.2) in
            let p-is = c.requires in
            rw text (rw (← p-is) here);
      },
    )
