-- What is given, and that a glance follows each draw, over events put together.
use Rattle.std.proofs.Common.{◌≡◌, ℕ, ◌<◌, ◌≤◌, Bool, true, false, not, ◌&&◌, ◌||◌, nat_lt, nat_le, List, [], ◌∷◌, ◌++◌, length, cond, refl, sym, ap, ◌∙◌, append_assoc, length-append, arith}
use Rattle.std.proofs.lemmas.List.{append-nil}
use Rattle.std.proofs.lemmas.Bool.Decides.{nat_tests}
use Rattle.zic_pieces.specs.declared.pass.Event.{Event}
use Rattle.zic_pieces.specs.declared.pass.Event.TheVariants.{Drew, Reported, Glanced}
use Rattle.zic_pieces.specs.Events.{draws, drawn_by}
use Rattle.zic_pieces.specs.Given.{given, given_by, given_from}
use Rattle.zic_pieces.specs.code.Whole.{is_whole, is_whole_from, asks, answers}

pub and_left : (a b : Bool) → a && b ≡ true → a ≡ true
and_left true b e = refl
and_left false b e = e

pub and_right : (a b : Bool) → a && b ≡ true → b ≡ true
and_right true b e = e
and_right false b e = absurd (cc)

and_both : (a b : Bool) → a ≡ true → b ≡ true → a && b ≡ true
and_both true b e f = f
and_both false b e f = absurd (cc)

or_first : (a b : Bool) → a ≡ true → a || b ≡ true
or_first true b e = refl
or_first false b e = absurd (cc)

whole_from_append : (n : ℕ) (e : Event) (xs ys : List Event) → is_whole_from n e xs ≡ true → is_whole n ys ≡ true → is_whole_from n e (xs ++ ys) ≡ true
whole_from_append n e [] [] p q = p
whole_from_append n e [] (y ∷ ys) p q = and_both (not (asks n e) || answers y) (is_whole_from n y ys) (or_first (not (asks n e)) (answers y) p) q
whole_from_append n e (f ∷ fs) ys p q = and_both (not (asks n e) || answers f) (is_whole_from n f (fs ++ ys)) (and_left (not (asks n e) || answers f) (is_whole_from n f fs) p)
    (whole_from_append n f fs ys (and_right (not (asks n e) || answers f) (is_whole_from n f fs) p) q)

pub whole_append : (n : ℕ) (xs ys : List Event) → is_whole n xs ≡ true → is_whole n ys ≡ true → is_whole n (xs ++ ys) ≡ true
whole_append n [] ys p q = q
whole_append n (e ∷ es) ys p q = whole_from_append n e es ys p q

not_given : (n i least : ℕ) (b : Bool) → nat_lt i n ≡ b → not b ≡ true → cond (b && nat_le i least) (i ∷ []) [] ≡ []
not_given n i least true is p = absurd (cc)
not_given n i least false is p = refl

none_given : (n : ℕ) (e f : Event) → not (asks n e) ≡ true → given_by n e f ≡ []
none_given n (Drew i s) (Drew j t) p = refl
none_given n (Drew i s) (Reported j) p = refl
none_given n (Drew i s) (Glanced g b) p = not_given n i g (nat_lt i n) refl p
none_given n (Reported i) f p = refl
none_given n (Glanced g b) f p = refl

given_from_append : (n : ℕ) (e : Event) (xs ys : List Event) → is_whole_from n e xs ≡ true → given_from n e (xs ++ ys) ≡ given_from n e xs ++ given n ys
given_from_append n e [] [] p = refl
given_from_append n e [] (y ∷ ys) p = ap (λ l. l ++ given_from n y ys) (none_given n e y p)
given_from_append n e (f ∷ fs) ys p =
    ap (λ l. given_by n e f ++ l) (given_from_append n f fs ys (and_right (not (asks n e) || answers f) (is_whole_from n f fs) p)) ∙ sym (append_assoc (given_by n e f) (given_from n f fs) (given n ys))

pub given_append : (n : ℕ) (xs ys : List Event) → is_whole n xs ≡ true → given n (xs ++ ys) ≡ given n xs ++ given n ys
given_append n [] ys p = refl
given_append n (e ∷ es) ys p = given_from_append n e es ys p

at_most_one : (b : Bool) (i : ℕ) → length (cond b (i ∷ []) []) ≤ 1
at_most_one true i = omega arith
at_most_one false i = omega arith

few_given : (n : ℕ) (e f : Event) → length (given_by n e f) ≤ length (drawn_by e)
few_given n (Drew i s) (Drew j t) = omega arith
few_given n (Drew i s) (Reported j) = omega arith
few_given n (Drew i s) (Glanced g b) = at_most_one (nat_lt i n && nat_le i g) i
few_given n (Reported i) f = omega arith
few_given n (Glanced g b) f = omega arith

given_from_draws : (n : ℕ) (e : Event) (es : List Event) → length (given_from n e es) ≤ length (draws (e ∷ es))
given_from_draws n e [] = omega arith
given_from_draws n e (f ∷ fs) = let r = given_from_draws n f fs in let s = few_given n e f in
    omega (arith, length-append (given_by n e f) (given_from n f fs), length-append (drawn_by e) (draws (f ∷ fs)))

-- no more numbers are given than drawn
pub given_draws : (n : ℕ) (es : List Event) → length (given n es) ≤ length (draws es)
given_draws n [] = omega arith
given_draws n (e ∷ es) = given_from_draws n e es

requested_or : (n i g : ℕ) (a b : Bool) → a ≡ true → b ≡ true → cond (a && b) (i ∷ []) [] ≡ i ∷ []
requested_or n i g true true p q = refl
requested_or n i g true false p q = absurd (cc)
requested_or n i g false b p q = absurd (cc)

requested_not : (i : ℕ) (a b : Bool) → b ≡ false → cond (a && b) (i ∷ []) [] ≡ []
requested_not i true true q = absurd (cc)
requested_not i true false q = refl
requested_not i false b q = refl

-- a claim that gives i
pub given_do : (n i s g b : ℕ) (es : List Event) → is_whole n es ≡ true → i < n → i ≤ g → given n ((es ++ Drew i s ∷ []) ++ Glanced g b ∷ []) ≡ given n es ++ i ∷ []
given_do n i s g b es p low le =
    let one : nat_lt i n ≡ true = grind (arith, nat_tests) in
    let two : nat_le i g ≡ true = grind (arith, nat_tests) in
    ap (given n) (append_assoc es (Drew i s ∷ []) (Glanced g b ∷ [])) ∙ (given_append n es (Drew i s ∷ Glanced g b ∷ []) p
    ∙ ap (λ (l : List ℕ). given n es ++ l) (append-nil (cond (nat_lt i n && nat_le i g) (i ∷ []) []) ∙ requested_or n i g (nat_lt i n) (nat_le i g) one two))

-- a claim that skips i
pub given_skip : (n i s g b : ℕ) (es : List Event) → is_whole n es ≡ true → g < i → given n ((es ++ Drew i s ∷ []) ++ Glanced g b ∷ []) ≡ given n es
given_skip n i s g b es p less =
    let two : nat_le i g ≡ false = grind (arith, nat_tests) in
    ap (given n) (append_assoc es (Drew i s ∷ []) (Glanced g b ∷ [])) ∙ (given_append n es (Drew i s ∷ Glanced g b ∷ []) p
    ∙ (ap (λ (l : List ℕ). given n es ++ l) (append-nil (cond (nat_lt i n && nat_le i g) (i ∷ []) []) ∙ requested_not i (nat_lt i n) (nat_le i g) two) ∙ append-nil (given n es)))

answered : (a : Bool) → (not a || true) && true ≡ true
answered true = refl
answered false = refl

pub whole_claim : (n i s g b : ℕ) (es : List Event) → is_whole n es ≡ true → is_whole n ((es ++ Drew i s ∷ []) ++ Glanced g b ∷ []) ≡ true
whole_claim n i s g b es p = ap (is_whole n) (append_assoc es (Drew i s ∷ []) (Glanced g b ∷ [])) ∙ whole_append n es (Drew i s ∷ Glanced g b ∷ []) p (answered (nat_lt i n))

-- a draw past the last piece
pub given_end : (n i s : ℕ) (es : List Event) → is_whole n es ≡ true → given n (es ++ Drew i s ∷ []) ≡ given n es
given_end n i s es p = given_append n es (Drew i s ∷ []) p ∙ append-nil (given n es)

pub whole_end : (n i s : ℕ) (es : List Event) → is_whole n es ≡ true → n ≤ i → is_whole n (es ++ Drew i s ∷ []) ≡ true
whole_end n i s es p high = let off : nat_lt i n ≡ false = grind (arith, nat_tests) in whole_append n es (Drew i s ∷ []) p (ap not off)

pub given_report : (n i : ℕ) (es : List Event) → is_whole n es ≡ true → given n (es ++ Reported i ∷ []) ≡ given n es
given_report n i es p = given_append n es (Reported i ∷ []) p ∙ append-nil (given n es)

pub whole_report : (n i : ℕ) (es : List Event) → is_whole n es ≡ true → is_whole n (es ++ Reported i ∷ []) ≡ true
whole_report n i es p = whole_append n es (Reported i ∷ []) p refl

pub given_glance : (n g b : ℕ) (es : List Event) → is_whole n es ≡ true → given n (es ++ Glanced g b ∷ []) ≡ given n es
given_glance n g b es p = given_append n es (Glanced g b ∷ []) p ∙ append-nil (given n es)

pub whole_glance : (n g b : ℕ) (es : List Event) → is_whole n es ≡ true → is_whole n (es ++ Glanced g b ∷ []) ≡ true
whole_glance n g b es p = whole_append n es (Glanced g b ∷ []) p refl
