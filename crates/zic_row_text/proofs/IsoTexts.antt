-- Local time and offset in one field.
use Rattle.std.proofs.Common.{◌≡◌, ◌≤◌, ℕ, ◌+◌, ◌-◌, ◌%◌, ℤ, Bool, true, false, List, [], ◌∷◌, ◌++◌, ap, ap₂, arith, drop, length, length-append, refl, set, sym, take, unsigned_abs, ◌∙◌}
use Rattle.std.proofs.Math.Nat.{min-le_left}
use Rattle.std.proofs.lemmas.List.{drop-take, length-take, take-take}
use Rattle.std.specs.Prelude.{◌==◌, if◌then◌else◌}
use Rattle.zic_base.specs.Digits.{offset_text}
use Rattle.zic_base.specs.State.{Shown}
use Rattle.zic_row_text.specs.Row.{iso_offset_text, iso_state_text, state_text}
use Rattle.zic_row_text.specs.code.Iso.{iso_width}

-- an offset with its seconds or without, and what follows it
cut : (d : ℕ) (short : Bool) (offset : ℤ) (flag : ℕ) (more : List ℕ)
    → (if short then take 6 (offset_text offset) else offset_text offset) ++ d ∷ flag ∷ d ∷ more
    ≡ take (if short then 6 else 9) (drop 1 (44 ∷ (offset_text offset ++ 44 ∷ flag ∷ 44 ∷ more)))
    ++ set (set (drop 10 (44 ∷ (offset_text offset ++ 44 ∷ flag ∷ 44 ∷ more))) 0 d) 2 d
cut d true offset flag more = refl
cut d false offset flag more = refl

-- the text of a state after a local time, in two parts of its text in fields, with the delimiter in the place of two commas
pub iso_parts : (d : ℕ) (s : Shown) → iso_state_text d s ≡ take (iso_width s.offset) (drop 1 (state_text 44 s)) ++ set (set (drop 10 (state_text 44 s)) 0 d) 2 d
unfolding iso_state_text state_text
iso_parts d s = cut d (unsigned_abs s.offset % 60 == 0) s.offset (if s.daylight then 49 else 48) (s.name ++ 10 ∷ [])

-- how many bytes of an offset stand there
pub width_within : (offset : ℤ) → iso_width offset ≤ 9
width_within offset = within (unsigned_abs offset % 60 == 0) where
  within : (short : Bool) → (if short then 6 else 9) ≤ 9
  within true = omega arith
  within false = omega arith

-- a state in fields has more than its offset
pub text_long : (s : Shown) → 14 ≤ length (state_text 44 s)
unfolding state_text
text_long s = omega (arith, length-append s.name (10 ∷ []))

-- so many bytes are the text of a state in fields
pub text_fits : (s : Shown) (octets : List ℕ) (len : ℕ) → take len octets ≡ state_text 44 s → 14 ≤ len
text_fits s octets len is = omega (arith, ap length is, text_long s, length-take len octets, min-le_left len (length octets))

-- the first bytes after the comma
front_cut : (s : Shown) (octets : List ℕ) (len width : ℕ) → take len octets ≡ state_text 44 s → width ≤ 9 → take width (drop 1 octets) ≡ take width (drop 1 (state_text 44 s))
front_cut s octets len width is few =
    let long = text_fits s octets len is in
    let first : 1 + (len - 1) ≡ len = omega (arith, long) in
    let within : width ≤ len - 1 = omega (arith, long, few) in
    sym (take-take width (len - 1) (drop 1 octets) within) ∙ ap (take width) (sym (drop-take 1 (len - 1) octets))
    ∙ ap (λ (n : ℕ). take width (drop 1 (take n octets))) first ∙ ap (λ (l : List ℕ). take width (drop 1 l)) is

-- the offset alone, with its seconds,
pub offset_cut : (s : Shown) (octets : List ℕ) (len : ℕ) → take len octets ≡ state_text 44 s → take 9 (drop 1 octets) ≡ offset_text s.offset
unfolding state_text
offset_cut s octets len is = front_cut s octets len 9 is (omega arith)

-- and as it stands after a local time
pub iso_offset_cut : (s : Shown) (octets : List ℕ) (len width : ℕ) → take len octets ≡ state_text 44 s → width ≡ iso_width s.offset → take width (drop 1 octets) ≡ iso_offset_text s.offset
unfolding state_text
iso_offset_cut s octets len width is wide = front_cut s octets len width is (omega (arith, wide, width_within s.offset)) ∙ ap (λ (n : ℕ). take n (drop 1 (state_text 44 s))) wide ∙ by (unsigned_abs s.offset % 60 == 0) where
  by : (short : Bool) → take (if short then 6 else 9) (drop 1 (state_text 44 s)) ≡ (if short then take 6 (offset_text s.offset) else offset_text s.offset)
  by true = refl
  by false = refl

-- its text after a local time, in two parts of these bytes
pub iso_cut : (d : ℕ) (s : Shown) (octets : List ℕ) (len width : ℕ) → take len octets ≡ state_text 44 s → width ≡ iso_width s.offset
    → take width (drop 1 octets) ++ set (set (take (len - 10) (drop 10 octets)) 0 d) 2 d ≡ iso_state_text d s
iso_cut d s octets len width is wide =
    let long = text_fits s octets len is in
    let last : 10 + (len - 10) ≡ len = omega (arith, long) in
    let front : take width (drop 1 octets) ≡ take (iso_width s.offset) (drop 1 (state_text 44 s)) =
    front_cut s octets len width is (omega (arith, wide, width_within s.offset)) ∙ ap (λ (n : ℕ). take n (drop 1 (state_text 44 s))) wide in
    let rest : take (len - 10) (drop 10 octets) ≡ drop 10 (state_text 44 s) =
    sym (drop-take 10 (len - 10) octets) ∙ ap (λ (n : ℕ). drop 10 (take n octets)) last ∙ ap (drop 10) is in
    ap₂ (λ (a b : List ℕ). a ++ set (set b 0 d) 2 d) front rest ∙ sym (iso_parts d s)
