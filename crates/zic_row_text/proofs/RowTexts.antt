-- The text of a row in its bytes.
use Rattle.std.proofs.Common.{◌≡◌, ◌≤◌, refl, ℕ, ◌+◌, ◌-◌, ◌*◌, ◌/◌, ◌%◌, ◌<◌, Bool, List, [], ◌∷◌, ◌++◌, sym, ◌∙◌, ap, arith, ℤ, pos, negsuc, ◌+ℤ◌, ◌-ℤ◌, unsigned_abs, append_assoc, length, length-append, take, drop, set, length-take-le, length-drop}
use Rattle.std.proofs.lemmas.Int.{ints}
use Rattle.std.proofs.Math.Seq.{take-append_seam}
use Rattle.std.proofs.lemmas.List.{drop-take, take_more_set, take-take}
use Rattle.std.proofs.lemmas.Slice.{take-put_mid}
use borrow.Rule.Slice.PartMut.{put_mid, same_len_mid}
use Rattle.std.specs.Prelude.{slice_range, if◌then◌else◌}
use Rattle.zic_calendar.specs.declared.civil_time.Civil.{Civil}
use Rattle.zic_calendar.specs.Calendar.{IsSupportedDay, IsSupportedYear}
use Rattle.zic_calendar.specs.Civil.{IsOnDay}
use Rattle.zic_calendar.proofs.DateLemmas.{day_number-injective}
use Rattle.zic_base.specs.Digits.{two_digits, clock_text, offset_text}
use Rattle.zic_base.specs.State.{Shown, shown}
use Rattle.zic_base.specs.declared.state.State.{State}
use Rattle.zic_row_text.specs.Local.{day_at, second_at, local_time, civil_of}
use Rattle.zic_row_text.specs.Row.{four_digits, date_text, civil_text, local_text, state_text, IsRowState}
use Rattle.zic_row_text.specs.code.Cached.{cached_date, before_name, state_in}
use Rattle.zic_row_text.proofs.LocalTime.{on_day}

-- a date
pub date_text-octets : (c : Civil) (y : ℕ) → c.year ≡ pos y
    → date_text c
    ≡ (48 + y / 100 / 10) ∷ (48 + y / 100 % 10) ∷ (48 + y % 100 / 10) ∷ (48 + y % 100 % 10)
    ∷ 45 ∷ (48 + c.month / 10) ∷ (48 + c.month % 10) ∷ 45 ∷ (48 + c.day / 10) ∷ (48 + c.day % 10) ∷ []
date_text-octets c y e =
    rw e refl

-- the date of a day is the text of each civil time of it
pub date_text-of_day : (day : ℤ) (c : Civil) → IsSupportedDay day → IsOnDay day c → date_text (civil_of day 0) ≡ date_text c
date_text-of_day day c supported is =
    let counted = civil_of day 0 in
    let on = on_day day 0 supported in
    let same = day_number-injective counted.year counted.month counted.day c.year c.month c.day on.0 is.0 (on.1 ∙ sym is.1) in
    let T : ℤ → ℕ → ℕ → List ℕ = λ y m d. four_digits (unsigned_abs y) ++ 45 ∷ (two_digits m ++ 45 ∷ two_digits d) in
    ap (λ (y : ℤ). T y counted.month counted.day) same.0 ∙ ap (λ (m : ℕ). T c.year m counted.day) same.1 ∙ ap (λ (d : ℕ). T c.year c.month d) same.2

-- the day and the second of local time, which is counted from 0001-01-01 in the code
pub day_at-counted : (t : ℤ) (seconds : ℕ) → t +ℤ pos (719_162 * 86_400) ≡ pos seconds → day_at t ≡ pos (seconds / 86_400) -ℤ pos 719_162
day_at-counted (pos a) seconds e = omega (arith, ints)
day_at-counted (negsuc a) seconds e = omega (arith, ints)

pub second_at-counted : (t : ℤ) (seconds : ℕ) → t +ℤ pos (719_162 * 86_400) ≡ pos seconds → second_at t ≡ seconds % 86_400
second_at-counted (pos a) seconds e = omega (arith, ints)
second_at-counted (negsuc a) seconds e = omega (arith, ints)

-- the date of a day, from any civil time of it
pub cached_date-octets : (day : ℕ) (x : ℤ) (c : Civil) (y : ℕ) → day < 3_652_059 → x ≡ pos day -ℤ pos 719_162 → IsOnDay x c → IsSupportedYear c.year → c.year ≡ pos y
    → cached_date day
    ≡ (48 + y / 100 / 10) ∷ (48 + y / 100 % 10) ∷ (48 + y % 100 / 10) ∷ (48 + y % 100 % 10)
    ∷ 45 ∷ (48 + c.month / 10) ∷ (48 + c.month % 10) ∷ 45 ∷ (48 + c.day / 10) ∷ (48 + c.day % 10) ∷ 84 ∷ []
unfolding cached_date
cached_date-octets day x c y lt e is year e₂ =
    let d = pos day -ℤ pos 719_162 in
    let on : IsOnDay d c = (is.0, is.1 ∙ e) in
    let supported : IsSupportedDay d = (omega (arith, ints), omega (arith, ints)) in
    let octets = date_text-octets c y e₂ in
    ap (λ (l : List ℕ). l ++ 84 ∷ []) (date_text-of_day d c supported on ∙ octets)

-- what stands before the abbreviation, by the text of the offset
pub before_name-of : (offset : ℤ) (daylight : Bool) (flag : ℕ) → flag ≡ (if daylight then 49 else 48)
    → 44 ∷ (offset_text offset ++ 44 ∷ flag ∷ 44 ∷ []) ≡ before_name offset daylight
unfolding before_name
before_name-of offset daylight flag e = ap (λ (n : ℕ). 44 ∷ (offset_text offset ++ 44 ∷ n ∷ 44 ∷ [])) e

before_name-state : (s : Shown) → before_name s.offset s.daylight ++ (s.name ++ 10 ∷ []) ≡ state_text 44 s
unfolding before_name state_text
before_name-state s =
    ap (λ (l : List ℕ). 44 ∷ l) (append_assoc (offset_text s.offset) (44 ∷ (if s.daylight then 49 else 48) ∷ 44 ∷ []) (s.name ++ 10 ∷ []))

-- the text of a state with commas, written in its parts
pub state_written : (state : State) (octets front name : List ℕ) (n : ℕ) → IsRowState (shown state) → length octets ≡ 32 → front ≡ before_name state.offset state.daylight → length front ≡ 13
    → name ≡ state.name.now → n ≡ length state.name.now → take (13 + n + 1) (set (put_mid 13 (13 + n - 13) (put_mid 0 13 octets front) name) (13 + n) 10) ≡ state_text 44 (shown state)
state_written state octets front name n may long front_is front_long e e₂ =
    let few = may.name in
    let long_name : length name ≡ n = ap length e ∙ sym e₂ in
    let k = 13 + n - 13 in
    let fronted = put_mid 0 13 octets front in
    let named = put_mid 13 k fronted name in
    let same : length fronted ≡ length octets = same_len_mid 0 13 octets front (omega (arith, length-take-le 13 octets (omega arith))) in
    let same₂ : length named ≡ length fronted = same_len_mid 13 k fronted name (omega (arith, length-take-le k (drop 13 fronted) (omega (arith, length-drop 13 fronted)))) in
    let at_front : take 13 fronted ≡ front = take-put_mid 0 13 octets front 13 (omega arith) (omega arith) in
    let at_name : take (13 + n) named ≡ take 13 fronted ++ name = take-put_mid 13 k fronted name (13 + n) (omega arith) (omega arith) in
    let at_end : take (13 + n + 1) (set named (13 + n) 10) ≡ take (13 + n) named ++ 10 ∷ [] = take_more_set named (13 + n) 10 (omega arith) in
    let B = before_name state.offset state.daylight in
    at_end ∙ ap (λ (l : List ℕ). l ++ 10 ∷ []) (at_name ∙ ap (λ (l : List ℕ). l ++ name) (at_front ∙ front_is) ∙ ap (λ (l : List ℕ). B ++ l) e)
    ∙ append_assoc B state.name.now (10 ∷ []) ∙ before_name-state (shown state)

-- the text of a state, with the delimiter in the place of three commas
pub state_delimited : (d : ℕ) (s : Shown) → set (set (set (state_text 44 s) 0 d) 10 d) 12 d ≡ state_text d s
unfolding state_text
state_delimited d s = refl

-- the abbreviation in the text of a state
pub name_in : (s : Shown) (octets : List ℕ) (len : ℕ) → take len octets ≡ state_text 44 s → len ≤ length octets → slice_range octets 13 (len - 1) ≡ s.name
unfolding state_text
name_in s octets len is few =
    let n = length s.name in
    let size : len ≡ 13 + (n + 1) = omega (arith, length-take-le len octets few, ap length is, length-append s.name (10 ∷ [])) in
    let mid : len - 1 - 13 ≡ n = omega (arith, size) in
    ap (λ (k : ℕ). take k (drop 13 octets)) mid ∙ sym (take-take n (n + 1) (drop 13 octets) (omega arith)) ∙ ap (take n) (sym (drop-take 13 (n + 1) octets))
    ∙ ap (λ (k : ℕ). take n (drop 13 (take k octets))) (sym size) ∙ ap (λ (l : List ℕ). take n (drop 13 l)) is ∙ take-append_seam s.name (10 ∷ [])

-- the state of a text that was written
pub state_read : (s : Shown) (octets : List ℕ) (len : ℕ) → take len octets ≡ state_text 44 s → len ≤ length octets → state_in s.offset s.daylight octets len ≡ s
state_read s octets len is few = ap (λ (name : List ℕ). record { offset = s.offset; daylight = s.daylight; name = name }) (name_in s octets len is few)

-- the local time of an instant, by the date that is kept, and what follows it
pub local_cached : (instant offset : ℤ) (seconds day : ℕ) (more : List ℕ) → pos seconds ≡ instant +ℤ offset +ℤ pos (719_162 * 86_400) → day ≡ seconds / 86_400
    → let second = seconds % 86_400 in
    cached_date day ++ (clock_text second ++ more) ≡ local_text instant offset ++ more
unfolding local_text local_time cached_date
local_cached instant offset seconds day more counted of_day =
    let t = instant +ℤ offset in
    let second = seconds % 86_400 in
    let at = pos (seconds / 86_400) -ℤ pos 719_162 in
    let P : ℤ → ℕ → List ℕ = λ d s. civil_text (civil_of d s) ++ more in
    let here : P at second ≡ (date_text (civil_of at 0) ++ 84 ∷ []) ++ (clock_text second ++ more) = simp append_assoc in
    ap (λ (n : ℕ). cached_date n ++ (clock_text second ++ more)) of_day
    ∙ sym (ap (λ (d : ℤ). P d (second_at t)) (day_at-counted t seconds (sym counted)) ∙ ap (λ (s : ℕ). P at s) (second_at-counted t seconds (sym counted)) ∙ here)
