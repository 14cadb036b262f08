-- What can stand between fields is no double quote and ends no line.
use Rattle.std.proofs.Common.{◌≡◌, ◌≢◌, ◌==◌, ℕ, Bool, true, false, not, refl}
use Rattle.std.specs.Prelude.{◌||◌}
use Rattle.std.proofs.lemmas.Bool.{and_parts, eqb-false}
use Rattle.zic_columns.specs.Column.{CanDelimit}
use Rattle.zic_layouts.specs.Delimiter.{is_csv_byte, is_delimiter}

not_false : (b : Bool) → not b ≡ true → b ≡ false
not_false true h = absurd (cc h)
not_false false h = refl

or_false : (a b : Bool) → (a || b) ≡ false → (a ≡ false) × (b ≡ false)
or_false true b h = absurd (cc h)
or_false false b h = (refl, h)

unequal : (a c : ℕ) → (a == c) ≡ false → a ≢ c
unequal a c other same = eqb-false a c other same

pub can_delimit : (d : ℕ) → is_delimiter d ≡ true → CanDelimit d
can_delimit d is =
    let (others, csv) = and_parts _ (not (is_csv_byte d)) is in
    let (front, return) = or_false _ (d == 13) (not_false _ csv) in
    let (quote, feed) = or_false (d == 34) (d == 10) front in
    record { quote = unequal d 34 quote; feed = unequal d 10 feed; return = unequal d 13 return }
