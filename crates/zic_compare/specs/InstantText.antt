-- The instants of the lines of `diff`: own choice.
use Rattle.std.specs.Prelude.{ℕ, ℤ, pos, neg_ℤ, int_le, ◌&&◌, Bool, if◌then◌else◌, List, [], ◌∷◌, ◌++◌}
use Rattle.std.specs.Fmt.{signed_decimal}
use Rattle.zic_compare.specs.declared.sides.Style.{Style}
use Rattle.zic_compare.specs.declared.sides.Style.TheVariants as styles
use Rattle.zic_row_text.specs.Local.{local_time}
use Rattle.zic_row_text.specs.Row.{civil_text}

-- an instant of the years 1 to 9999 in UT
abbrev pub has_date : ℤ → Bool
has_date t = int_le (neg_ℤ (pos 62_135_596_800)) t && int_le t (pos 253_402_300_799)

-- its date and time of day in UT, as `2026-03-29T01:00:00Z`: RFC 3339, 5.6
abbrev pub utc_text : ℤ → List ℕ
utc_text t = civil_text (local_time t) ++ 90 ∷ []

-- a count of seconds from 1970-01-01T00:00:00 UT; or that date and time, of an instant that has one
abbrev pub instant_text : Style → ℤ → List ℕ
instant_text styles.Count t = signed_decimal t
instant_text styles.Iso t = if has_date t then utc_text t else signed_decimal t
