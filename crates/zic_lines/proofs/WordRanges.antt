-- In what range the values lie that fields say.
use Rattle.std.proofs.Common.{nat_eq, subst, ◌≡◌, ◌≤◌, ℕ, zero, suc, ◌+◌, Bool, true, false, cond, nat_le, List, drop, Option, Some, None, refl, sym, arith}
use Rattle.std.specs.Prelude.{pos, neg_ℤ, option_map, option_and_then, IfSome, ◌&&◌, ◌==◌, codes}
use Rattle.std.specs.Int.{IsInRange}
use Rattle.std.proofs.lemmas.Bool.{leb-true, and_parts}
use Rattle.std.specs.List.{starts_with}
use Rattle.std.specs.Str.{str_to_ascii_lowercase}
use Rattle.std.proofs.lemmas.Option.{IfSome_then}
use Rattle.zic_calendar.specs.Weekday.{IsWeekday}
use Rattle.zic_calendar.specs.Calendar.{is_leap_year, month_length}
use Rattle.zic_calendar.specs.declared.day_form.On.{On}
use Rattle.zic_calendar.specs.declared.day_form.On.TheVariants.{Day, Last, After, Before}
use Rattle.zic_lines.specs.declared.clock.ClockForm.{ClockForm}
use Rattle.zic_lines.specs.declared.clock.TheConstants.{LATEST_TIME}
use Rattle.zic_lines.specs.declared.time.TheConstants.{MAX_DIGITS, GREATEST_OFFSET}
use Rattle.zic_lines.specs.declared.year.TheConstants.{FIRST_YEAR, LAST_YEAR}
use Rattle.zic_lines.specs.Parts.{split_at_most_once}
use Rattle.zic_lines.specs.Dash.{is_dash}
use Rattle.zic_base.specs.Number.{number, is_negative}
use Rattle.zic_lines.specs.Time.{magnitude, nearest_second, whole_seconds, signed_seconds, offset_of, IsWithin}
use Rattle.zic_lines.specs.Clock.{clock_time_of, time_by, clock_suffix, last_byte, without_last}
use Rattle.zic_lines.specs.Saving.{saving_of, saving_by, daylight_suffix}
use Rattle.zic_lines.specs.Year.{year_of, last_year_of, is_only, is_maximum, IsYear}
use Rattle.zic_lines.specs.Month.{month_of, month_words, IsMonth}
use Rattle.zic_lines.specs.Word.{only_word}
use Rattle.zic_lines.specs.DayForm.{day_form_of, day_within, last_weekday, weekday_of, weekday_words, weekday_and_day, text_after, or_else, FitsEachYear}
use Rattle.zic_lines.proofs.OnlyWords.{place_within}

-- ---- what holds of a value that may be missing

passed : {X : Type 0} (test : Bool) (x : X) (P : X → Type 0) → (test ≡ true → P x) → IfSome (cond test (Some x) None) P
passed true x P holds = holds refl
passed false x P holds = tt

either : {X : Type 0} (test : Bool) (one other : Option X) (P : X → Type 0) → IfSome one P → IfSome other P → IfSome (cond test one other) P
either true one other P if_one if_other = if_one
either false one other P if_one if_other = if_other

mapped : {X Y : Type 0} (f : X → Y) (o : Option X) (P : Y → Type 0) → IfSome o (λ x. P (f x)) → IfSome (option_map f o) P
mapped f None P holds = holds
mapped f (Some x) P holds = holds

bound : {X Y : Type 0} (f : X → Option Y) (o : Option X) (Q : X → Type 0) (P : Y → Type 0) → IfSome o Q → ((x : X) → Q x → IfSome (f x) P) → IfSome (option_and_then f o) P
bound f None Q P some then = tt
bound f (Some x) Q P some then = then x some

any : {X : Type 0} (o : Option X) → IfSome o (λ x. Unit {0})
any None = tt
any (Some x) = tt

first_of : {X : Type 0} (o other : Option X) (P : X → Type 0) → IfSome o P → IfSome other P → IfSome (or_else o other) P
first_of None other P if_one if_other = if_other
first_of (Some x) other P if_one if_other = if_one

-- ---- times

whole_within : (limit : ℕ) (text : List ℕ) → IfSome (whole_seconds limit text) (λ s. s ≤ limit)
unfolding whole_seconds
whole_within limit text =
    bound (λ time. cond (nat_le time limit) (Some time) None) (option_map nearest_second (magnitude text)) (λ time. Unit {0}) (λ s. s ≤ limit) (any (option_map nearest_second (magnitude text)))
    (λ time _. passed (nat_le time limit) time (λ s. s ≤ limit) (λ e. leb-true time limit e))

negative : (limit n : ℕ) → n ≤ limit → IsWithin limit (neg_ℤ (pos n))
negative limit zero le = le
negative limit (suc n) le = le

below : (limit : ℕ) (o : Option ℕ) → IfSome o (λ s. s ≤ limit) → IfSome (option_map (λ s. neg_ℤ (pos s)) o) (IsWithin limit)
below limit None le = le
below limit (Some n) le = negative limit n le

-- a time is within its limit
pub signed_within : (limit : ℕ) (text : List ℕ) → IfSome (signed_seconds limit text) (IsWithin limit)
unfolding signed_seconds
signed_within limit text =
    either (is_negative text) _ _ (IsWithin limit) (below limit (whole_seconds limit (drop 1 text)) (whole_within limit (drop 1 text)))
    (mapped pos (whole_seconds limit text) (IsWithin limit) (whole_within limit text))

pub offset_within : (field : List ℕ) → IfSome (offset_of field) (IsWithin GREATEST_OFFSET)
unfolding offset_of
offset_within field = either (is_dash field) (Some (pos 0)) (signed_seconds GREATEST_OFFSET field) (IsWithin GREATEST_OFFSET) (omega arith) (signed_within GREATEST_OFFSET field)

pub clock_time_within : (field : List ℕ) → IfSome (clock_time_of field) (λ time. IsWithin LATEST_TIME time.seconds)
unfolding clock_time_of
clock_time_within field = either (is_dash field) _ (time_by (clock_suffix (last_byte field)) field) (λ time. IsWithin LATEST_TIME time.seconds) (omega arith) (by_suffix (clock_suffix (last_byte field)))
  where
    by_suffix : (suffix : Option ClockForm) → IfSome (time_by suffix field) (λ time. IsWithin LATEST_TIME time.seconds)
    by_suffix None = mapped _ (signed_seconds LATEST_TIME field) (λ time. IsWithin LATEST_TIME time.seconds) (signed_within LATEST_TIME field)
    by_suffix (Some form) = mapped _ (signed_seconds LATEST_TIME (without_last field)) (λ time. IsWithin LATEST_TIME time.seconds) (signed_within LATEST_TIME (without_last field))

pub saving_within : (field : List ℕ) → IfSome (saving_of field) (λ saving. IsWithin GREATEST_OFFSET saving.seconds)
unfolding saving_of
saving_within field = either (is_dash field) _ (saving_by (daylight_suffix (last_byte field)) field) (λ saving. IsWithin GREATEST_OFFSET saving.seconds) (omega arith) (by_suffix (daylight_suffix (last_byte field)))
  where
    by_suffix : (suffix : Option Bool) → IfSome (saving_by suffix field) (λ saving. IsWithin GREATEST_OFFSET saving.seconds)
    by_suffix None = mapped _ (signed_seconds GREATEST_OFFSET field) (λ saving. IsWithin GREATEST_OFFSET saving.seconds) (signed_within GREATEST_OFFSET field)
    by_suffix (Some daylight) = mapped _ (signed_seconds GREATEST_OFFSET (without_last field)) (λ saving. IsWithin GREATEST_OFFSET saving.seconds) (signed_within GREATEST_OFFSET (without_last field))

-- ---- years, months and days

-- a number that passes both tests
between : (low high : ℕ) (o : Option ℕ) → IfSome (option_and_then (λ n. cond (nat_le low n && nat_le n high) (Some n) None) o) (IsInRange low high)
between low high o =
    bound (λ n. cond (nat_le low n && nat_le n high) (Some n) None) o (λ n. Unit {0}) (IsInRange low high) (any o)
    (λ n _. passed (nat_le low n && nat_le n high) n (IsInRange low high) (λ e. let both = and_parts (nat_le low n) (nat_le n high) e in (leb-true low n both.0, leb-true n high both.1)))

pub year_within : (field : List ℕ) → IfSome (year_of field) IsYear
unfolding year_of
year_within field = between FIRST_YEAR LAST_YEAR (number MAX_DIGITS field)

-- the last year is one that a line may name, where the first is
pub last_year_within : (first : ℕ) (field : List ℕ) → IsYear first → IfSome (last_year_of first field) (λ last. IfSome last IsYear)
unfolding last_year_of
last_year_within first field is_year =
    either (is_only field) _ _ (λ last. IfSome last IsYear) is_year
    (either (is_maximum field) _ _ (λ last. IfSome last IsYear) tt (mapped _ (year_of field) (λ last. IfSome last IsYear) (year_within field)))

pub month_within : (field : List ℕ) → IfSome (month_of field) IsMonth
unfolding month_of
month_within field =
    mapped (λ place. place + 1) (only_word month_words field) IsMonth
    (IfSome_then (only_word month_words field) (place_within month_words field) (λ place lt. (omega arith, omega (arith, lt))))

weekday_within : (field : List ℕ) → IfSome (weekday_of field) IsWeekday
unfolding weekday_of
weekday_within field = IfSome_then (only_word weekday_words field) (place_within weekday_words field) (λ place lt. omega (arith, lt))

last_within : (field : List ℕ) → IfSome (last_weekday field) IsWeekday
unfolding last_weekday
last_within field = either (starts_with nat_eq (str_to_ascii_lowercase field) (codes "last")) (weekday_of (drop 4 field)) None IsWeekday (weekday_within (drop 4 field)) tt

days_within : (longest : ℕ) (field : List ℕ) → IfSome (day_within longest field) (IsInRange 1 longest)
unfolding day_within
days_within longest field = between 1 longest (number 2 field)

abbrev IsDayBy : ℕ → ℕ × ℕ → Type 0
IsDayBy longest both = IsWeekday both.0 × IsInRange 1 longest both.1

day_by : (longest weekday : ℕ) (text : List ℕ) → IsWeekday weekday → IfSome (option_and_then (λ day. Some (weekday, day)) (day_within longest text)) (IsDayBy longest)
day_by longest weekday text is_weekday =
    bound (λ day. Some (weekday, day)) (day_within longest text) (IsInRange 1 longest) (IsDayBy longest) (days_within longest text) (λ day within. (is_weekday, within))

weekday_and_day_within : (sign longest : ℕ) (field : List ℕ) → IfSome (weekday_and_day sign longest field) (IsDayBy longest)
unfolding weekday_and_day
weekday_and_day_within sign longest field =
    bound _ (split_at_most_once field sign) (λ parts. Unit {0}) (IsDayBy longest) (any (split_at_most_once field sign))
    (λ parts _. bound _ parts.1 (λ rest. Unit {0}) (IsDayBy longest) (any parts.1)
    (λ rest _. bound _ (text_after 61 rest) (λ text. Unit {0}) (IsDayBy longest) (any (text_after 61 rest))
    (λ text _. bound _ (weekday_of parts.0) IsWeekday (IsDayBy longest) (weekday_within parts.0) (λ weekday is_weekday. day_by longest weekday text is_weekday))))

common_shorter : (is_leap february : Bool) (days : ℕ) → cond february 28 days ≤ cond february (cond is_leap 29 28) days
common_shorter true true days = omega arith
common_shorter false true days = omega arith
common_shorter is_leap false days = omega arith

-- a day of the month is one in each year that is meant
each_year : (one_leap_year : Bool) (month day : ℕ) → IsInRange 1 (month_length one_leap_year month) day → FitsEachYear one_leap_year month (Day day)
each_year true month day within year leap = let P : Bool → Type 0 = λ is_leap. IsInRange 1 (month_length is_leap month) day in subst P (sym (leap refl)) within
each_year false month day within year leap =
    let le : month_length false month ≤ month_length (is_leap_year year) month = common_shorter (is_leap_year year) (month == 2) _ in
    (within.0, omega (arith, within.1, le))

-- the form fits the month in each year that is meant
pub day_form_fits : (one_leap_year : Bool) (month : ℕ) (field : List ℕ) → IfSome (day_form_of one_leap_year month field) (FitsEachYear one_leap_year month)
unfolding day_form_of
day_form_fits one_leap_year month field =
    let fits : On → Type 0 = FitsEachYear one_leap_year month in
    let last = last_weekday field in
    let after = weekday_and_day 62 (month_length false month) field in
    let before = weekday_and_day 60 (month_length true month) field in
    let day = day_within (month_length one_leap_year month) field in
    first_of (option_map Last last) _ fits (mapped Last last fits (IfSome_then last (last_within field) (λ weekday is year leap. is)))
    (first_of (option_map (λ both. After both.0 both.1) after) _ fits (mapped (λ both. After both.0 both.1) after fits (IfSome_then after (weekday_and_day_within 62 (month_length false month) field) (λ both is year leap. is)))
    (first_of (option_map (λ both. Before both.0 both.1) before) _ fits (mapped (λ both. Before both.0 both.1) before fits (IfSome_then before (weekday_and_day_within 60 (month_length true month) field) (λ both is year leap. is)))
    (mapped Day day fits (IfSome_then day (days_within (month_length one_leap_year month) field) (λ d within. each_year one_leap_year month d within)))))
