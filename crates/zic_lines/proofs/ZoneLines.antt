-- What the fields of Zone and continuation lines say, where no check fails.
use Rattle.std.proofs.Common.{◌≡◌, ◌≤◌, ◌+◌, leb, ℕ, List, [], ◌∷◌, length, Option, Some, None, Result, Ok, Err, true, false, refl, sym, ap, subst, ◌∙◌, arith}
use Rattle.std.proofs.lemmas.Bool.{le-leb, leb-true}
use Rattle.zic_base.specs.Check.{check, first_failed}
use Rattle.zic_base.specs.declared.fault.Place.{Place}
use Rattle.zic_base.proofs.Checks.{EachPasses, passes, each_passes}
use Rattle.zic_base.specs.declared.fault.Kind.TheVariants.{Name}
use Rattle.zic_calendar.specs.Calendar.{is_leap_year}
use Rattle.zic_calendar.specs.declared.day_form.On.{On}
use Rattle.zic_lines.specs.Year.{year_of}
use Rattle.zic_lines.specs.Month.{month_of}
use Rattle.zic_lines.specs.DayForm.{day_form_of}
use Rattle.zic_lines.specs.Clock.{clock_time_of}
use Rattle.zic_lines.specs.declared.clock.ClockTime.{ClockTime}
use Rattle.zic_lines.specs.Name.{is_name}
use Rattle.zic_lines.specs.declared.entry.FieldFault.TheVariants.{Count, At}
use Rattle.zic_lines.specs.declared.keyword.Keyword.TheVariants as keywords
use Rattle.zic_lines.specs.Keyword.{keyword_of}
use Rattle.zic_lines.specs.Time.{offset_of}
use Rattle.zic_lines.specs.declared.until.Until.{Until}
use Rattle.zic_lines.specs.declared.zone_line.ZoneLine.{ZoneLine}
use Rattle.zic_lines.specs.RulesField.{rules_of}
use Rattle.zic_lines.specs.Format.{format_of}
use Rattle.zic_lines.specs.Until.{until_of, until_at}
use Rattle.zic_lines.specs.ZoneLine.{IsZoneLine, IsContinuationLine}
use Rattle.zic_lines.specs.Checks.{until_day_of, date_checks, until_checks, zone_part_checks, zone_checks, continuation_checks}
use Rattle.std.specs.Prelude.{IfOk, ℤ, pos, is_some, ◌<◌, slice_index_or, option_map, codes}
use Rattle.zic_lines.specs.declared.rules.Rules.{Rules}
use Rattle.zic_lines.specs.declared.format.Format.{Format}
use Rattle.zic_lines.specs.declared.entry.Entry.{Entry}
use Rattle.zic_lines.specs.code.Entries.{IsOtherLine, IsZoneOf}
use Rattle.zic_lines.specs.code.LineParts.{shown_checks}
use Rattle.zic_lines.proofs.Parsed.{unchanged}
use Rattle.zic_lines.proofs.Options.{there, bound}

-- ---- the fields of an UNTIL, and what stands for those that are missing

until_by : (texts : List (List ℕ)) → 0 < length texts → length texts ≤ 4
    → option_map (λ until. Some until) (until_at (slice_index_or texts 0 []) (slice_index_or texts 1 (codes "Jan")) (slice_index_or texts 2 (codes "1")) (slice_index_or texts 3 (codes "-"))) ≡ until_of texts
unfolding until_of
until_by [] some few = absurd (omega arith)
until_by (a ∷ []) some few = refl
until_by (a ∷ b ∷ []) some few = refl
until_by (a ∷ b ∷ c ∷ []) some few = refl
until_by (a ∷ b ∷ c ∷ d ∷ []) some few = refl
until_by (a ∷ b ∷ c ∷ d ∷ e ∷ others) some few = absurd (omega arith)

-- an UNTIL has at most four fields
few_fields : (until : List (List ℕ)) (o : Option Until) → until_of until ≡ Some o → length until ≤ 4
unfolding until_of
few_fields [] o e = omega arith
few_fields (a ∷ []) o e = omega arith
few_fields (a ∷ b ∷ []) o e = omega arith
few_fields (a ∷ b ∷ c ∷ []) o e = omega arith
few_fields (a ∷ b ∷ c ∷ d ∷ []) o e = omega arith
few_fields (a ∷ b ∷ c ∷ d ∷ f ∷ others) o e = absurd cc

-- the day of this year and this month
day_is : (year month day : List ℕ) (in_year in_month : ℕ) (on : On) → year_of year ≡ Some in_year → month_of month ≡ Some in_month → until_day_of year month day ≡ Some on → day_form_of (is_leap_year (pos in_year)) in_month day ≡ Some on
day_is year month day in_year in_month on y m e = rw (y, m) at e

module _ (year month day time : List ℕ) (y m : ℕ) (on : On) (clock : ClockTime) (in_year : year_of year ≡ Some y) (in_month : month_of month ≡ Some m) (on_day : day_form_of (is_leap_year (pos y)) m day ≡ Some on) (at_time : clock_time_of time ≡ Some clock) where
  date_is : until_at year month day time ≡ Some (record { year = y; moment = record { month = m; on = on; at = clock } })
  unfolding until_at
  date_is = rw (in_year, in_month, on_day, at_time) refl

  no_part_fails : (first : ℕ) → first_failed (date_checks first year month day time) ≡ None
  no_part_fails first = rw (in_year, in_month, on_day, at_time) refl

-- four fields that fail no check say an UNTIL
date_said : (first : ℕ) (year month day time : List ℕ) → EachPasses (date_checks first year month day time) → (until : Until) × (until_at year month day time ≡ Some until)
date_said first year month day time p =
    let y = there (year_of year) p.0 in
    let m = there (month_of month) p.1.0 in
    let on = there (until_day_of year month day) p.1.1.0 in
    let clock = there (clock_time_of time) p.1.1.1.0 in
    (record { year = y.0; moment = record { month = m.0; on = on.0; at = clock.0 } }, date_is year month day time y.0 m.0 on.0 clock.0 y.1 m.1 (day_is year month day y.0 m.0 on.0 y.1 m.1 on.1) clock.1)

date_passes : (first : ℕ) (year month day time : List ℕ) (until : Until) → until_at year month day time ≡ Some until → first_failed (date_checks first year month day time) ≡ None
unfolding until_at
date_passes first year month day time until e =
    let y = bound (year_of year) _ until e in
    let m = bound (month_of month) _ until y.2 in
    let on = bound (day_form_of (is_leap_year (pos y.0)) m.0 day) _ until m.2 in
    let clock = bound (clock_time_of time) _ until on.2 in
    no_part_fails year month day time y.0 m.0 on.0 clock.0 y.1 m.1 on.1 clock.1 first

-- the fields of an UNTIL that fail no check say one, or none
until_said : (first : ℕ) (texts : List (List ℕ)) → length texts ≤ 4 → EachPasses (until_checks first texts) → (until : Option Until) × (until_of texts ≡ Some until)
unfolding until_of
until_said first [] few p = (None, refl)
until_said first (year ∷ others) few p =
    let said = date_said first year (slice_index_or others 0 (codes "Jan")) (slice_index_or others 1 (codes "1")) (slice_index_or others 2 (codes "-")) p in
    (Some said.0, sym (until_by (year ∷ others) (omega arith) few) ∙ ap (option_map (λ until. Some until)) said.1)

mapped : (made : Option Until) (until : Option Until) → option_map (λ u. Some u) made ≡ Some until → (u : Until) × (made ≡ Some u)
mapped None until e = absurd cc
mapped (Some u) until e = (u, refl)

until_passes : (first : ℕ) (texts : List (List ℕ)) (until : Option Until) → until_of texts ≡ Some until → first_failed (until_checks first texts) ≡ None
until_passes first [] until e = refl
until_passes first (year ∷ others) until e =
    let made = mapped _ until (until_by (year ∷ others) (omega arith) (few_fields (year ∷ others) until e) ∙ e) in
    date_passes first year (slice_index_or others 0 (codes "Jan")) (slice_index_or others 1 (codes "1")) (slice_index_or others 2 (codes "-")) made.0 made.1

-- `STDOFF RULES FORMAT` and the fields of an UNTIL that fail no check say a line of a zone
part_said : (place : Place) (first : ℕ) (stdoff rules format : List ℕ) (until : List (List ℕ)) → leb (length until) 4 ≡ true → first_failed (zone_part_checks first stdoff rules format until) ≡ None → (line : ZoneLine) × IsContinuationLine place (stdoff ∷ rules ∷ format ∷ until) line
part_said place first stdoff rules format until few e =
    let offset = each_passes (zone_part_checks first stdoff rules format until) e in
    let keeps = offset.1 in
    let abbreviates = keeps.1 in
    let seconds = there (offset_of stdoff) offset.0 in
    let saving = there (rules_of rules) keeps.0 in
    let form = there (format_of format) abbreviates.0 in
    let last = until_said (first + 3) until (leb-true (length until) 4 few) abbreviates.1 in
    let line : ZoneLine = record { place = place; offset = seconds.0; rules = saving.0; format = form.0; until = last.0 } in
    let said : IsContinuationLine place (stdoff ∷ rules ∷ format ∷ until) line = record {
      stdoff = stdoff;
      rules = rules;
      format = format;
      until = until;
      are = refl;
      offset = seconds.1;
      keeps = saving.1;
      abbreviates = form.1;
      ends = last.1;
      located = refl;
    } in
    (line, said)

module _ (first : ℕ) (stdoff rules format : List ℕ) (until : List (List ℕ)) {seconds : ℤ} (offset : offset_of stdoff ≡ Some seconds) (keeps : is_some (rules_of rules) ≡ true) where
  -- the checks of FORMAT and UNTIL decide
  pub shown_decides : first_failed (zone_part_checks first stdoff rules format until) ≡ first_failed (shown_checks first format until)
  shown_decides = rw (offset, keeps) refl

  pub part_passes : {o : Option Until} → is_some (format_of format) ≡ true → until_of until ≡ Some o → first_failed (zone_part_checks first stdoff rules format until) ≡ None
  part_passes {o} shows ends = rw (offset, keeps, shows) (until_passes (first + 3) until o ends)

-- the fields of a continuation line that fails no check say one
pub continuation_said : (place : Place) (fields : List (List ℕ)) → first_failed (continuation_checks fields) ≡ None → (line : ZoneLine) × IsContinuationLine place fields line
continuation_said place (stdoff ∷ rules ∷ format ∷ until) e =
    let few = passes (leb (length until) 4) Count (zone_part_checks 0 stdoff rules format until) e in
    part_said place 0 stdoff rules format until few.0 few.1
continuation_said place fields e = absurd cc

-- the fields of a Zone line that fails no check say a zone
pub zone_said : (place : Place) (field : List ℕ) (fields : List (List ℕ)) → keyword_of field ≡ Some keywords.Zone → first_failed (zone_checks (field ∷ fields)) ≡ None
    → (name : List ℕ) × (line : ZoneLine) × IsZoneLine place (field ∷ fields) name line
zone_said place keyword (name ∷ stdoff ∷ rules ∷ format ∷ until) begins e =
    let few = passes (leb (length until) 4) Count (check (is_name name) (At Name 1) ∷ zone_part_checks 2 stdoff rules format until) e in
    let named = passes (is_name name) (At Name 1) (zone_part_checks 2 stdoff rules format until) few.1 in
    let line = part_said place 2 stdoff rules format until few.0 named.1 in
    let said : IsZoneLine place (keyword ∷ name ∷ stdoff ∷ rules ∷ format ∷ until) name line.0 = record {
      keyword = keyword;
      others = stdoff ∷ rules ∷ format ∷ until;
      are = refl;
      is_zone = begins;
      named = named.0;
      says = line.1;
    } in
    (name, line.0, said)
zone_said place keyword fields begins e = absurd cc

-- a line of a zone that is said fails no check
pub continuation_passes : (place : Place) (fields : List (List ℕ)) (line : ZoneLine) → IsContinuationLine place fields line → first_failed (continuation_checks fields) ≡ None
continuation_passes place fields line is =
    ap (λ (fs : List (List ℕ)). first_failed (continuation_checks fs)) is.are
    ∙ rw (le-leb (length is.until) 4 (few_fields is.until line.until is.ends), is.offset, is.keeps, is.abbreviates) (until_passes 3 is.until line.until is.ends)

-- a zone that is said fails no check
pub zone_passes : (place : Place) (fields : List (List ℕ)) (name : List ℕ) (line : ZoneLine) → IsZoneLine place fields name line → first_failed (zone_checks fields) ≡ None
zone_passes place fields name line is =
    ap (λ (fs : List (List ℕ)). first_failed (zone_checks fs)) (is.are ∙ ap (λ (others : List (List ℕ)). is.keyword ∷ name ∷ others) is.says.are)
    ∙ rw (le-leb (length is.says.until) 4 (few_fields is.says.until line.until is.says.ends), is.named, is.says.offset, is.says.keeps, is.says.abbreviates) (until_passes 5 is.says.until line.until is.says.ends)

-- ---- fields say one line

lines_same : (p p' : Place) (o o' : ℤ) (r r' : Rules) (f f' : Format) (u u' : Option Until) → p ≡ p' → o ≡ o' → r ≡ r' → f ≡ f' → u ≡ u'
    → ◌≡◌ {A = ZoneLine} (record { place = p; offset = o; rules = r; format = f; until = u }) (record { place = p'; offset = o'; rules = r'; format = f'; until = u' })
lines_same p p' o o' r r' f f' u u' a b c d e = rw (a, b, c, d, e) refl

pub continuation_once : (place : Place) (texts : List (List ℕ)) (line other : ZoneLine) → IsContinuationLine place texts line → IsContinuationLine place texts other → line ≡ other
continuation_once place texts line other is also = lines_same line.place other.place line.offset other.offset line.rules other.rules line.format other.format line.until other.until (cc) (cc) (cc) (cc) (cc)

-- ---- what the code makes of the fields of a Zone line

module _ {texts : List (List ℕ)} {keyword name stdoff rules format : List ℕ} {until : List (List ℕ)} (are : texts ≡ keyword ∷ name ∷ stdoff ∷ rules ∷ format ∷ until) (few : length until ≤ 4) where
  pub no_zone_name : is_name name ≡ false → first_failed (zone_checks texts) ≡ Some (At Name 1)
  no_zone_name bad = ap (λ (ts : List (List ℕ)). first_failed (zone_checks ts)) are ∙ rw (le-leb (length until) 4 few, bad) refl

  pub part_decides : is_name name ≡ true → first_failed (zone_checks texts) ≡ first_failed (zone_part_checks 2 stdoff rules format until)
  part_decides named = ap (λ (ts : List (List ℕ)). first_failed (zone_checks ts)) are ∙ rw (le-leb (length until) 4 few, named) refl

  pub zone_made : {E : Type 0} (place : Place) (made : Result Entry E) (made_name : Result (List ℕ) E) (made_line : Result ZoneLine E) → keyword_of keyword ≡ Some keywords.Zone → is_name name ≡ true
      → IfOk made_name (λ n. n ≡ name) → IfOk made_line (IsContinuationLine place (stdoff ∷ rules ∷ format ∷ until))
      → IfOk made (IsZoneOf made_name made_line) → IfOk made (IsOtherLine place texts)
  zone_made {E = E} place (Ok entry) made_name made_line begins named n is zone =
      let same : zone.name ≡ name = unchanged made_name name zone.name zone.named n in
      let said : IsZoneLine place texts zone.name zone.line = record {
        keyword = keyword;
        others = stdoff ∷ rules ∷ format ∷ until;
        are = are ∙ rw same refl;
        is_zone = begins;
        named = rw same named;
        says = subst (λ (l : Result ZoneLine E). IfOk l (IsContinuationLine place (stdoff ∷ rules ∷ format ∷ until))) zone.lined is;
      } in
      subst (IsOtherLine place texts) (sym zone.is) (said, refl)
  zone_made {E = E} place (Err e) made_name made_line begins named n is zone = tt

-- ---- what the code makes of the fields of a continuation line

pub part_continues : {texts : List (List ℕ)} {stdoff rules format : List ℕ} {until : List (List ℕ)} → texts ≡ stdoff ∷ rules ∷ format ∷ until → length until ≤ 4
    → first_failed (continuation_checks texts) ≡ first_failed (zone_part_checks 0 stdoff rules format until)
part_continues {until = until} are few = ap (λ (ts : List (List ℕ)). first_failed (continuation_checks ts)) are ∙ rw (le-leb (length until) 4 few) refl

-- ---- the fields of an UNTIL

pub until_made : (texts : List (List ℕ)) (year month day time : List ℕ) (until : Option Until) → 0 < length texts → length texts ≤ 4
    → year ≡ slice_index_or texts 0 [] → month ≡ slice_index_or texts 1 (codes "Jan") → day ≡ slice_index_or texts 2 (codes "1") → time ≡ slice_index_or texts 3 (codes "-")
    → until ≡ until_at year month day time → option_map (λ until. Some until) until ≡ until_of texts
until_made texts year month day time until some few y m d t e = rw (e, y, m, d, t) (until_by texts some few)

-- the checks of the fields that are there decide
pub until_fails : (first : ℕ) (texts : List (List ℕ)) (year month day time : List ℕ) → 0 < length texts
    → year ≡ slice_index_or texts 0 [] → month ≡ slice_index_or texts 1 (codes "Jan") → day ≡ slice_index_or texts 2 (codes "1") → time ≡ slice_index_or texts 3 (codes "-")
    → first_failed (until_checks first texts) ≡ first_failed (date_checks first year month day time)
until_fails first [] year month day time some y m d t = absurd (omega arith)
until_fails first (text ∷ texts) year month day time some y m d t = rw (y, m, d, t) refl

pub until_of_none : (texts : List (List ℕ)) → length texts ≡ 0 → until_of texts ≡ Some None
unfolding until_of
until_of_none [] none = refl
until_of_none (text ∷ texts) none = absurd (omega arith)
