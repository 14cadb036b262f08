-- What a line says is sound.
use Rattle.std.proofs.Common.{◌≡◌, ℕ, Bool, true, false, cond, not, List, [], ◌∷◌, Option, Some, None, refl, sym, ap, subst, ◌∙◌, arith}
use Rattle.std.specs.Prelude.{ℤ, pos, ◌≤ℤ◌, ◌==◌, IfSome, option_map, codes}
use Rattle.std.specs.Int.{IsInRange}
use Rattle.std.proofs.lemmas.Bool.{ltb-false, and_parts, eqb-true, not-true, not-false}
use Rattle.std.proofs.lemmas.Int.{ints}
use Rattle.zic_base.specs.declared.fault.Place.{Place}
use Rattle.zic_calendar.specs.Calendar.{is_leap_year}
use Rattle.zic_calendar.specs.DayForm.{FormFits}
use Rattle.zic_lines.specs.declared.time.Saving.{Saving}
use Rattle.zic_lines.specs.declared.clock.TheConstants.{LATEST_TIME}
use Rattle.zic_lines.specs.declared.year.TheConstants.{LAST_YEAR}
use Rattle.zic_lines.specs.Dash.{is_dash}
use Rattle.zic_lines.specs.Letter.{is_letter, without_dash, letter_of}
use Rattle.zic_lines.specs.SetName.{is_set_name}
use Rattle.zic_lines.specs.Time.{IsWithin}
use Rattle.zic_lines.specs.Clock.{clock_time_of}
use Rattle.zic_lines.specs.Saving.{saving_of}
use Rattle.zic_lines.specs.Year.{IsYear, year_of, ends_before, is_one_leap_year}
use Rattle.zic_lines.specs.Month.{IsMonth, month_of}
use Rattle.zic_lines.specs.DayForm.{day_form_of}
use Rattle.zic_lines.specs.declared.rule_line.Rule.{Rule}
use Rattle.zic_lines.specs.declared.rules.Rules.{Rules}
use Rattle.zic_lines.specs.declared.rules.Rules.TheVariants.{Standard, Amount, Set}
use Rattle.zic_lines.specs.declared.until.Until.{Until}
use Rattle.zic_lines.specs.declared.zone_line.ZoneLine.{ZoneLine}
use Rattle.zic_lines.specs.RuleLine.{IsRuleLine}
use Rattle.zic_lines.specs.ZoneLine.{IsContinuationLine}
use Rattle.zic_lines.specs.RulesField.{rules_of, begins_amount}
use Rattle.zic_lines.specs.Until.{until_at, until_of}
use Rattle.zic_lines.proofs.Options.{bound}
use Rattle.zic_source.specs.Sound.{IsWithinDay, IsSoundRule, IsSoundUntil, AreSoundRules, IsSoundLine}
use Rattle.zic_source.specs.Whole.{is_unknown}
use Rattle.zic_lines.proofs.WordRanges.{offset_within, clock_time_within, saving_within, year_within, last_year_within, month_within, day_form_fits}

-- what holds of a value, where there is one
holds : {X : Type 0} (P : X → Type 0) (o : Option X) (x : X) → IfSome o P → o ≡ Some x → P x
holds P o x h e = subst (λ (v : Option _). IfSome v P) e h

-- ---- rules

in_range : (first : ℕ) (last : Option ℕ) → IfSome last IsYear → not (ends_before last first) ≡ true → IfSome last (λ l. IsInRange first LAST_YEAR l)
in_range first None within order = tt
in_range first (Some last) within order = (ltb-false last first (not-true _ order), within.1)

-- a rule of one leap year holds in leap years only
leap_only : (first : ℕ) (last : Option ℕ) (year : ℤ) → is_one_leap_year first last ≡ true → pos first ≤ℤ year → IfSome last (λ l. year ≤ℤ pos l) → is_leap_year year ≡ true
leap_only first None year e from to = absurd cc
leap_only first (Some last) year e from to =
    let both = and_parts (first == last) (is_leap_year (pos first)) e in
    let one : first ≡ last = eqb-true first last both.0 in
    let same : pos first ≡ year = omega (arith, ints) in
    ap is_leap_year (sym same) ∙ both.1

letter_is : (b : Bool) (text octets : List ℕ) → is_letter text ≡ b → cond b (Some text) None ≡ Some octets → is_letter octets ≡ true
letter_is true text octets is e = let same : text ≡ octets = cc in subst (λ (t : List ℕ). is_letter t ≡ true) same is
letter_is false text octets is e = absurd cc

letter_sound : (field octets : List ℕ) → letter_of field ≡ Some octets → is_letter octets ≡ true
unfolding letter_of
letter_sound field octets e = letter_is (is_letter (without_dash field)) (without_dash field) octets refl e

pub rule_sound : (place : Place) (fields : List (List ℕ)) (rule : Rule) → IsRuleLine place fields rule → IsSoundRule rule
rule_sound place fields rule is =
    let first = holds IsYear _ _ (year_within is.from) is.begins in
    record {
      name = is.named;
      first = first;
      last = in_range rule.first rule.last (holds (λ (last : Option ℕ). IfSome last IsYear) _ _ (last_year_within rule.first is.to first) is.ends) is.in_order;
      moment = record {
        month = holds IsMonth _ _ (month_within is.month) is.in_month;
        at = holds (λ time. IsWithin LATEST_TIME time.seconds) _ _ (clock_time_within is.time) is.at_time;
      };
      fits = λ year in_year. holds (λ form. (y : ℤ) → (is_one_leap_year rule.first rule.last ≡ true → is_leap_year y ≡ true) → FormFits y rule.moment.month form) _ _
          (day_form_fits (is_one_leap_year rule.first rule.last) rule.moment.month is.day) is.on_day year (λ e. leap_only rule.first rule.last year e in_year.begun in_year.not_over);
      saving = holds (λ saving. IsWithinDay saving.seconds) _ _ (saving_within is.save) is.saves;
      letter = letter_sound is.letter rule.letter is.abbreviates;
    }

-- ---- lines of zones

until_sound : (year month day time : List ℕ) (until : Until) → until_at year month day time ≡ Some until → IsSoundUntil until
unfolding until_at
until_sound year month day time until e =
    let y = bound (year_of year) _ until e in
    let m = bound (month_of month) _ until y.2 in
    let d = bound (day_form_of (is_leap_year (pos y.0)) m.0 day) _ until m.2 in
    let t = bound (clock_time_of time) _ until d.2 in
    let is = t.2 in
    let same : record { year = y.0; moment = record { month = m.0; on = d.0; at = t.0 } } ≡ until = cc in
    subst IsSoundUntil same (record {
      year = holds IsYear _ _ (year_within year) y.1;
      moment = record {
        month = holds IsMonth _ _ (month_within month) m.1;
        at = holds (λ at. IsWithin LATEST_TIME at.seconds) _ _ (clock_time_within time) t.1;
      };
      fits = holds (λ form. (v : ℤ) → (is_leap_year (pos y.0) ≡ true → is_leap_year v ≡ true) → FormFits v m.0 form) _ _ (day_form_fits (is_leap_year (pos y.0)) m.0 day) d.1 (pos y.0) (λ leap. leap);
    })

some_until : (year month day time : List ℕ) (at : Option Until) (until : Option Until) → until_at year month day time ≡ at → option_map (λ u. Some u) at ≡ Some until → IfSome until IsSoundUntil
some_until year month day time None until is e = absurd cc
some_until year month day time (Some u) until is e = let same : Some u ≡ until = cc in subst (λ (o : Option Until). IfSome o IsSoundUntil) same (until_sound year month day time u is)

until_of_sound : (fields : List (List ℕ)) (until : Option Until) → until_of fields ≡ Some until → IfSome until IsSoundUntil
unfolding until_of
until_of_sound [] until e = let same : None ≡ until = cc in subst (λ (o : Option Until). IfSome o IsSoundUntil) same tt
until_of_sound (year ∷ []) until e = some_until year (codes "Jan") (codes "1") (codes "-") _ until refl e
until_of_sound (year ∷ month ∷ []) until e = some_until year month (codes "1") (codes "-") _ until refl e
until_of_sound (year ∷ month ∷ day ∷ []) until e = some_until year month day (codes "-") _ until refl e
until_of_sound (year ∷ month ∷ day ∷ time ∷ []) until e = some_until year month day time _ until refl e
until_of_sound (year ∷ month ∷ day ∷ time ∷ more ∷ fields) until e = absurd cc

amount_sound : (dash amount set : Bool) (field : List ℕ) (saving : Saving) (found : Option Saving) → saving_of field ≡ found
    → cond dash (Some Standard) (cond amount (option_map Amount found) (cond set (Some (Set field)) None)) ≡ Some (Amount saving) → IsWithinDay saving.seconds
amount_sound true amount set field saving found is e = absurd cc
amount_sound false true set field saving None is e = absurd cc
amount_sound false true set field saving (Some own) is e =
    let same : own ≡ saving = cc in
    holds (λ (s : Saving). IsWithinDay s.seconds) _ _ (saving_within field) (is ∙ ap (λ (s : Saving). Some s) same)
amount_sound false false true field saving found is e = absurd cc
amount_sound false false false field saving found is e = absurd cc

rules_sound : (rules : List Rule) (field : List ℕ) (own : Rules) → rules_of field ≡ Some own → is_unknown rules own ≡ false → AreSoundRules rules own
unfolding rules_of
rules_sound rules field Standard e known = tt
rules_sound rules field (Amount saving) e known = amount_sound (is_dash field) (begins_amount field) (is_set_name field) field saving (saving_of field) refl e
rules_sound rules field (Set name) e known = not-false _ known

pub line_sound : (rules : List Rule) (place : Place) (fields : List (List ℕ)) (line : ZoneLine) → IsContinuationLine place fields line → is_unknown rules line.rules ≡ false → IsSoundLine rules line
line_sound rules place fields line is known = record {
  offset = holds IsWithinDay _ _ (offset_within is.stdoff) is.offset;
  rules_known = rules_sound rules is.rules line.rules is.keeps known;
  until = until_of_sound is.until line.until is.ends;
}
