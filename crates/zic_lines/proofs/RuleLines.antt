-- What the fields of a Rule line say, where no check fails.
use Rattle.std.proofs.Common.{◌≡◌, ℕ, true, false, List, [], ◌∷◌, Option, Some, None, Result, Ok, Err, refl, sym, ap, subst, ◌∙◌}
use Rattle.std.specs.Prelude.{not, is_some, IfOk}
use Rattle.zic_base.specs.Check.{check, first_failed}
use Rattle.zic_base.specs.declared.fault.Kind.TheVariants.{Name, Reserved, Month, Day, Time}
use Rattle.zic_base.specs.Option.{some_and}
use Rattle.zic_calendar.specs.declared.day_form.On.{On}
use Rattle.zic_base.specs.declared.fault.Place.{Place}
use Rattle.zic_base.proofs.Checks.{each_passes, first_failed-stops}
use Rattle.zic_lines.specs.declared.entry.FieldFault.{FieldFault}
use Rattle.zic_lines.specs.declared.entry.FieldFault.TheVariants.{At}
use Rattle.zic_lines.specs.declared.rule_line.Rule.{Rule}
use Rattle.zic_lines.specs.declared.keyword.Keyword.TheVariants as keywords
use Rattle.zic_lines.specs.Keyword.{keyword_of}
use Rattle.zic_lines.specs.Year.{year_of, last_year_of, ends_before, is_one_leap_year}
use Rattle.zic_lines.specs.Month.{month_of}
use Rattle.zic_lines.specs.DayForm.{day_form_of}
use Rattle.zic_lines.specs.Clock.{clock_time_of}
use Rattle.zic_lines.specs.Saving.{saving_of}
use Rattle.zic_lines.specs.Letter.{letter_of}
use Rattle.zic_lines.specs.RuleLine.{IsRuleLine}
use Rattle.zic_lines.specs.Checks.{rule_checks, years_of, rule_day_of}
use Rattle.zic_lines.specs.Dash.{is_dash}
use Rattle.zic_lines.specs.SetName.{is_set_name}
use Rattle.zic_lines.specs.declared.clock.ClockTime.{ClockTime}
use Rattle.zic_lines.specs.declared.time.Saving.{Saving}
use Rattle.zic_lines.specs.declared.rule_line.Years.{Years}
use Rattle.zic_lines.specs.declared.rule_line.Times.{Times}
use Rattle.zic_lines.specs.declared.rule_line.Effect.{Effect}
use Rattle.zic_lines.specs.code.LineParts.{SayYears, year_checks, moment_checks, SayTimes, time_checks, SayEffect, effect_checks, rule_with}
use Rattle.zic_lines.proofs.Parsed.{unchanged}
use Rattle.zic_lines.proofs.Options.{there, bound}

-- the years that FROM and TO say
years_are : (from to : List ℕ) (first : ℕ) (last : Option ℕ) → year_of from ≡ Some first → last_year_of first to ≡ Some last → years_of from to ≡ Some (first, last)
years_are from to first last e e' = rw (e, e') refl

-- they are in order
order : (years : Option (ℕ × Option ℕ)) (first : ℕ) (last : Option ℕ) → years ≡ Some (first, last) → some_and years (λ y. not (ends_before y.1 y.0)) ≡ true → not (ends_before last first) ≡ true
order years first last e h = rw e at h

-- the day of these years and this month
day_is : (from to month day : List ℕ) (first : ℕ) (last : Option ℕ) (in_month : ℕ) (on : On) → years_of from to ≡ Some (first, last) → month_of month ≡ Some in_month → rule_day_of from to month day ≡ Some on
    → day_form_of (is_one_leap_year first last) in_month day ≡ Some on
day_is from to month day first last in_month on years m e = rw (years, m) at e

-- the fields of a Rule line that fails no check say a rule
pub rule_said : (place : Place) (field : List ℕ) (fields : List (List ℕ)) → keyword_of field ≡ Some keywords.Rule → first_failed (rule_checks (field ∷ fields)) ≡ None → (rule : Rule) × IsRuleLine place (field ∷ fields) rule
rule_said place keyword (name ∷ from ∷ to ∷ reserved ∷ month ∷ day ∷ time ∷ save ∷ letter ∷ []) begins e =
    let named = each_passes (rule_checks (keyword ∷ name ∷ from ∷ to ∷ reserved ∷ month ∷ day ∷ time ∷ save ∷ letter ∷ [])) e in
    let from_year = named.1 in
    let to_year = from_year.1 in
    let in_order = to_year.1 in
    let unused = in_order.1 in
    let in_month = unused.1 in
    let on_day = in_month.1 in
    let at_time = on_day.1 in
    let saves = at_time.1 in
    let abbreviates = saves.1 in
    let years = there (years_of from to) to_year.0 in
    let first = bound (year_of from) _ years.0 years.1 in
    let last = bound (last_year_of first.0 to) _ years.0 first.2 in
    let m = there (month_of month) in_month.0 in
    let on = there (rule_day_of from to month day) on_day.0 in
    let clock = there (clock_time_of time) at_time.0 in
    let saving = there (saving_of save) saves.0 in
    let text = there (letter_of letter) abbreviates.0 in
    let rule : Rule = record {
      place = place;
      name = name;
      first = first.0;
      last = last.0;
      moment = record { month = m.0; on = on.0; at = clock.0 };
      saving = saving.0;
      letter = text.0;
    } in
    let said : IsRuleLine place (keyword ∷ name ∷ from ∷ to ∷ reserved ∷ month ∷ day ∷ time ∷ save ∷ letter ∷ []) rule = record {
      keyword = keyword;
      from = from;
      to = to;
      reserved = reserved;
      month = month;
      day = day;
      time = time;
      save = save;
      letter = letter;
      ten = refl;
      is_rule = begins;
      named = named.0;
      begins = first.1;
      ends = last.1;
      in_order = order (years_of from to) first.0 last.0 (years_are from to first.0 last.0 first.1 last.1) in_order.0;
      unused = unused.0;
      in_month = m.1;
      on_day = day_is from to month day first.0 last.0 m.0 on.0 (years_are from to first.0 last.0 first.1 last.1) m.1 on.1;
      at_time = clock.1;
      saves = saving.1;
      abbreviates = text.1;
      located = refl;
    } in
    (rule, said)
rule_said place keyword fields begins e = absurd cc

-- a rule that is said fails no check
pub rule_passes : (place : Place) (fields : List (List ℕ)) (rule : Rule) → IsRuleLine place fields rule → first_failed (rule_checks fields) ≡ None
rule_passes place fields rule is =
    ap (λ (fs : List (List ℕ)). first_failed (rule_checks fs)) is.ten
    ∙ rw (is.named, is.begins, is.ends, is.in_order, is.unused, is.in_month, is.on_day, is.at_time, is.saves, is.abbreviates) refl

-- ten fields say one rule
rules_same : (p p' : Place) (n n' : List ℕ) (a a' : ℕ) (z z' : Option ℕ) (m m' : ℕ) (o o' : On) (t t' : ClockTime) (s s' : Saving) (l l' : List ℕ)
    → p ≡ p' → n ≡ n' → a ≡ a' → z ≡ z' → m ≡ m' → o ≡ o' → t ≡ t' → s ≡ s' → l ≡ l'
    → rule_with p n (record { years = record { first = a; last = z }; moment = record { month = m; on = o; at = t } }) (record { saving = s; letter = l })
    ≡ rule_with p' n' (record { years = record { first = a'; last = z' }; moment = record { month = m'; on = o'; at = t' } }) (record { saving = s'; letter = l' })
rules_same p p' n n' a a' z z' m m' o o' t t' s s' l l' e1 e2 e3 e4 e5 e6 e7 e8 e9 = rw (e1, e2, e3, e4, e5, e6, e7, e8, e9) refl

pub rule_once : (place : Place) (texts : List (List ℕ)) (rule other : Rule) → IsRuleLine place texts rule → IsRuleLine place texts other → rule ≡ other
rule_once place texts rule other is also =
    let first : rule.first ≡ other.first = cc in
    let last : rule.last ≡ other.last = cc in
    let month : rule.moment.month ≡ other.moment.month = cc in
    rules_same rule.place other.place rule.name other.name rule.first other.first rule.last other.last rule.moment.month other.moment.month rule.moment.on other.moment.on rule.moment.at other.moment.at
    rule.saving other.saving rule.letter other.letter (cc) (cc) first last month (cc) (cc) (cc) (cc)

-- what the code makes of ten fields is what they say
pub rule_made : {E : Type 0} (place : Place) {texts : List (List ℕ)} {keyword name from to reserved month day time save letter : List ℕ} (times : Times) (effect : Effect) (made : Result Rule E) (made_name : Result (List ℕ) E)
    → texts ≡ keyword ∷ name ∷ from ∷ to ∷ reserved ∷ month ∷ day ∷ time ∷ save ∷ letter ∷ []
    → keyword_of keyword ≡ Some keywords.Rule → is_set_name name ≡ true → SayTimes from to reserved month day time times → SayEffect save letter effect
    → IfOk made_name (λ n. n ≡ name) → IfOk made (λ rule. made_name ≡ Ok rule.name) → IfOk made (λ rule. rule ≡ rule_with place rule.name times effect) → IfOk made (IsRuleLine place texts)
rule_made place {texts} {keyword} {name} {from} {to} {reserved} {month} {day} {time} {save} {letter} times effect (Ok rule) made_name are begins n say_times say_effect same_name named parts =
    let same : rule.name ≡ name = unchanged made_name name rule.name named same_name in
    let is : IsRuleLine place texts (rule_with place name times effect) = record {
      keyword = keyword;
      from = from;
      to = to;
      reserved = reserved;
      month = month;
      day = day;
      time = time;
      save = save;
      letter = letter;
      ten = are;
      is_rule = begins;
      named = n;
      begins = say_times.years.begins;
      ends = say_times.years.ends;
      in_order = say_times.years.in_order;
      unused = say_times.unused;
      in_month = say_times.moment.in_month;
      on_day = say_times.moment.on_day;
      at_time = say_times.moment.at_time;
      saves = say_effect.saves;
      abbreviates = say_effect.abbreviates;
      located = refl;
    } in
    subst (IsRuleLine place texts) (sym (parts ∙ ap (λ (t : List ℕ). rule_with place t times effect) same)) is
rule_made place {texts} {keyword} {name} {from} {to} {reserved} {month} {day} {time} {save} {letter} times effect (Err e) made_name are begins n say_times say_effect same_name named parts = tt

-- ---- the first that fails, step by step

module _ (from to reserved month day time : List ℕ) where
  pub years_fail : (fault : FieldFault) → first_failed (year_checks from to) ≡ Some fault → first_failed (time_checks from to reserved month day time) ≡ Some fault
  years_fail fault e = first_failed-stops (year_checks from to)
      (check (is_dash reserved) (At Reserved 4)
      ∷ check (is_some (month_of month)) (At Month 5)
      ∷ check (is_some (rule_day_of from to month day)) (At Day 6)
      ∷ check (is_some (clock_time_of time)) (At Time 7)
      ∷ []) fault e

  module _ (years : Years) (say : SayYears from to years) where
    pub not_reserved : is_dash reserved ≡ false → first_failed (time_checks from to reserved month day time) ≡ Some (At Reserved 4)
    not_reserved e = rw (say.begins, say.ends, say.in_order, e) refl

    pub moment_fails : is_dash reserved ≡ true → (fault : FieldFault) → first_failed (moment_checks years month day time) ≡ Some fault → first_failed (time_checks from to reserved month day time) ≡ Some fault
    moment_fails unused fault e = rw (say.begins, say.ends, say.in_order, unused) e

module _ {texts : List (List ℕ)} {keyword name from to reserved month day time save letter : List ℕ} (are : texts ≡ keyword ∷ name ∷ from ∷ to ∷ reserved ∷ month ∷ day ∷ time ∷ save ∷ letter ∷ []) where
  checks_are : (o : Option FieldFault) → first_failed (rule_checks (keyword ∷ name ∷ from ∷ to ∷ reserved ∷ month ∷ day ∷ time ∷ save ∷ letter ∷ [])) ≡ o → first_failed (rule_checks texts) ≡ o
  checks_are o e = ap (λ (ts : List (List ℕ)). first_failed (rule_checks ts)) are ∙ e

  pub no_name : is_set_name name ≡ false → first_failed (rule_checks texts) ≡ Some (At Name 1)
  no_name bad = checks_are (Some (At Name 1)) (rw bad refl)

  module _ (named : is_set_name name ≡ true) where
    pub times_fail : (fault : FieldFault) → first_failed (time_checks from to reserved month day time) ≡ Some fault → first_failed (rule_checks texts) ≡ Some fault
    times_fail fault e = checks_are (Some fault) (rw named (first_failed-stops (time_checks from to reserved month day time) (effect_checks save letter) fault e))

    -- the checks of SAVE and LETTER decide
    pub effect_decides : (times : Times) → SayTimes from to reserved month day time times → first_failed (rule_checks texts) ≡ first_failed (effect_checks save letter)
    effect_decides times say = checks_are _ (rw (named, say.years.begins, say.years.ends, say.years.in_order, say.unused, say.moment.in_month, say.moment.on_day, say.moment.at_time) refl)

-- what SAVE and LETTER say passes their checks
pub effect_passes : (save letter : List ℕ) (effect : Effect) → SayEffect save letter effect → first_failed (effect_checks save letter) ≡ None
effect_passes save letter effect say = rw (say.saves, say.abbreviates) refl
