-- A POSIX TZ string has no newline.
use Rattle.std.proofs.Common.{◌≡◌, ◌≢◌, ℕ, ℤ, inl, inr, true, false, Bool, ◌==◌, refl, Option, Some, None, List, [], ◌∷◌, ◌++◌, IsTrue, All, sym, subst}
use Rattle.std.proofs.lemmas.List.Elements.{All-append, All-cons, All-nil, All-weaker}
use Rattle.std.specs.Option.{MatchOption}
use Rattle.zic_base.specs.Byte.{is_abbreviation_byte}
use Rattle.zic_posix.specs.declared.footer.DayRule.{DayRule}
use Rattle.zic_posix.specs.declared.footer.DayRule.TheVariants.{J, N, M}
use Rattle.zic_posix.specs.declared.footer.Dst.{Dst}
use Rattle.zic_posix.specs.declared.footer.Edge.{Edge}
use Rattle.zic_posix.specs.declared.footer.TheConstants.{MAX_HOURS, MAX_WIDE_HOURS, MAX_MINUTES_OR_SECONDS, LAST_DAY}
use Rattle.zic_posix.specs.Footer.{TzString}
use Rattle.zic_posix.proofs.NumberLemmas.{number_has}
use Rattle.std.specs.Char.{is_ascii_digit}
use Rattle.zic_posix.specs.Grammar.{is_letter, SpellsName, SpellsNumber, SpellsPart, SpellsClock, SpellsSigned, SpellsOffset, SpellsTime, SpellsDay, SpellsEdge, SpellsDaylight, Spells}

-- no byte of a text is a newline
abbrev pub IsOneLine : List ℕ → Type 0
IsOneLine text = All (λ b. b ≢ 10) text

-- a test that a newline fails
not_newline : (passes : ℕ → Bool) → (passes 10 ≡ true → ⊥) → (text : List ℕ) → All (λ b. IsTrue (passes b)) text → IsOneLine text
not_newline passes fails text each =
    All-weaker (λ b. IsTrue (passes b)) (λ b. b ≢ 10) (λ b yes is. fails (subst (λ n. IsTrue (passes n)) is yes)) text each

beside : (b : ℕ) → (b ≢ 10) → (text : List ℕ) → IsOneLine text → IsOneLine (b ∷ text)
beside b here text rest = All-cons (λ n. n ≢ 10) b text here rest

joined : (front back : List ℕ) → IsOneLine front → IsOneLine back → IsOneLine (front ++ back)
joined front back p q = All-append (λ n. n ≢ 10) front back p q

letter_fails : is_letter 10 ≡ true → ⊥
letter_fails e = cc

digit_fails : is_ascii_digit 10 ≡ true → ⊥
digit_fails e = cc

abbreviation_fails : is_abbreviation_byte 10 ≡ true → ⊥
abbreviation_fails e = cc

-- a byte that the test tells from a newline
other : (b : ℕ) → (b == 10) ≡ false → b ≢ 10
other b differs is = let wrong : true ≡ false = subst (λ (n : ℕ). (n == 10) ≡ false) is differs in cc

none : IsOneLine []
none = All-nil (λ n. n ≢ 10)

moved : (text other : List ℕ) → text ≡ other → IsOneLine other → IsOneLine text
moved text other same line = subst IsOneLine (sym same) line

one_line_name : (text name : List ℕ) → SpellsName text name → IsOneLine text
one_line_name text name spelled =
    elim spelled.form [
      | inl plain ↦ moved text name plain.0 (not_newline is_letter letter_fails name plain.1)
      | inr quoted ↦
          moved text (60 ∷ (name ++ 62 ∷ [])) quoted.0
          (beside 60 (other 60 refl) (name ++ 62 ∷ []) (joined name (62 ∷ []) (not_newline is_abbreviation_byte abbreviation_fails name quoted.1) (beside 62 (other 62 refl) [] none)))
    ]

one_line_number : (longest least most : ℕ) (text : List ℕ) (n : ℕ) → SpellsNumber longest least most text n → IsOneLine text
one_line_number longest least most text n spelled = not_newline is_ascii_digit digit_fails text (number_has longest text n spelled.value).digits

-- two texts round a mark
round_mark : (mark : ℕ) → (mark ≢ 10) → (front back : List ℕ) → IsOneLine front → IsOneLine back → IsOneLine (front ++ mark ∷ back)
round_mark mark here front back p q = joined front (mark ∷ back) p (beside mark here back q)

one_line_clock : (longest most : ℕ) (text : List ℕ) (seconds : ℕ) → SpellsClock longest most text seconds → IsOneLine text
one_line_clock longest most text seconds spelled =
    let hours = one_line_number longest 0 most spelled.hours spelled.h spelled.spells_hours in
    let part = λ (text : List ℕ) (n : ℕ) (spells : SpellsPart text n). one_line_number 2 0 MAX_MINUTES_OR_SECONDS text n spells in
    elim spelled.form [
      | inl whole ↦ moved text spelled.hours whole.0 hours
      | inr (inl more) ↦ moved text (spelled.hours ++ 58 ∷ more.0) more.1 (round_mark 58 (other 58 refl) spelled.hours more.0 hours (part more.0 spelled.m more.2))
      | inr (inr more) ↦
          moved text (spelled.hours ++ 58 ∷ (more.0 ++ 58 ∷ more.1)) more.2
          (round_mark 58 (other 58 refl) spelled.hours (more.0 ++ 58 ∷ more.1) hours
          (round_mark 58 (other 58 refl) more.0 more.1 (part more.0 spelled.m more.3) (part more.1 spelled.s more.4)))
    ]

one_line_signed : (longest most : ℕ) (text : List ℕ) (seconds : ℤ) → SpellsSigned longest most text seconds → IsOneLine text
one_line_signed longest most text seconds spelled =
    let clock = one_line_clock longest most spelled.clock spelled.size spelled.spells_clock in
    elim spelled.form [
      | inl bare ↦ moved text spelled.clock bare.0 clock
      | inr (inl plus) ↦ moved text (43 ∷ spelled.clock) plus.0 (beside 43 (other 43 refl) spelled.clock clock)
      | inr (inr minus) ↦ moved text (45 ∷ spelled.clock) minus.0 (beside 45 (other 45 refl) spelled.clock clock)
    ]

one_line_offset : (text : List ℕ) (offset : ℤ) → SpellsOffset text offset → IsOneLine text
one_line_offset text offset spelled = one_line_signed 2 MAX_HOURS text spelled.0 spelled.1

one_line_time : (version : ℕ) (text : List ℕ) (time : ℤ) → SpellsTime version text time → IsOneLine text
one_line_time version text time (inl plain) = one_line_clock 2 MAX_HOURS text plain.1.0 plain.1.1
one_line_time version text time (inr signed) = one_line_signed 3 MAX_WIDE_HOURS text time signed.1

one_line_day : (text : List ℕ) (day : DayRule) → SpellsDay text day → IsOneLine text
one_line_day text (J day) spelled = moved text (74 ∷ spelled.0) spelled.1 (beside 74 (other 74 refl) spelled.0 (one_line_number 3 1 LAST_DAY spelled.0 day spelled.2))
one_line_day text (N day) spelled = one_line_number 3 0 LAST_DAY text day spelled
one_line_day text (M month week weekday) spelled =
    let weeks = round_mark 46 (other 46 refl) spelled.1 spelled.2 (one_line_number 1 1 5 spelled.1 week spelled.5) (one_line_number 1 0 6 spelled.2 weekday spelled.6) in
    moved text (77 ∷ (spelled.0 ++ 46 ∷ (spelled.1 ++ 46 ∷ spelled.2))) spelled.3
    (beside 77 (other 77 refl) (spelled.0 ++ 46 ∷ (spelled.1 ++ 46 ∷ spelled.2))
    (round_mark 46 (other 46 refl) spelled.0 (spelled.1 ++ 46 ∷ spelled.2) (one_line_number 2 1 12 spelled.0 month spelled.4) weeks))

one_line_edge : (version : ℕ) (text : List ℕ) (edge : Edge) → SpellsEdge version text edge → IsOneLine text
one_line_edge version text edge spelled =
    let day = one_line_day spelled.day edge.day spelled.spells_day in
    elim spelled.form [
      | inl bare ↦ moved text spelled.day bare.0 day
      | inr timed ↦ moved text (spelled.day ++ 47 ∷ timed.0) timed.1 (round_mark 47 (other 47 refl) spelled.day timed.0 day (one_line_time version timed.0 edge.time timed.2))
    ]

one_line_daylight : (version : ℕ) (standard : ℤ) (text : List ℕ) (dst : Dst) → SpellsDaylight version standard text dst → IsOneLine text
one_line_daylight version standard text dst spelled =
    let offset : IsOneLine spelled.offset = elim spelled.spells_offset [
      | inl usual ↦ moved spelled.offset [] usual.0 none
      | inr own ↦ one_line_offset spelled.offset dst.offset own
    ] in
    let edges = round_mark 44 (other 44 refl) spelled.start spelled.stop (one_line_edge version spelled.start dst.start spelled.spells_start) (one_line_edge version spelled.stop dst.stop spelled.spells_stop) in
    moved text (spelled.name ++ (spelled.offset ++ 44 ∷ (spelled.start ++ 44 ∷ spelled.stop))) spelled.parts
    (joined spelled.name (spelled.offset ++ 44 ∷ (spelled.start ++ 44 ∷ spelled.stop)) (one_line_name spelled.name dst.name spelled.spells_name)
    (round_mark 44 (other 44 refl) spelled.offset (spelled.start ++ 44 ∷ spelled.stop) offset edges))

one_line_rest : (version : ℕ) (standard : ℤ) (rest : List ℕ) (dst : Option Dst) → MatchOption dst (rest ≡ []) (SpellsDaylight version standard rest) → IsOneLine rest
one_line_rest version standard rest None empty = moved rest [] empty none
one_line_rest version standard rest (Some dst) spelled = one_line_daylight version standard rest dst spelled

-- the text of a footer has no newline
pub one_line : (version : ℕ) (text : List ℕ) (f : TzString) → Spells version text f → IsOneLine text
one_line version text f spelled =
    let rest = one_line_rest version f.offset spelled.rest f.dst spelled.spells_rest in
    moved text (spelled.name ++ (spelled.offset ++ spelled.rest)) spelled.parts
    (joined spelled.name (spelled.offset ++ spelled.rest) (one_line_name spelled.name f.std spelled.spells_name)
    (joined spelled.offset spelled.rest (one_line_offset spelled.offset f.offset spelled.spells_offset) rest))
