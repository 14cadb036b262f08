-- What the fields of a line say, and what a line says: something just where no check fails, and one thing.
use Rattle.std.proofs.Common.{◌≡◌, ℕ, Bool, true, false, cond, List, [], ◌∷◌, length, Option, Some, None, refl, sym, ap, subst, ◌∙◌, ◌<◌, arith}
use Rattle.std.specs.Prelude.{IfSome, IfOk, Result, Ok, Err, map, option_map, get_or, slice_index_or}
use Rattle.std.proofs.lemmas.Bool.{le-leb, leb-true}
use Rattle.zic_base.specs.Check.{Check, check, first_failed}
use Rattle.zic_base.specs.declared.fault.Place.{Place}
use Rattle.zic_base.proofs.Checks.{each_passes, first_failed-both, first_failed-append}
use Rattle.zic_lines.specs.declared.keyword.Keyword.{Keyword}
use Rattle.zic_lines.specs.declared.keyword.Keyword.TheVariants as keywords
use Rattle.zic_lines.specs.Keyword.{keyword_of}
use Rattle.zic_lines.specs.declared.field.TheConstants.{LONGEST_LINE}
use Rattle.zic_lines.specs.declared.rule_line.Rule.{Rule}
use Rattle.zic_lines.specs.declared.zone_line.ZoneLine.{ZoneLine}
use Rattle.zic_lines.specs.declared.link.Link.{Link}
use Rattle.zic_lines.specs.ZoneLine.{IsContinuationLine}
use Rattle.zic_lines.specs.declared.entry.Entry.{Entry}
use Rattle.zic_lines.specs.declared.entry.Entry.TheVariants as entries
use Rattle.zic_lines.specs.Line.{PlacedLine}
use Rattle.zic_lines.specs.Field.{fields}
use Rattle.zic_lines.specs.Entry.{is_continuation}
use Rattle.zic_lines.specs.Grammar.{IsLine, FieldsSay, Says}
use Rattle.zic_lines.specs.code.Entries.{IsOtherLine}
use Rattle.zic_lines.specs.Checks.{byte_checks, continuation_checks, keyword_checks, kind_of, numbered_checks, field_checks, line_checks}
use Rattle.zic_lines.specs.declared.entry.FieldFault.{FieldFault}
use Rattle.zic_lines.proofs.RuleLines.{rule_said, rule_passes, rule_once}
use Rattle.zic_lines.proofs.ZoneLines.{continuation_said, continuation_passes, continuation_once, zone_said, zone_passes}
use Rattle.zic_lines.proofs.LinkLines.{link_said, link_passes, link_once}

-- The fields say this, and it is a continuation line where one is awaited, and only there.
abbrev Fitting : Bool → Place → List (List ℕ) → Option Entry → Type 0
Fitting awaited place texts entry = FieldsSay place texts entry × IfSome entry (λ said. is_continuation said ≡ awaited)

-- ---- where no check fails, something is said

keyword_said : (place : Place) (field : List ℕ) (texts : List (List ℕ)) (keyword : Option Keyword) → keyword_of field ≡ keyword → first_failed (keyword_checks keyword (field ∷ texts)) ≡ None
    → (entry : Option Entry) × Fitting false place (field ∷ texts) entry
keyword_said place field texts None begins e = absurd cc
keyword_said place field texts (Some keywords.Rule) begins e = let rule = rule_said place field texts begins e in (Some (entries.Rule rule.0), (rule.1, refl))
keyword_said place field texts (Some keywords.Zone) begins e = let zone = zone_said place field texts begins e in (Some (entries.Zone zone.0 zone.1), (zone.2, refl))
keyword_said place field texts (Some keywords.Link) begins e = let link = link_said place field texts begins e in (Some (entries.Link link.0), (link.1, refl))

pub fields_said : (awaited : Bool) (place : Place) (texts : List (List ℕ)) → first_failed (numbered_checks awaited texts) ≡ None
    → (entry : Option Entry) × FieldsSay place texts entry × IfSome entry (λ said. is_continuation said ≡ awaited)
fields_said awaited place [] e = (None, refl, tt)
fields_said true place (field ∷ texts) e = let line = continuation_said place (field ∷ texts) e in (Some (entries.Continuation line.0), line.1, refl)
fields_said false place (field ∷ texts) e = let said = keyword_said place field texts (keyword_of field) refl e in (said.0, said.1.0, said.1.1)

-- ---- where something is said, no check fails

keyword_passes : (awaited : Bool) (texts : List (List ℕ)) (field : List ℕ) (others : List (List ℕ)) (keyword : Keyword) → texts ≡ field ∷ others → keyword_of field ≡ Some keyword → false ≡ awaited
    → first_failed (keyword_checks (Some keyword) texts) ≡ None → first_failed (numbered_checks awaited texts) ≡ None
keyword_passes true texts field others keyword are begins a e = absurd cc
keyword_passes false texts field others keyword are begins a e =
    ap (λ (ts : List (List ℕ)). first_failed (numbered_checks false ts)) are
    ∙ ap (λ (k : Option Keyword). first_failed (keyword_checks k (field ∷ others))) begins
    ∙ ap (λ (ts : List (List ℕ)). first_failed (keyword_checks (Some keyword) ts)) (sym are) ∙ e

awaited_passes : (awaited : Bool) (texts : List (List ℕ)) → true ≡ awaited → first_failed (numbered_checks true texts) ≡ first_failed (numbered_checks awaited texts)
awaited_passes true texts a = refl
awaited_passes false texts a = absurd cc

pub said_passes : (awaited : Bool) (place : Place) (texts : List (List ℕ)) (entry : Option Entry) → FieldsSay place texts entry → IfSome entry (λ said. is_continuation said ≡ awaited)
    → first_failed (numbered_checks awaited texts) ≡ None
said_passes awaited place texts None is a = ap (λ (ts : List (List ℕ)). first_failed (numbered_checks awaited ts)) is
said_passes awaited place texts (Some (entries.Rule rule)) is a = keyword_passes awaited texts is.keyword _ keywords.Rule is.ten is.is_rule a (rule_passes place texts rule is)
said_passes awaited place texts (Some (entries.Zone name line)) is a = keyword_passes awaited texts is.keyword _ keywords.Zone is.are is.is_zone a (zone_passes place texts name line is)
said_passes awaited place texts (Some (entries.Continuation line)) is a =
    sym (awaited_passes awaited texts a)
    ∙ ap (λ (ts : List (List ℕ)). first_failed (numbered_checks true ts)) is.are
    ∙ ap (λ (ts : List (List ℕ)). first_failed (continuation_checks ts)) (sym is.are)
    ∙ continuation_passes place texts line is
said_passes awaited place texts (Some (entries.Link link)) is a = keyword_passes awaited texts is.keyword _ keywords.Link is.three is.is_link a (link_passes place texts link is)

-- ---- fields say one thing

pub said_once : (awaited : Bool) (place : Place) (texts : List (List ℕ)) (entry other : Option Entry) → FieldsSay place texts entry → IfSome entry (λ said. is_continuation said ≡ awaited)
    → FieldsSay place texts other → IfSome other (λ said. is_continuation said ≡ awaited) → entry ≡ other
said_once awaited place texts None None is a also b = refl
said_once awaited place texts None (Some (entries.Rule rule)) is a also b = absurd cc
said_once awaited place texts None (Some (entries.Zone name line)) is a also b = absurd cc
said_once awaited place texts None (Some (entries.Continuation line)) is a also b = absurd cc
said_once awaited place texts None (Some (entries.Link link)) is a also b = absurd cc
said_once awaited place texts (Some (entries.Rule rule)) None is a also b = absurd cc
said_once awaited place texts (Some (entries.Zone name line)) None is a also b = absurd cc
said_once awaited place texts (Some (entries.Continuation line)) None is a also b = absurd cc
said_once awaited place texts (Some (entries.Link link)) None is a also b = absurd cc
said_once awaited place texts (Some (entries.Rule rule)) (Some (entries.Rule other)) is a also b = ap (λ (r : Rule). Some (entries.Rule r)) (rule_once place texts rule other is also)
said_once awaited place texts (Some (entries.Zone name line)) (Some (entries.Zone name' other)) is a also b =
    let named : name ≡ name' = cc in
    let others : is.others ≡ also.others = cc in
    let lines : line ≡ other = continuation_once place is.others line other is.says (subst (λ (ts : List (List ℕ)). IsContinuationLine place ts other) (sym others) also.says) in
    rw (named, lines) refl
said_once awaited place texts (Some (entries.Continuation line)) (Some (entries.Continuation other)) is a also b = ap (λ (l : ZoneLine). Some (entries.Continuation l)) (continuation_once place texts line other is also)
said_once awaited place texts (Some (entries.Link link)) (Some (entries.Link other)) is a also b = ap (λ (l : Link). Some (entries.Link l)) (link_once place texts link other is also)
said_once awaited place texts (Some (entries.Rule rule)) (Some (entries.Zone name line)) is a also b = absurd cc
said_once awaited place texts (Some (entries.Rule rule)) (Some (entries.Link link)) is a also b = absurd cc
said_once awaited place texts (Some (entries.Zone name line)) (Some (entries.Rule rule)) is a also b = absurd cc
said_once awaited place texts (Some (entries.Zone name line)) (Some (entries.Link link)) is a also b = absurd cc
said_once awaited place texts (Some (entries.Link link)) (Some (entries.Rule rule)) is a also b = absurd cc
said_once awaited place texts (Some (entries.Link link)) (Some (entries.Zone name line)) is a also b = absurd cc
said_once awaited place texts (Some (entries.Continuation line)) (Some other) is a also b = absurd cc
said_once awaited place texts (Some other) (Some (entries.Continuation line)) is a also b = absurd cc

-- ---- lines

line_is : (bytes : List ℕ) → first_failed (byte_checks bytes) ≡ None → IsLine bytes
line_is bytes e =
    let short = each_passes (byte_checks bytes) e in
    let ascii = short.1 in
    let closed = ascii.1 in
    record { short = leb-true (length bytes) LONGEST_LINE short.0; ascii = ascii.0; closed = closed.0 }

line_passes : (bytes : List ℕ) → IsLine bytes → first_failed (byte_checks bytes) ≡ None
line_passes bytes is = rw (le-leb (length bytes) LONGEST_LINE is.short, is.ascii, is.closed) refl

-- ---- the kind of the first fault

first_kind : (cs : List (Check FieldFault)) → first_failed (map (λ c. check c.passes (kind_of c.reason)) cs) ≡ option_map kind_of (first_failed cs)
first_kind [] = refl
first_kind (c ∷ cs) = elim c.passes as (λ b. cond b (first_failed (map (λ d. check d.passes (kind_of d.reason)) cs)) (Some (kind_of c.reason)) ≡ option_map kind_of (cond b (first_failed cs) (Some c.reason))) [
  | true ↦ first_kind cs
  | false ↦ refl
]

no_kind : (o : Option FieldFault) → option_map kind_of o ≡ None → o ≡ None
no_kind None e = refl
no_kind (Some fault) e = absurd cc

pub fields_pass : (awaited : Bool) (texts : List (List ℕ)) → first_failed (numbered_checks awaited texts) ≡ None → first_failed (field_checks awaited texts) ≡ None
fields_pass awaited texts e = first_kind (numbered_checks awaited texts) ∙ ap (option_map kind_of) e

pub fields_fail : (awaited : Bool) (texts : List (List ℕ)) (fault : FieldFault) → first_failed (numbered_checks awaited texts) ≡ Some fault → first_failed (field_checks awaited texts) ≡ Some (kind_of fault)
fields_fail awaited texts fault e = first_kind (numbered_checks awaited texts) ∙ ap (option_map kind_of) e

-- a line of which no check fails says something
pub line_said : (awaited : Bool) (line : PlacedLine) → first_failed (line_checks awaited line.bytes) ≡ None → (entry : Option Entry) × Says line entry × IfSome entry (λ said. is_continuation said ≡ awaited)
line_said awaited line e =
    let both = first_failed-both (byte_checks line.bytes) (field_checks awaited (fields line.bytes)) e in
    let said = fields_said awaited line.place (fields line.bytes) (no_kind _ (sym (first_kind (numbered_checks awaited (fields line.bytes))) ∙ both.1)) in
    (said.0, (line_is line.bytes both.0, said.1), said.2)

-- no check fails of a line that says something
pub says_passes : (awaited : Bool) (line : PlacedLine) (entry : Option Entry) → Says line entry → IfSome entry (λ said. is_continuation said ≡ awaited) → first_failed (line_checks awaited line.bytes) ≡ None
says_passes awaited line entry says a =
    first_failed-append (byte_checks line.bytes) (field_checks awaited (fields line.bytes)) (line_passes line.bytes says.0)
    ∙ fields_pass awaited (fields line.bytes) (said_passes awaited line.place (fields line.bytes) entry says.1 a)

-- a line says one thing
pub says_once : (awaited : Bool) (line : PlacedLine) (entry other : Option Entry) → Says line entry → IfSome entry (λ said. is_continuation said ≡ awaited)
    → Says line other → IfSome other (λ said. is_continuation said ≡ awaited) → entry ≡ other
says_once awaited line entry other says a also b = said_once awaited line.place (fields line.bytes) entry other says.1 a also.1 b

-- ---- the checks of fields, by what is awaited and by the first of them

pub checks_of_awaited : (awaited : Bool) (texts : List (List ℕ)) → awaited ≡ true → 0 < length texts → numbered_checks awaited texts ≡ continuation_checks texts
checks_of_awaited true (field ∷ texts) e some = refl
checks_of_awaited true [] e some = absurd (omega arith)
checks_of_awaited false texts e some = absurd cc

pub checks_by_keyword : (awaited : Bool) (texts : List (List ℕ)) (keyword : Option Keyword) → awaited ≡ false → 0 < length texts → keyword_of (slice_index_or texts 0 []) ≡ keyword → numbered_checks awaited texts ≡ keyword_checks keyword texts
checks_by_keyword false (field ∷ texts) keyword e some k = ap (λ (o : Option Keyword). keyword_checks o (field ∷ texts)) k
checks_by_keyword false [] keyword e some k = absurd (omega arith)
checks_by_keyword true texts keyword e some k = absurd cc

-- the keyword that the first text stands for
pub first_keyword : {A : Type 0} (text : A → List ℕ) (xs : List A) (x : A) (found : List ℕ) (keyword : Option Keyword) → 0 < length xs → x ≡ get_or xs 0 x → found ≡ text x → keyword_of found ≡ keyword
    → keyword_of (slice_index_or (map text xs) 0 []) ≡ keyword
first_keyword text (y ∷ ys) x found keyword some at is located = ap keyword_of (ap text (sym at) ∙ sym is) ∙ located
first_keyword text [] x found keyword some at is located = absurd (omega arith)

-- ---- what an entry of no continuation line says

pub other_says : {K E : Type 0} (place : Place) (texts : List (List ℕ)) (result : Result (Result Entry E) K) → IfOk result (λ made. IfOk made (IsOtherLine place texts))
    → IfOk result (λ made. IfOk made (λ entry. FieldsSay place texts (Some entry)))
other_says place texts (Ok (Ok entry)) is = is.0
other_says place texts (Ok (Err e)) is = tt
other_says place texts (Err k) is = tt

pub other_goes_on : {K E : Type 0} (place : Place) (texts : List (List ℕ)) (awaited : Bool) (result : Result (Result Entry E) K) → awaited ≡ false → IfOk result (λ made. IfOk made (IsOtherLine place texts))
    → IfOk result (λ made. IfOk made (λ entry. is_continuation entry ≡ awaited))
other_goes_on place texts awaited (Ok (Ok entry)) plain is = is.1 ∙ sym plain
other_goes_on place texts awaited (Ok (Err e)) plain is = tt
other_goes_on place texts awaited (Err k) plain is = tt
