-- Each line of a zone but the last has an UNTIL.
use Rattle.std.proofs.Common.{◌≡◌, ℕ, ◌+◌, Bool, true, false, ◌⊎◌, inl, inr, ⊎_elim, List, [], ◌∷◌, ◌++◌, map, Option, Some, None, refl, sym, ap, subst, ◌∙◌, append_assoc, arith}
use Rattle.std.specs.Prelude.{flat_map, Contains}
use Rattle.std.specs.List.{AllZip, enumerate_from}
use Rattle.std.proofs.lemmas.List.{append-nil}
use Rattle.zic_lines.specs.declared.zone_line.ZoneLine.{ZoneLine}
use Rattle.zic_lines.specs.declared.entry.Entry.{Entry}
use Rattle.zic_lines.specs.declared.entry.Entry.TheVariants as entries
use Rattle.zic_lines.specs.Entry.{has_until, is_continuation, goes_on, zone_entries_in}
use Rattle.zic_lines.specs.Line.{text_lines}
use Rattle.zic_source.specs.Event.{Event, Line, End, text_events, events_of}
use Rattle.zic_source.specs.Source.{ZoneLines, lines_of_zone, entries_of_zone}
use Rattle.zic_source.specs.Grammar as statement
use Rattle.zic_source.specs.Grammar.{Statement, Entered, Ended, EventSays, said, entries_in}
use Rattle.zic_base.proofs.Elements.{cons_cases}
use Rattle.zic_source.proofs.reading.Continuations.{Continued}

-- ---- texts end with nothing to follow

closed : (events : List Event) (statements : List (Option Statement)) (first last : Bool) → AllZip EventSays (events ++ End ∷ []) statements → Continued first (said statements) last → last ≡ false
closed [] [] first last each is = absurd each
closed [] (None ∷ statements) first last each is = absurd each.0
closed [] (Some (Entered entry) ∷ statements) first last each is = absurd each.0
closed [] (Some Ended ∷ []) first last each is = sym is.1
closed [] (Some Ended ∷ s ∷ statements) first last each is = absurd each.1
closed (event ∷ events) [] first last each is = absurd each
closed (event ∷ events) (None ∷ statements) first last each is = closed events statements first last each.1 is
closed (event ∷ events) (Some s ∷ statements) first last each is = closed events statements (statement.goes_on s) last each.1 is.1

-- events of texts are none, or the last is an end
texts_end : (n : ℕ) (texts : List (List ℕ)) → (flat_map (λ text. text_events text.0 text.1) (enumerate_from n texts) ≡ []) ⊎ ((before : List Event) × (flat_map (λ text. text_events text.0 text.1) (enumerate_from n texts) ≡ before ++ End ∷ []))
texts_end n [] = inl refl
texts_end n (text ∷ texts) =
    let lines : List Event = map Line (text_lines n text) in
    ⊎_elim
    (λ none. inr (lines, ap (λ (rest : List Event). (lines ++ End ∷ []) ++ rest) none ∙ append-nil (lines ++ End ∷ [])))
    (λ (before, is). inr ((lines ++ End ∷ []) ++ before, ap (λ (rest : List Event). (lines ++ End ∷ []) ++ rest) is ∙ sym (append_assoc (lines ++ End ∷ []) before (End ∷ []))))
    (texts_end (n + 1) texts)

nothing_follows : (statements : List (Option Statement)) (last : Bool) → AllZip EventSays [] statements → Continued false (said statements) last → last ≡ false
nothing_follows [] last each is = sym is
nothing_follows (s ∷ statements) last each is = absurd each

pub texts_closed : (texts : List (List ℕ)) (statements : List (Option Statement)) (last : Bool) → AllZip EventSays (events_of texts) statements → Continued false (said statements) last → last ≡ false
texts_closed texts statements last each is = ⊎_elim
    (λ none. nothing_follows statements last (subst (λ (es : List Event). AllZip EventSays es statements) none each) is)
    (λ (before, ends). closed before statements false last (subst (λ (es : List Event). AllZip EventSays es statements) ends each) is)
    (texts_end 1 texts)

-- ---- lines of zones in turn

-- each entry continues just what goes on
abbrev pub Follow : Bool → List Entry → Bool → Type 0
Follow first [] last = first ≡ last
Follow first (entry ∷ said) last = (first ≡ is_continuation entry) × Follow (goes_on entry) said last

-- lines that are of no zone come between zones
pub zones_follow : (first last : Bool) (statements : List Statement) → Continued first statements last → Follow first (flat_map zone_entries_in (flat_map entries_in statements)) last
zones_follow first last [] is = is
zones_follow first last (Entered (entries.Rule rule) ∷ statements) is = zones_follow first last statements (subst (λ (b : Bool). Continued b statements last) (sym is.0) is.1)
zones_follow first last (Entered (entries.Zone name line) ∷ statements) is = (is.0, zones_follow (has_until line) last statements is.1)
zones_follow first last (Entered (entries.Continuation line) ∷ statements) is = (is.0, zones_follow (has_until line) last statements is.1)
zones_follow first last (Entered (entries.Link link) ∷ statements) is = zones_follow first last statements (subst (λ (b : Bool). Continued b statements last) (sym is.0) is.1)
zones_follow first last (Ended ∷ statements) is = zones_follow first last statements (subst (λ (b : Bool). Continued b statements last) (sym is.0) is.1)

-- an UNTIL on each line but the last, and none there
abbrev pub HasUntils : ZoneLines → Type 0
HasUntils zone = map has_until (lines_of_zone zone) ≡ (map (λ _. true) zone.continuations ++ false ∷ [])

-- no continuation line has to follow before zones
before_zones : (zones : List ZoneLines) (first : Bool) → Follow first (flat_map entries_of_zone zones) false → first ≡ false
before_zones [] first is = is
before_zones (zone ∷ zones) first is = is.0

in_zone : (line : ZoneLine) (lines : List ZoneLine) (zones : List ZoneLines) → Follow (has_until line) (map entries.Continuation lines ++ flat_map entries_of_zone zones) false
    → (map has_until (line ∷ lines) ≡ (map (λ _. true) lines ++ false ∷ [])) × Follow false (flat_map entries_of_zone zones) false
in_zone line [] zones is =
    let none : has_until line ≡ false = before_zones zones (has_until line) is in
    (ap (λ (b : Bool). b ∷ []) none, subst (λ (b : Bool). Follow b (flat_map entries_of_zone zones) false) none is)
in_zone line (next ∷ lines) zones is =
    let rest = in_zone next lines zones is.1 in
    (ap (λ (b : Bool). b ∷ map has_until (next ∷ lines)) is.0 ∙ ap (λ (bs : List Bool). true ∷ bs) rest.0, rest.1)

pub have_untils : (zones : List ZoneLines) → Follow false (flat_map entries_of_zone zones) false → (zone : ZoneLines) → Contains zones zone → HasUntils zone
have_untils [] is zone has = absurd (omega (arith, has.1))
have_untils (own ∷ zones) is zone has =
    let both = in_zone own.first own.continuations zones is.1 in
    ⊎_elim
    (λ same. subst HasUntils same both.0)
    (λ rest. have_untils zones both.1 zone rest)
    (cons_cases own zones zone has)
