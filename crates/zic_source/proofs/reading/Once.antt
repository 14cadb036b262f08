-- What is read says one source, and each event says what fits what is read before it.
use Rattle.std.proofs.Common.{◌≡◌, ◌≤◌, Bool, false, List, [], ◌∷◌, ◌++◌, Option, Some, None, refl, sym, ap, subst, ◌∙◌, arith}
use Rattle.std.specs.Prelude.{flat_map, sum_by, IfSome}
use Rattle.std.specs.List.{AllZip}
use Rattle.std.proofs.lemmas.Grind.{flat_map-append}
use Rattle.std.proofs.lemmas.List.Elements.{filter_map-append}
use Rattle.std.proofs.lemmas.List.Sums.{sum_by-append, sum_by-cons}
use Rattle.zic_lines.specs.declared.entry.Entry.{Entry}
use Rattle.zic_lines.specs.declared.rule_line.Rule.{Rule}
use Rattle.zic_lines.specs.declared.link.Link.{Link}
use Rattle.zic_lines.specs.Entry.{is_continuation}
use Rattle.zic_source.specs.Event.{Event, Line, End}
use Rattle.zic_source.specs.Source.{SourceLines, ZoneLines}
use Rattle.zic_source.specs.Grammar.{Statement, Entered, Ended, EventSays, said, entries_in, goes_on, continues, is_open, IsRead}
use Rattle.zic_lines.proofs.Entries.{says_once}
use Rattle.zic_source.proofs.reading.Continuations.{Continued, parted, InTurn, turns, first_turns}
use Rattle.zic_source.proofs.reading.Zones.{same_zones}
use Rattle.zic_source.proofs.reading.Limits.{IsOf, Limit, amount, amount_in, most, amount_said, HasRoom}
use Rattle.zic_source.proofs.reading.Read.{entries_of, is_read}

-- ---- each event says one thing

-- the statement continues where one has to
abbrev Continues : Bool → Option Statement → Type 0
Continues first statement = IfSome statement (λ s. first ≡ continues s)

event_once : (first : Bool) (event : Event) (one other : Option Statement) → EventSays event one → EventSays event other → Continues first one → Continues first other → one ≡ other
event_once first (Line line) None None says says' at at' = refl
event_once first (Line line) None (Some (Entered entry)) says says' at at' = let same : ◌≡◌ {A = Option Entry} None (Some entry) = says_once first line None (Some entry) says tt says' (sym at') in absurd cc
event_once first (Line line) (Some (Entered entry)) None says says' at at' = let same : Some entry ≡ None = says_once first line (Some entry) None says (sym at) says' tt in absurd cc
event_once first (Line line) (Some (Entered entry)) (Some (Entered other)) says says' at at' =
    let same : Some entry ≡ Some other = says_once first line (Some entry) (Some other) says (sym at) says' (sym at') in
    let one : entry ≡ other = cc in ap (λ (e : Entry). Some (Entered e)) one
event_once first (Line line) (Some Ended) other says says' at at' = absurd says
event_once first (Line line) one (Some Ended) says says' at at' = absurd says'
event_once first End (Some Ended) (Some Ended) says says' at at' = refl
event_once first End (Some Ended) other says says' at at' = absurd says'
event_once first End one other says says' at at' = absurd says

-- whether one has to follow a statement, or still has to where nothing is said
abbrev next : Bool → Option Statement → Bool
next first None = first
next first (Some statement) = goes_on statement

turn : (first : Bool) (own : Option Statement) (statements : List (Option Statement)) → InTurn first (said (own ∷ statements)) → Continues first own × InTurn (next first own) (said statements)
turn first None statements is = (tt, is)
turn first (Some statement) statements is = (is.0, is.1)

events_once : (first : Bool) (events : List Event) (one other : List (Option Statement)) → AllZip EventSays events one → AllZip EventSays events other → InTurn first (said one) → InTurn first (said other) → one ≡ other
events_once first [] [] [] each each' is is' = refl
events_once first [] (s ∷ one) other each each' is is' = absurd each
events_once first [] one (s ∷ other) each each' is is' = absurd each'
events_once first (event ∷ events) [] other each each' is is' = absurd each
events_once first (event ∷ events) one [] each each' is is' = absurd each'
events_once first (event ∷ events) (s ∷ one) (t ∷ other) each each' is is' =
    let at = turn first s one is in
    let at' = turn first t other is' in
    let same : s ≡ t = event_once first event s t each.0 each'.0 at.0 at'.0 in
    let rest : one ≡ other = events_once (next first t) events one other each.1 each'.1 (subst (λ (o : Option Statement). InTurn (next first o) (said one)) same at.1) at'.1 in
    ap (λ (u : Option Statement). u ∷ one) same ∙ ap (λ (ss : List (Option Statement)). t ∷ ss) rest

-- a source is what is said
same_source : (said : List Entry) (one other : SourceLines) → IsOf one said → IsOf other said → one ≡ other
same_source said one other is is' =
    ap (λ (rules : List Rule). record { rules = rules; zones = one.zones; links = one.links }) (is.rules ∙ sym is'.rules)
    ∙ ap (λ (zones : List ZoneLines). record { rules = other.rules; zones = zones; links = one.links }) (same_zones one.zones other.zones (is.zones ∙ sym is'.zones))
    ∙ ap (λ (links : List Link). record { rules = other.rules; zones = other.zones; links = links }) (is.links ∙ sym is'.links)

pub read_once : (events : List Event) (one other : SourceLines) → IsRead events one → IsRead events other → one ≡ other
read_once events one other is is' =
    let r = is_read events one is in
    let r' = is_read events other is' in
    same_source (entries_of r'.statements) one other (subst (λ (ss : List (Option Statement)). IsOf one (entries_of ss)) (events_once false events r.statements r'.statements r.each r'.each (turns _ _ _ r.continued) (turns _ _ _ r'.continued)) r.is) r'.is

-- ---- one event more

-- what an event says has its place after what is read, and there is room for it
abbrev pub Fits : SourceLines → Option Statement → Type 0
Fits source None = Unit {0}
Fits source (Some (Entered entry)) = (is_continuation entry ≡ is_open source) × HasRoom source entry
Fits source (Some Ended) = is_open source ≡ false

module _ (source total : SourceLines) (first : List (Option Statement)) (continued : Continued false (said first) (is_open source)) (is : IsOf source (entries_of first)) where
  follows : (own : Option Statement) (last : List (Option Statement)) → Continued false (said (first ++ own ∷ last)) (is_open total) → Continued (is_open source) (said (own ∷ last)) (is_open total)
  follows own last all =
      parted false (is_open source) (is_open total) (said first) (said (own ∷ last))
      (subst (λ (ss : List Statement). Continued false ss (is_open total)) (filter_map-append (λ (s : Option Statement). s) first (own ∷ last)) all) continued

  has_room : (entry : Entry) (last : List (Option Statement)) → IsOf total (entries_of (first ++ Some (Entered entry) ∷ last)) → ((limit : Limit) → amount total limit ≤ most limit) → HasRoom source entry
  has_room entry last all within limit =
      let cut : entries_of (first ++ Some (Entered entry) ∷ last) ≡ entries_of first ++ entry ∷ entries_of last =
      ap (flat_map entries_in) (filter_map-append (λ (s : Option Statement). s) first (Some (Entered entry) ∷ last)) ∙ flat_map-append entries_in (said first) (said (Some (Entered entry) ∷ last)) in
      let sums : amount total limit ≡ sum_by (amount_in limit) (entries_of first ++ entry ∷ entries_of last) = amount_said total _ all limit ∙ ap (sum_by (amount_in limit)) cut in
      omega (arith, within limit, sums, sum_by-append (amount_in limit) (entries_of first) (entry ∷ entries_of last), sum_by-cons (amount_in limit) entry (entries_of last), amount_said source (entries_of first) is limit)

  fits : (own : Option Statement) (last : List (Option Statement)) → Continued false (said (first ++ own ∷ last)) (is_open total) → IsOf total (entries_of (first ++ own ∷ last)) → ((limit : Limit) → amount total limit ≤ most limit) → Fits source own
  fits None last continued all within = tt
  fits (Some (Entered entry)) last continued all within = (sym (follows (Some (Entered entry)) last continued).0, has_room entry last all within)
  fits (Some Ended) last continued all within = (follows (Some Ended) last continued).0

-- what is said of events, cut at one of them
record Cut (before : List Event) (event : Event) (statements : List (Option Statement)) : Type 0 where
  first : List (Option Statement)
  own : Option Statement
  last : List (Option Statement)
  are : statements ≡ first ++ own ∷ last
  of_first : AllZip EventSays before first
  of_own : EventSays event own

cut : (before : List Event) (event : Event) (after : List Event) (statements : List (Option Statement)) → AllZip EventSays (before ++ event ∷ after) statements → Cut before event statements
cut [] event after [] each = absurd each
cut [] event after (own ∷ last) each = record { first = []; own = own; last = last; are = refl; of_first = tt; of_own = each.0 }
cut (one ∷ before) event after [] each = absurd each
cut (one ∷ before) event after (s ∷ statements) each =
    let rest = cut before event after statements each.1 in
    record { first = s ∷ rest.first; own = rest.own; last = rest.last; are = ap (λ (ss : List (Option Statement)). s ∷ ss) rest.are; of_first = (each.0, rest.of_first); of_own = rest.of_own }

-- what an event that is read says fits what is read before it
pub event_fits : (before : List Event) (event : Event) (after : List Event) (source total : SourceLines) → IsRead before source → IsRead (before ++ event ∷ after) total → (own : Option Statement) × EventSays event own × Fits source own
event_fits before event after source total is all =
    let r = is_read before source is in
    let t = is_read (before ++ event ∷ after) total all in
    let c = cut before event after t.statements t.each in
    let in_turn : InTurn false (said c.first) = first_turns false (said c.first) (said (c.own ∷ c.last))
    (subst (InTurn false) (ap said c.are ∙ filter_map-append (λ (s : Option Statement). s) c.first (c.own ∷ c.last)) (turns _ _ _ t.continued)) in
    let are : t.statements ≡ r.statements ++ c.own ∷ c.last = c.are ∙ ap (λ (ss : List (Option Statement)). ss ++ c.own ∷ c.last) (events_once false before c.first r.statements c.of_first r.each in_turn (turns _ _ _ r.continued)) in (
      c.own,
      c.of_own,
      fits source total r.statements r.continued r.is c.own c.last
          (subst (λ (ss : List (Option Statement)). Continued false (said ss) (is_open total)) are t.continued)
          (subst (λ (ss : List (Option Statement)). IsOf total (entries_of ss)) are t.is) t.within,
    )
