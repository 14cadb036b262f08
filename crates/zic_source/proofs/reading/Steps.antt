-- Reading goes on by one event: nothing is read at first, and what is read stays read with one blank line, one entry or one end
-- of a text more.
use Rattle.std.proofs.Common.{◌≡◌, ◌≤◌, false, List, [], ◌∷◌, ◌++◌, Option, Some, None, refl, sym, ap, subst, ◌∙◌, arith}
use Rattle.std.specs.Prelude.{flat_map}
use Rattle.std.specs.List.{AllZip}
use Rattle.std.proofs.lemmas.Grind.{flat_map-append}
use Rattle.std.proofs.lemmas.List.{append-nil}
use Rattle.std.proofs.lemmas.List.Elements.{filter_map-append}
use Rattle.std.proofs.lemmas.List.Sums.{sum_by_push}
use Rattle.zic_base.specs.Check.{first_failed}
use Rattle.zic_lines.specs.declared.entry.Entry.{Entry}
use Rattle.zic_lines.specs.declared.entry.Entry.TheVariants as entries
use Rattle.zic_lines.specs.declared.rule_line.Rule.{Rule}
use Rattle.zic_lines.specs.declared.link.Link.{Link}
use Rattle.zic_lines.specs.declared.zone_line.ZoneLine.{ZoneLine}
use Rattle.zic_lines.specs.Entry.{has_until, is_continuation, goes_on, rules_in, links_in, zone_entries_in}
use Rattle.zic_lines.specs.Line.{PlacedLine}
use Rattle.zic_lines.specs.Grammar.{Says}
use Rattle.zic_source.specs.Event.{Event, Line, End}
use Rattle.zic_source.specs.Source.{SourceLines, entries_of_zone}
use Rattle.zic_source.specs.code.Lines.{no_lines}
use Rattle.zic_source.specs.Grammar.{Statement, Entered, Ended, EventSays, said, entries_in, is_open, IsRead}
use Rattle.zic_source.specs.Checks.{entry_checks}
use Rattle.zic_source.specs.FirstFault.{SaysNext}
use Rattle.zic_source.specs.code.Adding.{continued, with_entry}
use Rattle.zic_source.proofs.reading.Continuations.{Continued, joined}
use Rattle.zic_source.proofs.reading.Zones.{lines_in, zone_lines_said, open_after, open_continued}
use Rattle.zic_source.proofs.reading.Limits.{IsOf, Limit, amount, amount_in, most, amount_said, HasRoom, room_if_passed}
use Rattle.zic_source.proofs.reading.Read.{entries_of, Read, read_is, is_read}

-- ---- one entry more is said

pushed : {X A : Type 0} (f : X → List A) (xs : List X) (x : X) → flat_map f (xs ++ x ∷ []) ≡ flat_map f xs ++ f x
pushed f xs x = flat_map-append f xs (x ∷ []) ∙ ap (λ (rest : List _). flat_map f xs ++ rest) (append-nil (f x))

-- an entry of another kind adds nothing
unchanged : {A : Type 0} (f : Entry → List A) (said : List Entry) (entry : Entry) → f entry ≡ [] → flat_map f said ≡ flat_map f (said ++ entry ∷ [])
unchanged f said entry none = sym (pushed f said entry ∙ ap (λ (rest : List _). flat_map f said ++ rest) none ∙ append-nil (flat_map f said))

module _ (source : SourceLines) (said : List Entry) (is : IsOf source said) where
  added : (entry : Entry) → is_continuation entry ≡ is_open source → IsOf (with_entry source entry) (said ++ entry ∷ [])
  added (entries.Rule rule) next = let entry : Entry = entries.Rule rule in record {
    rules = ap (λ (rules : List Rule). rules ++ rule ∷ []) is.rules ∙ sym (pushed rules_in said entry);
    zones = is.zones ∙ unchanged zone_entries_in said entry refl;
    links = is.links ∙ unchanged links_in said entry refl;
  }
  added (entries.Zone name line) next = let entry : Entry = entries.Zone name line in record {
    rules = is.rules ∙ unchanged rules_in said entry refl;
    zones = pushed entries_of_zone source.zones (record { name = name; first = line; continuations = [] }) ∙ ap (λ (es : List Entry). es ++ entry ∷ []) is.zones ∙ sym (pushed zone_entries_in said entry);
    links = is.links ∙ unchanged links_in said entry refl;
  }
  added (entries.Continuation line) next = let entry : Entry = entries.Continuation line in record {
    rules = is.rules ∙ unchanged rules_in said entry refl;
    zones = open_continued source.zones line next ∙ ap (λ (es : List Entry). es ++ entry ∷ []) is.zones ∙ sym (pushed zone_entries_in said entry);
    links = is.links ∙ unchanged links_in said entry refl;
  }
  added (entries.Link link) next = let entry : Entry = entries.Link link in record {
    rules = is.rules ∙ unchanged rules_in said entry refl;
    zones = is.zones ∙ unchanged zone_entries_in said entry refl;
    links = ap (λ (links : List Link). links ++ link ∷ []) is.links ∙ sym (pushed links_in said entry);
  }

  opens_at : (entry : Entry) (line : ZoneLine) → is_continuation entry ≡ is_open source → lines_in entry ≡ line ∷ [] → is_open (with_entry source entry) ≡ has_until line
  opens_at entry line next own =
      let now = added entry next in
      open_after (with_entry source entry) (flat_map lines_in said) line (zone_lines_said (with_entry source entry).zones (said ++ entry ∷ []) now.zones ∙ pushed lines_in said entry ∙ ap (λ (ls : List ZoneLine). flat_map lines_in said ++ ls) own)

  opens : (entry : Entry) → is_continuation entry ≡ is_open source → goes_on entry ≡ is_open (with_entry source entry)
  opens (entries.Rule rule) next = next
  opens (entries.Zone name line) next = sym (opens_at (entries.Zone name line) line next refl)
  opens (entries.Continuation line) next = sym (opens_at (entries.Continuation line) line next refl)
  opens (entries.Link link) next = next

  fits : (entry : Entry) → is_continuation entry ≡ is_open source → HasRoom source entry → (limit : Limit) → amount (with_entry source entry) limit ≤ most limit
  fits entry next room limit =
      omega (arith, amount_said (with_entry source entry) (said ++ entry ∷ []) (added entry next) limit, sum_by_push (amount_in limit) said entry, amount_said source said is limit, room limit)

-- ---- one event more is read

zip_push : {A B : Type 0} (R : A → B → Type 0) (xs : List A) (ys : List B) (x : A) (y : B) → AllZip R xs ys → R x y → AllZip R (xs ++ x ∷ []) (ys ++ y ∷ [])
zip_push R [] [] x y each last = (last, tt)
zip_push R [] (other ∷ ys) x y each last = absurd each
zip_push R (one ∷ xs) [] x y each last = absurd each
zip_push R (one ∷ xs) (other ∷ ys) x y each last = (each.0, zip_push R xs ys x y each.1 last)

step : (before : List Event) (source now : SourceLines) (event : Event) (statement : Option Statement) (r : Read before source) → EventSays event statement
    → Continued (is_open source) (said (statement ∷ [])) (is_open now) → IsOf now (entries_of r.statements ++ entries_of (statement ∷ [])) → ((limit : Limit) → amount now limit ≤ most limit) → IsRead (before ++ event ∷ []) now
step before source now event statement r says continued is within =
    let more : said (r.statements ++ statement ∷ []) ≡ said r.statements ++ said (statement ∷ []) = filter_map-append (λ (s : Option Statement). s) r.statements (statement ∷ []) in
    read_is (before ++ event ∷ []) now (record {
      statements = r.statements ++ statement ∷ [];
      each = zip_push EventSays before r.statements event statement r.each says;
      continued = subst (λ (ss : List Statement). Continued false ss (is_open now)) (sym more) (joined false (is_open source) (is_open now) (said r.statements) (said (statement ∷ [])) r.continued continued);
      is = subst (IsOf now) (sym (ap (flat_map entries_in) more ∙ flat_map-append entries_in (said r.statements) (said (statement ∷ [])))) is;
      within = within;
    })

nothing_within : (limit : Limit) → amount no_lines limit ≤ most limit
nothing_within limit = let none = amount_said no_lines [] (record { rules = refl; zones = refl; links = refl }) limit in omega (arith, none)

pub none_read : IsRead [] no_lines
none_read = read_is [] no_lines (record {
  statements = [];
  each = tt;
  continued = refl;
  is = record { rules = refl; zones = refl; links = refl };
  within = nothing_within;
})

pub blank_read : (before : List Event) (source : SourceLines) (line : PlacedLine) → IsRead before source → Says line None → IsRead (before ++ Line line ∷ []) source
blank_read before source line is says =
    let r = is_read before source is in
    step before source source (Line line) None r says refl (subst (IsOf source) (sym (append-nil (entries_of r.statements))) r.is) r.within

pub entry_read : (before : List Event) (source : SourceLines) (line : PlacedLine) (entry : Entry) → IsRead before source → SaysNext source line entry → first_failed (entry_checks source entry) ≡ None → IsRead (before ++ Line line ∷ []) (with_entry source entry)
entry_read before source line entry is says passes =
    let r = is_read before source is in
    step before source (with_entry source entry) (Line line) (Some (Entered entry)) r says.0 (sym says.1, opens source (entries_of r.statements) r.is entry says.1) (added source (entries_of r.statements) r.is entry says.1)
    (fits source (entries_of r.statements) r.is entry says.1 (room_if_passed source entry r.within passes))

pub end_read : (before : List Event) (source : SourceLines) → IsRead before source → is_open source ≡ false → IsRead (before ++ End ∷ []) source
end_read before source is closed =
    let r = is_read before source is in
    step before source source End (Some Ended) r tt (closed, sym closed) (subst (IsOf source) (sym (append-nil (entries_of r.statements))) r.is) r.within
