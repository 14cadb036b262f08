-- A string that is read is the string that is spelled, and what is spelled is read.
use Rattle.std.proofs.Common.{◌≡◌, ℕ, ◌<◌, ◌⊎◌, ℤ, pos, ◌+ℤ◌, eqb, leb, false, cond, Option, Some, None, List, [], ◌∷◌, ◌++◌, length, refl, sym, ap, subst, ◌∙◌, arith, inl, inr}
use Rattle.std.specs.Prelude.{MatchOption}
use Rattle.std.proofs.lemmas.Bool.{eqb-true, ne_eqb, and_right, lt-leb}
use Rattle.std.proofs.lemmas.List.{append-nil, nil_from_length}
use Rattle.zic_base.specs.Option.{◌>>=◌}
use Rattle.zic_posix.specs.declared.footer.Dst.{Dst}
use Rattle.zic_posix.specs.declared.footer.Edge.{Edge}
use Rattle.zic_posix.specs.Footer.{TzString}
use Rattle.zic_posix.specs.Grammar.{is_letter, SpellsName, SpellsOffset, SpellsDaylight, Spells, IsName, IsOffset, IsDaylight, IsTzString}
use Rattle.zic_posix.specs.code.Reading.{name_at, offset_at, daylight_offset_at, next_edge_at, daylight_at, string_of}
use Rattle.zic_posix.proofs.Steps.{bind_some, guard_some, some_is, branch, NotFirst}
use Rattle.zic_posix.proofs.NameLemmas.{name_again, name_takes, name_first, name_bytes}
use Rattle.zic_posix.proofs.ClockLemmas.{EndsClock}
use Rattle.zic_posix.proofs.SignedLemmas.{offset_again, offset_takes, offset_first, offset_limit}
use Rattle.zic_posix.proofs.EdgeLemmas.{ends_edge, comma_ends_edge, next_edge_again, next_edge_takes, edge_limit}

-- ---- daylight parts

-- how a daylight part tells its offset
abbrev GivesOffset : ℤ → List ℕ → ℤ → Type 0
GivesOffset standard text offset = ((text ≡ []) × (offset ≡ standard +ℤ pos 3600)) ⊎ SpellsOffset text offset

none_facts : (standard : ℤ) (rest : List ℕ) → daylight_offset_at standard (44 ∷ rest) ≡ Some (standard +ℤ pos 3600, 44 ∷ rest)
unfolding daylight_offset_at
none_facts standard rest = refl

some_facts : (standard : ℤ) (text : List ℕ) (b : ℕ) (more : List ℕ) → text ≡ b ∷ more → eqb b 44 ≡ false → daylight_offset_at standard text ≡ offset_at text
unfolding daylight_offset_at
some_facts standard text b more e other = rw e (rw other refl)

facts_again : (standard offset : ℤ) (text rest : List ℕ) → GivesOffset standard text offset → daylight_offset_at standard (text ++ 44 ∷ rest) ≡ Some (offset, 44 ∷ rest)
facts_again standard offset text rest (inl none) = rw (none.0, none.1) (none_facts standard rest)
facts_again standard offset text rest (inr some) =
    let first = offset_first text offset some in
    some_facts standard (text ++ 44 ∷ rest) first.0 (first.1 ++ 44 ∷ rest) (ap (λ (x : List ℕ). x ++ 44 ∷ rest) first.2) first.4
    ∙ offset_again text offset (44 ∷ rest) some (record { no_digit = refl; no_colon = refl })

takes_facts : (standard offset : ℤ) (text rest : List ℕ) → daylight_offset_at standard text ≡ Some (offset, rest) → (front : List ℕ) × (text ≡ front ++ rest) × GivesOffset standard front offset
unfolding daylight_offset_at
takes_facts standard offset [] rest e =
    let t = offset_takes [] offset rest e in
    (t.front, t.parts, inr t.spells)
takes_facts standard offset (b ∷ text) rest e =
    elim (branch (eqb b 44) (Some (standard +ℤ pos 3600, b ∷ text)) (offset_at (b ∷ text)) (Some (offset, rest)) e) [
      | inl comma ↦ (
          let p = some_is (standard +ℤ pos 3600, b ∷ text) (offset, rest) comma.1 in
          ([], ap (λ (q : ℤ × List ℕ). q.1) p, inl (refl, ap (λ (q : ℤ × List ℕ). q.0) (sym p))))
      | inr other ↦ (let t = offset_takes (b ∷ text) offset rest other.1 in (t.front, t.parts, inr t.spells))
    ]

-- after a name of a daylight part stands no letter
first_facts : (standard offset : ℤ) (text rest : List ℕ) → GivesOffset standard text offset → NotFirst is_letter (text ++ 44 ∷ rest)
first_facts standard offset text rest (inl none) = rw none.0 refl
first_facts standard offset text rest (inr some) =
    let first = offset_first text offset some in
    rw first.2 first.3

daylight_by : (version : ℕ) (standard : ℤ) (text a b c rest : List ℕ) (dst : Dst) → name_at text ≡ Some (dst.name, a) → daylight_offset_at standard a ≡ Some (dst.offset, b) → next_edge_at version b ≡ Some (dst.start, c) → next_edge_at version c ≡ Some (dst.stop, rest) → daylight_at version standard text ≡ Some (dst, rest)
unfolding daylight_at
daylight_by version standard text a b c rest dst en eo es et = rw (en, eo, es, et) refl

-- what is spelled is read
daylight_again : (version : ℕ) (standard : ℤ) (text : List ℕ) (dst : Dst) → SpellsDaylight version standard text dst → daylight_at version standard text ≡ Some (dst, [])
daylight_again version standard text dst spells =
    let offset = spells.offset in
    let start = spells.start in
    let stop = spells.stop in
    rw spells.parts (daylight_by version standard (spells.name ++ (offset ++ 44 ∷ (start ++ 44 ∷ stop))) (offset ++ 44 ∷ (start ++ 44 ∷ stop)) (44 ∷ (start ++ 44 ∷ stop)) (44 ∷ stop) [] dst
    (name_again spells.name dst.name (offset ++ 44 ∷ (start ++ 44 ∷ stop)) spells.spells_name (first_facts standard dst.offset offset (start ++ 44 ∷ stop) spells.spells_offset))
    (facts_again standard dst.offset offset (start ++ 44 ∷ stop) spells.spells_offset)
    (next_edge_again version start dst.start (44 ∷ stop) spells.spells_start (comma_ends_edge stop))
    (subst (λ (x : List ℕ). next_edge_at version (44 ∷ x) ≡ Some (dst.stop, [])) (append-nil stop) (next_edge_again version stop dst.stop [] spells.spells_stop ends_edge)))

daylight_made : (version : ℕ) (standard offset : ℤ) (text name a b c : List ℕ) (start stop : Edge) → (version ≡ 2) ⊎ (version ≡ 3) → name_at text ≡ Some (name, a) → daylight_offset_at standard a ≡ Some (offset, b) → next_edge_at version b ≡ Some (start, c) → next_edge_at version c ≡ Some (stop, [])
    → SpellsDaylight version standard text (record { name = name; offset = offset; start = start; stop = stop })
daylight_made version standard offset text name a b c start stop known en eo es et =
    let n = name_takes text name a en in
    let o = takes_facts standard offset a b eo in
    let s = next_edge_takes version b start c known es in
    let t = next_edge_takes version c stop [] known et in
    record {
      name = n.front;
      offset = o.0;
      start = s.0;
      stop = t.0;
      parts = n.parts ∙ ap (λ (x : List ℕ). n.front ++ x) (o.1 ∙ ap (λ (x : List ℕ). o.0 ++ x) (s.1 ∙ ap (λ (x : List ℕ). 44 ∷ (s.0 ++ x)) (t.1 ∙ ap (λ (x : List ℕ). 44 ∷ x) (append-nil t.0))));
      spells_name = n.spells;
      spells_offset = o.2;
      spells_start = s.2;
      spells_stop = t.2;
    }

-- what follows the parts of a daylight part that have been read
abbrev after_start : List ℕ → ℤ → ℕ → Edge × List ℕ → Option (Dst × List ℕ)
after_start name offset version start =
    next_edge_at version start.1 >>= λ stop. Some (record { name = name; offset = offset; start = start.0; stop = stop.0 }, stop.1)

abbrev after_offset : List ℕ → ℕ → ℤ × List ℕ → Option (Dst × List ℕ)
after_offset name version offset = next_edge_at version offset.1 >>= after_start name offset.0 version

abbrev after_name : ℤ → ℕ → List ℕ × List ℕ → Option (Dst × List ℕ)
after_name standard version name = daylight_offset_at standard name.1 >>= after_offset name.0 version

stop_takes : (version : ℕ) (standard offset : ℤ) (text name a b c : List ℕ) (start : Edge) (dst : Dst) → (version ≡ 2) ⊎ (version ≡ 3) → name_at text ≡ Some (name, a) → daylight_offset_at standard a ≡ Some (offset, b) → next_edge_at version b ≡ Some (start, c) → after_start name offset version (start, c) ≡ Some (dst, [])
    → SpellsDaylight version standard text dst
stop_takes version standard offset text name a b c start dst known en eo es e =
    let stop = bind_some (next_edge_at version c) (λ stop. Some (record { name = name; offset = offset; start = start; stop = stop.0 }, stop.1)) (dst, []) e in
    let p = some_is (record { name = name; offset = offset; start = start; stop = stop.0.0 }, stop.0.1) (dst, []) stop.2 in
    let nothing : stop.0.1 ≡ [] = ap (λ (q : Dst × List ℕ). q.1) p in
    subst (λ (d : Dst). SpellsDaylight version standard text d) (ap (λ (q : Dst × List ℕ). q.0) p)
    (daylight_made version standard offset text name a b c start stop.0.0 known en eo es (stop.1 ∙ ap (λ (x : List ℕ). Some (stop.0.0, x)) nothing))

start_takes : (version : ℕ) (standard offset : ℤ) (text name a b : List ℕ) (dst : Dst) → (version ≡ 2) ⊎ (version ≡ 3) → name_at text ≡ Some (name, a) → daylight_offset_at standard a ≡ Some (offset, b) → after_offset name version (offset, b) ≡ Some (dst, [])
    → SpellsDaylight version standard text dst
start_takes version standard offset text name a b dst known en eo e =
    let start = bind_some (next_edge_at version b) (after_start name offset version) (dst, []) e in
    stop_takes version standard offset text name a b start.0.1 start.0.0 dst known en eo start.1 start.2

after_name_takes : (version : ℕ) (standard : ℤ) (text name a : List ℕ) (dst : Dst) → (version ≡ 2) ⊎ (version ≡ 3) → name_at text ≡ Some (name, a) → after_name standard version (name, a) ≡ Some (dst, []) → SpellsDaylight version standard text dst
after_name_takes version standard text name a dst known en e =
    let offset = bind_some (daylight_offset_at standard a) (after_offset name version) (dst, []) e in
    start_takes version standard offset.0.0 text name a offset.0.1 dst known en offset.1 offset.2

-- what is read is spelled
daylight_takes : (version : ℕ) (standard : ℤ) (text : List ℕ) (dst : Dst) → (version ≡ 2) ⊎ (version ≡ 3) → daylight_at version standard text ≡ Some (dst, []) → SpellsDaylight version standard text dst
unfolding daylight_at
daylight_takes version standard text dst known e =
    let name = bind_some (name_at text) (after_name standard version) (dst, []) e in
    after_name_takes version standard text name.0.0 name.0.1 dst known name.1 name.2

-- ---- whole strings

string_constant : (version : ℕ) (text rest : List ℕ) (std : List ℕ) (offset : ℤ) → name_at text ≡ Some (std, rest) → offset_at rest ≡ Some (offset, []) → string_of version text ≡ Some (record { std = std; offset = offset; dst = None })
unfolding string_of
string_constant version text rest std offset en eo = rw (en, eo) refl

string_daylight : (version : ℕ) (text rest back : List ℕ) (std : List ℕ) (offset : ℤ) (dst : Dst) → name_at text ≡ Some (std, rest) → offset_at rest ≡ Some (offset, back) → 0 < length back → daylight_at version offset back ≡ Some (dst, []) → string_of version text ≡ Some (record { std = std; offset = offset; dst = Some dst })
unfolding string_of
string_daylight version text rest back std offset dst en eo long ed =
    rw (en, eo) (rw (ne_eqb (length back) 0 (λ e. omega arith)) (rw ed refl))

-- a name ends an offset
name_ends : (rest : List ℕ) (b : ℕ) (more : List ℕ) → rest ≡ b ∷ more → 59 < b → EndsClock rest
name_ends rest b more e high = record {
  no_digit = rw e (and_right (leb 48 b) (leb b 57) (lt-leb b 57 (omega arith)));
  no_colon = rw e (ne_eqb b 58 (λ e. omega arith));
}

rest_again : (version : ℕ) (text std offset_text rest : List ℕ) (offset : ℤ) (dst : Option Dst) → name_at text ≡ Some (std, offset_text ++ rest) → SpellsOffset offset_text offset → MatchOption dst (rest ≡ []) (SpellsDaylight version offset rest) → string_of version text ≡ Some (record { std = std; offset = offset; dst = dst })
rest_again version text std offset_text rest offset None en spells_offset nothing =
    let none : EndsClock [] = record { no_digit = tt; no_colon = tt } in
    string_constant version text (offset_text ++ rest) std offset en (rw nothing (offset_again offset_text offset [] spells_offset none))
rest_again version text std offset_text rest offset (Some dst) en spells_offset spells =
    let first = name_first spells.name dst.name spells.spells_name in
    let begins : rest ≡ first.0 ∷ (first.1 ++ (spells.offset ++ 44 ∷ (spells.start ++ 44 ∷ spells.stop))) = spells.parts ∙ ap (λ (x : List ℕ). x ++ (spells.offset ++ 44 ∷ (spells.start ++ 44 ∷ spells.stop))) first.2 in
    let long : 0 < length rest = rw begins (omega arith) in
    string_daylight version text (offset_text ++ rest) rest std offset dst en (offset_again offset_text offset rest spells_offset (name_ends rest first.0 _ begins first.3)) long (daylight_again version offset rest dst spells)

-- what is spelled is read
pub string_again : (version : ℕ) (text : List ℕ) (f : TzString) → Spells version text f → string_of version text ≡ Some f
string_again version text f spells =
    let first = offset_first spells.offset f.offset spells.spells_offset in
    let ends : NotFirst is_letter (spells.offset ++ spells.rest) = rw first.2 first.3 in
    let en = name_again spells.name f.std (spells.offset ++ spells.rest) spells.spells_name ends in
    rest_again version text f.std spells.offset spells.rest f.offset f.dst (rw spells.parts en) spells.spells_offset spells.spells_rest

whole_made : (version : ℕ) (text std a rest : List ℕ) (offset : ℤ) (dst : Option Dst) → (version ≡ 2) ⊎ (version ≡ 3) → name_at text ≡ Some (std, a) → offset_at a ≡ Some (offset, rest) → MatchOption dst (rest ≡ []) (SpellsDaylight version offset rest) → Spells version text (record { std = std; offset = offset; dst = dst })
whole_made version text std a rest offset dst known en eo spells_rest =
    let n = name_takes text std a en in
    let o = offset_takes a offset rest eo in
    record {
      name = n.front;
      offset = o.front;
      rest = rest;
      known = known;
      parts = n.parts ∙ ap (λ (x : List ℕ). n.front ++ x) o.parts;
      spells_name = n.spells;
      spells_offset = o.spells;
      spells_rest = spells_rest;
    }

daylight_rest : (version : ℕ) (text std a rest : List ℕ) (offset : ℤ) (f : TzString) → (version ≡ 2) ⊎ (version ≡ 3) → name_at text ≡ Some (std, a) → offset_at a ≡ Some (offset, rest)
    → (daylight_at version offset rest >>= λ dst. cond (eqb (length dst.1) 0) (Some (record { std = std; offset = offset; dst = Some dst.0 })) None) ≡ Some f → Spells version text f
daylight_rest version text std a rest offset f known en eo e =
    let dst = bind_some (daylight_at version offset rest) (λ dst. cond (eqb (length dst.1) 0) (Some (record { std = std; offset = offset; dst = Some dst.0 })) None) f e in
    let made : TzString = record { std = std; offset = offset; dst = Some dst.0.0 } in
    let g = guard_some (eqb (length dst.0.1) 0) made f dst.2 in
    let read : daylight_at version offset rest ≡ Some (dst.0.0, []) = dst.1 ∙ ap (λ (x : List ℕ). Some (dst.0.0, x)) (nil_from_length dst.0.1 (eqb-true (length dst.0.1) 0 g.0)) in
    subst (λ (x : TzString). Spells version text x) g.1 (whole_made version text std a rest offset (Some dst.0.0) known en eo (daylight_takes version offset rest dst.0.0 known read))

rest_takes : (version : ℕ) (text std a rest : List ℕ) (offset : ℤ) (f : TzString) → (version ≡ 2) ⊎ (version ≡ 3) → name_at text ≡ Some (std, a) → offset_at a ≡ Some (offset, rest)
    → cond (eqb (length rest) 0) (Some (record { std = std; offset = offset; dst = None })) (daylight_at version offset rest >>= λ dst. cond (eqb (length dst.1) 0) (Some (record { std = std; offset = offset; dst = Some dst.0 })) None) ≡ Some f → Spells version text f
rest_takes version text std a rest offset f known en eo e =
    let plain : TzString = record { std = std; offset = offset; dst = None } in
    elim (branch (eqb (length rest) 0) (Some plain) (daylight_at version offset rest >>= λ dst. cond (eqb (length dst.1) 0) (Some (record { std = std; offset = offset; dst = Some dst.0 })) None) (Some f) e) [
      | inl none ↦ subst (λ (x : TzString). Spells version text x) (some_is plain f none.1) (whole_made version text std a rest offset None known en eo (nil_from_length rest (eqb-true (length rest) 0 none.0)))
      | inr some ↦ daylight_rest version text std a rest offset f known en eo some.1
    ]

-- what is read is spelled
pub string_takes : (version : ℕ) (text : List ℕ) (f : TzString) → (version ≡ 2) ⊎ (version ≡ 3) → string_of version text ≡ Some f → Spells version text f
unfolding string_of
string_takes version text f known e =
    let n = bind_some (name_at text) (λ n. offset_at n.1 >>= λ o. cond (eqb (length o.1) 0) (Some (record { std = n.0; offset = o.0; dst = None })) (daylight_at version o.0 o.1 >>= λ dst. cond (eqb (length dst.1) 0) (Some (record { std = n.0; offset = o.0; dst = Some dst.0 })) None)) f e in
    let o = bind_some (offset_at n.0.1) (λ o. cond (eqb (length o.1) 0) (Some (record { std = n.0.0; offset = o.0; dst = None })) (daylight_at version o.0 o.1 >>= λ dst. cond (eqb (length dst.1) 0) (Some (record { std = n.0.0; offset = o.0; dst = Some dst.0 })) None)) f n.2 in
    rest_takes version text n.0.0 n.0.1 o.0.1 o.0.0 f known n.1 o.1 o.2

-- a text spells at most one string
pub spells_one : (version : ℕ) (text : List ℕ) (f g : TzString) → Spells version text f → Spells version text g → f ≡ g
spells_one version text f g p q = some_is f g (sym (string_again version text f p) ∙ string_again version text g q)

-- ---- limits

name_limit : (text name : List ℕ) → SpellsName text name → IsName name
name_limit text name spells = record { long = spells.long; bytes = name_bytes text name spells }

limit_facts : (standard offset : ℤ) (text : List ℕ) → GivesOffset standard text offset → (offset ≡ standard +ℤ pos 3600) ⊎ IsOffset offset
limit_facts standard offset text (inl none) = inl none.1
limit_facts standard offset text (inr some) = inr (offset_limit text offset some)

rest_limit : (version : ℕ) (standard : ℤ) (rest : List ℕ) (dst : Option Dst) → MatchOption dst (rest ≡ []) (SpellsDaylight version standard rest) → MatchOption dst (Unit {0}) (IsDaylight standard)
rest_limit version standard rest None spells = tt
rest_limit version standard rest (Some dst) spells = record {
  name = name_limit spells.name dst.name spells.spells_name;
  offset = limit_facts standard dst.offset spells.offset spells.spells_offset;
  start = edge_limit version spells.start dst.start spells.spells_start;
  stop = edge_limit version spells.stop dst.stop spells.spells_stop;
}

-- what a text spells keeps the limits
pub limits_of : (version : ℕ) (text : List ℕ) (f : TzString) → Spells version text f → IsTzString f
limits_of version text f spells = record {
  std = name_limit spells.name f.std spells.spells_name;
  offset = offset_limit spells.offset f.offset spells.spells_offset;
  dst = rest_limit version f.offset spells.rest f.dst spells.spells_rest;
}
