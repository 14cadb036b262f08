-- What a text of version 2 spells it spells in version 3 too.
use Rattle.std.proofs.Common.{◌≡◌, ℕ, ℤ, Option, Some, None, List, [], refl, arith, inl, inr}
use Rattle.std.specs.Prelude.{MatchOption}
use Rattle.zic_posix.specs.declared.footer.Dst.{Dst}
use Rattle.zic_posix.specs.declared.footer.Edge.{Edge}
use Rattle.zic_posix.specs.Footer.{TzString}
use Rattle.zic_posix.specs.Grammar.{SpellsNumber, SpellsClock, SpellsTime, SpellsEdge, SpellsDaylight, Spells}
use Rattle.zic_posix.proofs.NumberLemmas.{number_by, number_has}

hours_wider : (text : List ℕ) (n : ℕ) → SpellsNumber 2 0 24 text n → SpellsNumber 3 0 167 text n
hours_wider text n spells = record {
  value = (let has = number_has 2 text n spells.value in number_by 3 text n (record {
    some = has.some;
    short = omega (arith, has.short);
    digits = has.digits;
    value = has.value;
  }));
  at_least = spells.at_least;
  at_most = omega (arith, spells.at_most);
}

clock_wider : (text : List ℕ) (n : ℕ) → SpellsClock 2 24 text n → SpellsClock 3 167 text n
clock_wider text n spells = record {
  hours = spells.hours;
  h = spells.h;
  m = spells.m;
  s = spells.s;
  spells_hours = hours_wider spells.hours spells.h spells.spells_hours;
  form = spells.form;
  value = spells.value;
}

time_wider : (text : List ℕ) (time : ℤ) → SpellsTime 2 text time → SpellsTime 3 text time
time_wider text time (inl plain) =
    inr (refl, record { clock = text; size = plain.1.0; spells_clock = clock_wider text plain.1.0 plain.1.1; form = inl (refl, plain.1.2) })
time_wider text time (inr signed) = inr (refl, signed.1)

edge_wider : (text : List ℕ) (edge : Edge) → SpellsEdge 2 text edge → SpellsEdge 3 text edge
edge_wider text edge spells = record {
  day = spells.day;
  spells_day = spells.spells_day;
  form = elim spells.form [
    | inl usual ↦ inl usual
    | inr facts ↦ inr (facts.0, facts.1, time_wider facts.0 edge.time facts.2)
  ];
}

rest_wider : (standard : ℤ) (rest : List ℕ) (dst : Option Dst) → MatchOption dst (rest ≡ []) (SpellsDaylight 2 standard rest) → MatchOption dst (rest ≡ []) (SpellsDaylight 3 standard rest)
rest_wider standard rest None spells = spells
rest_wider standard rest (Some dst) spells = record {
  name = spells.name;
  offset = spells.offset;
  start = spells.start;
  stop = spells.stop;
  parts = spells.parts;
  spells_name = spells.spells_name;
  spells_offset = spells.spells_offset;
  spells_start = edge_wider spells.start dst.start spells.spells_start;
  spells_stop = edge_wider spells.stop dst.stop spells.spells_stop;
}

pub spells_wider : (text : List ℕ) (f : TzString) → Spells 2 text f → Spells 3 text f
spells_wider text f spells = record {
  name = spells.name;
  offset = spells.offset;
  rest = spells.rest;
  known = inr refl;
  parts = spells.parts;
  spells_name = spells.spells_name;
  spells_offset = spells.spells_offset;
  spells_rest = rest_wider f.offset spells.rest f.dst spells.spells_rest;
}
