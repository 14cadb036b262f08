-- The events of the two words NEXT and FAULT, and what each pass knows after them. A draw
-- adds 1 to NEXT, a report lowers FAULT, and a glance reads FAULT. Splitting and joining passes
-- move what is known, and change neither word.
use Rattle.std.specs.Prelude.{ℕ, ◌-◌, ◌+◌, false, ◌||◌, nat_le, min, [], ◌∷◌, ◌++◌}
use Rattle.zic_pieces.specs.declared.pass.Event.TheVariants.{Drew, Reported, Glanced}
use Rattle.zic_pieces.specs.declared.pass.Known.{Known}
use Rattle.zic_pieces.specs.Events.{past}

-- the first pass of n pieces stands for 1,024 passes, has no events and has seen n
abbrev pub first : ℕ → Known
first n = record { pieces = n; parts = 1024; seen = n; ended = false; events = [] }

-- a draw of i keeps what the pass had seen; a pass that draws n or more has ended
abbrev pub drew : ℕ → Known → Known
drew i v = record {
  pieces = v.pieces;
  parts = v.parts;
  seen = v.seen;
  ended = nat_le v.pieces i;
  events = v.events ++ Drew i v.seen ∷ [];
}

-- a report of i lowers what the pass has seen to i, if that is less
abbrev pub reported : ℕ → Known → Known
reported i v = record {
  pieces = v.pieces;
  parts = v.parts;
  seen = min v.seen i;
  ended = v.ended;
  events = v.events ++ Reported i ∷ [];
}

-- a glance that finds `least` keeps the greatest draw of its pass, and lowers what the pass has
-- seen
abbrev pub glanced : ℕ → Known → Known
glanced least v = record {
  pieces = v.pieces;
  parts = v.parts;
  seen = min v.seen least;
  ended = v.ended;
  events = v.events ++ Glanced least (past v.events) ∷ [];
}

-- the old pass, once another was split off: the events stay with it
abbrev pub left : Known → Known
left v = record {
  pieces = v.pieces;
  parts = v.parts - 1;
  seen = v.seen;
  ended = v.ended;
  events = v.events;
}

-- the pass split off has room 0 and no events, and keeps what the old one had seen and whether it
-- had ended
abbrev pub right : Known → Known
right v = record { pieces = v.pieces; parts = 1; seen = v.seen; ended = v.ended; events = [] }

-- two passes made one: all events of both, the lesser of what they had seen; it has ended if
-- either had
abbrev pub both : Known → Known → Known
both v w = record {
  pieces = v.pieces;
  parts = v.parts + w.parts;
  seen = min v.seen w.seen;
  ended = v.ended || w.ended;
  events = v.events ++ w.events;
}

-- the rest of a pass that is now part of another
abbrev pub spent : Known
spent = record { pieces = 0; parts = 0; seen = 0; ended = false; events = [] }
