-- The occurrences of a line.
use Rattle.std.specs.Prelude.{List}
use Rattle.zic_states.specs.declared.occurrence.LineOccurrences.{LineOccurrences}
use Rattle.zic_states.specs.declared.occurrence.LineOccurrences.TheVariants.{Shared, Own}
use Rattle.zic_states.specs.declared.occurrence.TimedOccurrence.{TimedOccurrence}

-- the list, whether it is shared or the line's own
abbrev pub items_of : LineOccurrences → List TimedOccurrence
items_of (Shared items) = items.now
items_of (Own items) = items.items
