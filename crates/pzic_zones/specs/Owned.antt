-- What a handle owns.
use base.Fml.{Fml, ftrue}
use denote.RawPtr.{Ptr}
use Rattle.std.specs.Prelude.{Option, Some, None}
use Rattle.std.specs.Box.Ownership.{box_owns}
use Rattle.std.specs.Global.{Global}
use Rattle.std_heap.specs.contracts.GlobalAllocator.TheImpl.{ghosts}
use Rattle.pzic_zones.specs.contracts.held.Held.{the_row}

-- the C library's heap
abbrev pub heap : Global
heap = record { memory = record { seal = record {} } }

-- the value at p and the right to free its block, where there is one
abbrev pub owned : Ptr → Option the_row.Denot → Fml
owned p (Some x) = box_owns (ghosts.dealloc_token heap) the_row p x
owned p None = ftrue
