-- The bytes of a text, inline or on the heap; no public contract cites them.
use Rattle.std.specs.Prelude.{ℕ, List}
use Rattle.zic_base.specs.declared.short_text.Octets.{Octets}
use Rattle.zic_base.specs.declared.short_text.Octets.TheVariants.{Inline, Heap}

-- the bytes that lie there
abbrev pub octets_of : {N : ℕ} → Octets N → List ℕ
octets_of (Inline inline) = inline
octets_of (Heap heap) = heap.items
