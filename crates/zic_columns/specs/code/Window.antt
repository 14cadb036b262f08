-- Buffered bytes, as clauses see them.
use Rattle.std.specs.Prelude.{ℕ, ◌-◌, List, slice_range, vec_len}
use Rattle.zic_columns.specs.declared.buffer.Window.{Window}

-- the bytes that are yet to be taken
abbrev pub held_bytes : Window → List ℕ
held_bytes window = slice_range window.bytes.items window.start window.end

-- the bytes that were taken last
abbrev pub taken_bytes : Window → List ℕ
taken_bytes window = slice_range window.bytes.items window.last window.start

-- how many bytes there is room for
abbrev pub room : Window → ℕ
room window = vec_len window.bytes - window.end
