-- The width of an index number: `Index` of src/ holds the numbers below this bound. Definitions only.
use Rattle.std.specs.Prelude.{ℕ}

abbrev pub index_bound : ℕ
index_bound = 65536

-- the bytes of a slot of an index store
abbrev pub index_bytes : ℕ
index_bytes = 2
