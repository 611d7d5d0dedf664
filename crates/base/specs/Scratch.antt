-- The regions of scratch. "Scratch: 3n binary64 and 8n + 8 32-bit slots": each region has n slots, and the last eight slots are free. Definitions only.
use Rattle.std.specs.Prelude.{ℕ, ◌*◌}

-- ---- 32-bit: the marks of the place at work are the first n slots

-- the inverse column order
abbrev pub inverse_from : ℕ → ℕ
inverse_from n = n

-- the block stamps of the marks
abbrev pub blocks_from : ℕ → ℕ
blocks_from n = 2 * n

-- the cuts of the upper lists
abbrev pub upper_cuts : ℕ → ℕ
upper_cuts n = 3 * n

-- the cuts of the lower lists; the heads of the columns that are not yet reached; the arithmetic's cursors of L
abbrev pub lower_cuts : ℕ → ℕ
lower_cuts n = 4 * n

abbrev pub heads_from : ℕ → ℕ
heads_from n = 4 * n

abbrev pub cursors_from : ℕ → ℕ
cursors_from n = 4 * n

-- the list at work: lower row k, and T(k) behind it
abbrev pub list_from : ℕ → ℕ
list_from n = 5 * n

-- the nodes of the column lists, two slots each; while columns are counted, the last row of each column, plus one
abbrev pub nodes_from : ℕ → ℕ
nodes_from n = 6 * n

abbrev pub lasts_from : ℕ → ℕ
lasts_from n = 6 * n

-- all regions
abbrev pub regions_end : ℕ → ℕ
regions_end n = 8 * n

-- ---- binary64: the working row is the first n slots, y the next n

abbrev pub z_from : ℕ → ℕ
z_from n = 2 * n
