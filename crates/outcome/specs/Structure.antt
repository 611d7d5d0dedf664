-- Questions 9 to 11, the counts, and the structure call. Definitions only.
use Rattle.std.specs.Prelude.{Bool, ◌&&◌, List, [], ◌++◌, ℕ, zero, suc, ◌+◌, length, replicate, leb, Float, Ok, Err}
use Rattle.base.specs.Lists.{sum, table, padded, nought}
use Rattle.base.specs.Answers.{spot, holds, and_then, Pass, Asked, Answer}
use Rattle.fill.specs.Fill.{Pattern, filled, upper_row, lower_row, products}
use Rattle.placement.specs.Placing.{State}
use Rattle.matrix.specs.Input.{Input, stored}
use Rattle.matrix.specs.Questions.{ask_structure}
use Rattle.base.specs.declared.Form.{Form}
use Rattle.base.specs.declared.Form.TheVariants.{Plain, Shared, ByRow}
use Rattle.base.specs.declared.Side.{Side}
use Rattle.base.specs.declared.Side.TheVariants.{Lower, Upper}
use Rattle.base.specs.declared.Counts.{Counts}
use Rattle.base.specs.declared.Refusal.TheVariants.{NullPivot, LowerSlots, UpperSlots}
use Rattle.outcome.specs.Forms.{placed_to, index_need, value_need}
use Rattle.outcome.specs.Buffers.{SideBuffers, side_buffers, Buffers, all_buffers, sizes, side_of, pattern_tests, structure_tests, ask_shape, scratch_cleared, cleared, Outcome, ended, stop}
use Rattle.base.specs.declared.SideSizes.{SideSizes}
use Rattle.base.specs.declared.Sizes.{Sizes}

-- do the lists of places 0 to k, placed the form's way, fit the side's index and value store?
unfoldable pub fits : Form → Side → Pattern → ℕ → Sizes → ℕ → Bool
fits f side P n z k =
    leb (index_need f side P n (suc k)) (side_of side z).index && leb (value_need f side P n (suc k)) (side_of side z).values

-- 9, 10 and 11 at place k
unfoldable pub ask_place : Form → Pattern → ℕ → Sizes → ℕ → Asked
ask_place f P n z k =
    and_then (holds (filled P k k) (NullPivot (spot k)))
    (and_then (holds (fits f Lower P n z k) (LowerSlots (spot k)))
    (holds (fits f Upper P n z k) (UpperSlots (spot k))))

-- "Now for each k in turn": places 0 to k - 1
unfoldable pub ask_places : Form → Pattern → ℕ → Sizes → ℕ → Asked
ask_places f P n z zero = Pass
ask_places f P n z (suc k) = and_then (ask_places f P n z k) (ask_place f P n z k)

-- "three 64-bit counts: lower and upper, the filled positions below and above the diagonal, and products"
unfoldable pub counts : Input → Counts
counts i =
    record {
      lower = sum i.n (λ k. length (lower_row (stored i) k));
      upper = sum i.n (λ k. length (upper_row (stored i) i.n k));
      products = products (stored i) i.n;
    }

-- run starts, where the form has them
abbrev pub runs_kept : Form → ℕ → State → List ℕ
runs_kept Plain size s = replicate size 0
runs_kept Shared size s = s.runs
runs_kept ByRow size s = s.runs

-- a side's lists in its stores, unused slots zero; list starts count values
unfoldable pub side_placed : Form → Side → Pattern → ℕ → SideSizes → List Float → SideBuffers
side_placed f side P n z values =
    side_buffers (table (value_need f side P n) (n + 1)) (runs_kept f z.runs (placed_to f side P n n)) (padded 0 z.index (placed_to f side P n n).slots) (padded nought z.values values)

-- "On success scratch and the unused slots of what the call writes are zero, the structure call's value stores among them"
unfoldable pub structured : Form → Input → Sizes → Buffers
structured f i z =
    all_buffers (side_placed f Lower (stored i) i.n z.lower []) (side_placed f Upper (stored i) i.n z.upper [])
    (replicate z.d nought) (replicate z.x nought) (replicate z.work nought) (replicate z.marks 0)

-- the structure call in the plain or the shared form: "takes no values and no b, skips 6 and stops before 12"
unfoldable pub structure : Form → Input → Buffers → Outcome Answer
structure f i s =
    stop Err (ask_shape i.n (pattern_tests i ++ structure_tests f i.n (sizes s))) s
    (stop Err (ask_structure i) (scratch_cleared s)
    (stop Err (ask_places f (stored i) i.n (sizes s) i.n) (cleared (sizes s) s.x)
    (ended (Ok (counts i)) (structured f i (sizes s)))))
