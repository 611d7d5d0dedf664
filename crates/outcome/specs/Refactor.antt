-- Refactor: new values over a structure found before, in the plain or the shared form. Definitions only.
use Rattle.std.specs.Prelude.{Bool, true, false, not, ◌&&◌, List, [], ℕ, suc, ◌+◌, length, get_or, take, drop, replicate, eqb, Float, Ok, Err}
use Rattle.base.specs.Lists.{padded, nought}
use Rattle.base.specs.First.{first}
use Rattle.base.specs.Answers.{spot, absent, Pass, Asked}
use Rattle.fill.specs.Fill.{Pattern}
use Rattle.placement.specs.Placing.{same, run_of}
use Rattle.matrix.specs.Input.{Input, stored, own_order}
use Rattle.matrix.specs.Questions.{ask_solve}
use Rattle.arithmetic.specs.Arith.{Out, ok, met, Row, Result}
use Rattle.base.specs.declared.Form.{Form}
use Rattle.base.specs.declared.Form.TheVariants.{Plain, Shared, ByRow}
use Rattle.base.specs.declared.Side.{Side}
use Rattle.base.specs.declared.Side.TheVariants.{Lower, Upper}
use Rattle.base.specs.declared.Refusal.TheVariants.{OtherStructure}
use Rattle.outcome.specs.Forms.{lists_of, placed_to, value_need}
use Rattle.outcome.specs.Buffers.{SideBuffers, side_buffers, Buffers, all_buffers, sizes, scratch_cleared, Outcome, ended, stop}
use Rattle.outcome.specs.Structure.{ask_place}
use Rattle.outcome.specs.Solve.{shape, listed, fault_of, values_kept, pivots_kept}

-- a run start of place k, where the form has them
abbrev pub same_run : Form → ℕ → ℕ → Bool
same_run Plain given run = true
same_run Shared given run = eqb given run
same_run ByRow given run = eqb given run

-- the list starts k and k + 1, the run start and the list of place k are those that the structure call places
unfoldable pub same_at : Form → Side → Pattern → ℕ → SideBuffers → ℕ → Bool
same_at f side P n b k =
    eqb (get_or b.starts k 0) (value_need f side P n k) && eqb (get_or b.starts (k + 1) 0) (value_need f side P n (suc k))
    && same_run f (get_or b.runs k 0) (run_of (placed_to f side P n n) k)
    && same (take (length (lists_of f side P n k)) (drop (run_of (placed_to f side P n n) k) b.index)) (lists_of f side P n k)

abbrev pub passes : Asked → Bool
passes (Ok _) = true
passes (Err q) = false

-- "first k that differs or at which that call refuses"
unfoldable pub differs : Form → Pattern → ℕ → Buffers → ℕ → Bool
differs f P n s k = not (passes (ask_place f P n (sizes s) k) && same_at f Lower P n s.lower k && same_at f Upper P n s.upper k)

-- question 14
unfoldable pub ask_presented : Form → Pattern → ℕ → Buffers → Asked
ask_presented f P n s = absent (first (differs f P n s) n) (λ k. OtherStructure (spot k))

-- a presented side with other values
unfoldable pub revalued : SideBuffers → List Float → SideBuffers
revalued b values = side_buffers b.starts b.runs b.index (padded nought (length b.values) values)

-- refactor writes the value stores, d, x and the scratch; the presented lists stay
unfoldable pub refilled : Form → Pattern → ℕ → Buffers → List Row → List Float → List Float → Buffers
refilled f P n s rows d x =
    all_buffers (revalued s.lower (values_kept f Lower P n rows)) (revalued s.upper (values_kept f Upper P n rows)) d x
    (replicate (length s.work) nought) (replicate (length s.marks) 0)

-- after 12 and 13
unfoldable pub emptied : Buffers → Buffers
emptied s =
    all_buffers (revalued s.lower []) (revalued s.upper []) (replicate (length s.d) nought) s.x
    (replicate (length s.work) nought) (replicate (length s.marks) 0)

abbrev pub refactored : Form → Input → Buffers → Out Result → Outcome Asked
refactored f i s (ok a) = ended Pass (refilled f (stored i) i.n s a.rows (pivots_kept i.n a.rows) (own_order i.c i.n a.z))
refactored f i s (met q) = ended (Err (fault_of q)) (emptied s)

-- refactor: 1 to 6, 19, 7, 14, then 12 and 13
unfoldable pub refactor : Form → Input → Buffers → Outcome Asked
refactor f i s =
    stop Err (shape f i (sizes s)) s
    (stop Err (ask_solve i) (scratch_cleared s)
    (stop Err (ask_presented f (stored i) i.n s) (scratch_cleared s)
    (refactored f i s (listed i))))
