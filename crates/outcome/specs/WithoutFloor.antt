-- The calls that factor, without a floor: a pivot is refused where it is a zero of either sign, and no question is put about a floor.
-- Definitions only; with a floor of zero they are the calls as they are now (outcome/proofs/FloorZero).
use Rattle.std.specs.Prelude.{Bool, not, cond, List, [], ◌∷◌, Err}
use Rattle.std.specs.Float.Ieee.{eq}
use Rattle.std.specs.Float.Ieee.Scale.{finite}
use Rattle.base.specs.Lists.{nought}
use Rattle.base.specs.Answers.{and_then, Asked, Answer}
use Rattle.base.specs.declared.Form.{Form}
use Rattle.matrix.specs.Input.{Input, stored}
use Rattle.matrix.specs.Questions.{ask7, ask6, ask_pattern}
use Rattle.arithmetic.specs.Arith.{Event, result, pivoted, fault, Out, ok, met, Result, whole_run}
use Rattle.outcome.specs.Buffers.{Buffers, sizes, scratch_cleared, cleared, Outcome, stop}
use Rattle.outcome.specs.Structure.{ask_places}
use Rattle.outcome.specs.Solve.{system, shape, concluded}
use Rattle.outcome.specs.Refactor.{ask_presented, refactored}

-- "a zero of either sign": -0 equals +0
abbrev pub bad_before : Event → Bool
bad_before (result k v) = not (finite v)
bad_before (pivoted k v) = eq v nought

abbrev pub first_before : {A : Type 0} → List Event → A → Out A
first_before [] a = ok a
first_before (e ∷ es) a = cond (bad_before e) (met (fault e)) (first_before es a)

unfoldable pub listed_before : Input → Out Result
listed_before i = first_before (whole_run (system i)).events (whole_run (system i)).value

-- 3 to 7
unfoldable pub ask_solve_before : Input → Asked
ask_solve_before i = and_then (ask_pattern i) (and_then (ask6 i.values i.b) (ask7 i.n i.starts i.r))

unfoldable pub solve_before : Form → Input → Buffers → Outcome Answer
solve_before f i s =
    stop Err (shape f i (sizes s)) s
    (stop Err (ask_solve_before i) (scratch_cleared s)
    (stop Err (ask_places f (stored i) i.n (sizes s) i.n) (cleared (sizes s) s.x)
    (concluded f i (sizes s) s.x (listed_before i))))

unfoldable pub refactor_before : Form → Input → Buffers → Outcome Asked
refactor_before f i s =
    stop Err (shape f i (sizes s)) s
    (stop Err (ask_solve_before i) (scratch_cleared s)
    (stop Err (ask_presented f (stored i) i.n s) (scratch_cleared s)
    (refactored f i s (listed_before i))))
