-- Refactor over the way of placing: what its questions settle, and what it ensures. Definitions only.
use Rattle.std.specs.Prelude.{◌≡◌, List, ℕ, length, Float}
use Rattle.base.specs.Answers.{and_then, Asked}
use Rattle.matrix.specs.Input.{Input, stored}
use Rattle.matrix.specs.Questions.{ask_solve}
use Rattle.outcome.specs.Buffers.{sizes, ended}
use Rattle.outcome.specs.Solve.{shape}
use Rattle.outcome.specs.Refactor.{ask_presented, refactor}
use Rattle.storing.specs.declared.Way.{Way}
use Rattle.factor.specs.Factoring.{lists, written}
use Rattle.comparison.specs.Comparing.{form_of, buffers_by}
use Rattle.stages.specs.Shaped.{FactorDue}
use Rattle.stages.specs.Asking.{Asking}

-- 1 and 2, then the others before 9, and 14: scratch is w and m, and then v and t; where all are passed, the arithmetic is due
abbrev pub PresentedAsking : Way → Input → (ls lr li : List ℕ) (lv : List Float) (us ur ui : List ℕ) (uv d x w : List Float) (m : List ℕ) → (v : List Float) (t : List ℕ) → Asked → Type 0
PresentedAsking way i ls lr li lv us ur ui uv d x w m v t a =
    Asking (shape (form_of way) i (sizes (buffers_by way ls lr li lv us ur ui uv d x w m)))
    (and_then (ask_solve i) (ask_presented (form_of way) (stored i) i.n (buffers_by way ls lr li lv us ur ui uv d x w m)))
    (FactorDue (form_of way) i (lists ls li us ur ui) (written lv uv d v t) (length x)) w m v t a

-- the call: names as in outcome/specs/Again
abbrev pub RefactorsBy : Way → Input → (ls lr li : List ℕ) (lv : List Float) (us ur ui : List ℕ) (uv d x w : List Float) (m : List ℕ) → Asked → (lv' uv' d' x' w' : List Float) (m' : List ℕ) → Type 0
RefactorsBy way i ls lr li lv us ur ui uv d x w m a lv' uv' d' x' w' m' =
    ended a (buffers_by way ls lr li lv' us ur ui uv' d' x' w' m') ≡ refactor (form_of way) i (buffers_by way ls lr li lv us ur ui uv d x w m)
