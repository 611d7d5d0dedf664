-- What is left of a call after each stage of its questions, and what its last stages hand on. Definitions only.
use Rattle.base.specs.Answers.{Pass, Asked, Answer}
use Rattle.std.specs.Prelude.{◌≡◌, Bool, true, false, cond, List, Float, Ok, Err, is_err}
use Rattle.base.specs.Lists.{blank}
use Rattle.matrix.specs.Input.{Input, stored, own_order}
use Rattle.outcome.specs.Buffers.{Buffers, sizes, scratch_cleared, cleared, Outcome, ended, stop}
use Rattle.outcome.specs.Structure.{ask_places, counts, structured}
use Rattle.outcome.specs.Solve.{listed, fault_of, concluded}
use Rattle.arithmetic.specs.Arith.{Out, ok, met, Result}
use Rattle.factor.specs.Factoring.{Factors}
use Rattle.base.specs.declared.Form.{Form}
use Rattle.base.specs.declared.Form.TheVariants.{Plain, Shared, ByRow}
use Rattle.base.specs.declared.Counts.{Counts}

abbrev pub no_counts : Counts
no_counts = record { lower = 0; upper = 0; products = 0 }

-- the list, or as many zeros
abbrev pub blank_if : {A : Type 0} → Bool → A → List A → List A
blank_if b v l = cond b (blank v l) l

-- ---- the structure call after questions 1 to 7

unfoldable pub structure_placed : Form → Input → Buffers → Outcome Answer
structure_placed f i s =
    stop Err (ask_places f (stored i) i.n (sizes s) i.n) (cleared (sizes s) s.x) (ended (Ok (counts i)) (structured f i (sizes s)))

-- ---- the solve after the questions before 9

unfoldable pub solve_placed : Form → Input → Buffers → Outcome Answer
solve_placed f i s = stop Err (ask_places f (stored i) i.n (sizes s) i.n) (cleared (sizes s) s.x) (concluded f i (sizes s) s.x (listed i))

-- the answers at which a call clears all that it writes: the row form always does
abbrev pub clears : Form → Answer → Bool
clears Plain a = is_err a
clears Shared a = is_err a
clears ByRow a = true

-- t, written over s, as the call leaves it
unfoldable pub closed : Form → Answer → Buffers → Buffers → Buffers
closed f a s t = cond (clears f a) (cleared (sizes s) t.x) (scratch_cleared t)

-- 9 to 13, and x: the answer a, and t over s
abbrev pub Leaves : Form → Input → Buffers → Answer → Buffers → Type 0
Leaves f i s a t = ended a (closed f a s t) ≡ solve_placed f i s

-- 12 and 13 answer a, where the listed operations come to o: the factors, and x over x₀
unfoldable pub Concludes : Form → Input → Out Result → Asked → List Float → List Float → List Float → List Float → List Float → Type 0
Concludes f i (met q) a lower upper d x₀ x = (a ≡ Err (fault_of q)) × (x ≡ x₀)
Concludes f i (ok r) a lower upper d x₀ x = (a ≡ Pass) × Factors f i r lower upper d r.z × (x ≡ own_order i.c i.n r.z)

abbrev pub Concluded : Form → Input → Asked → List Float → List Float → List Float → List Float → List Float → Type 0
Concluded f i a lower upper d x₀ x = Concludes f i (listed i) a lower upper d x₀ x
