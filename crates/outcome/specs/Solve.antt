-- The solve in its three forms: questions 1 to 6, 19, 7 and 9 to 13 in order, the answer, and what every buffer holds at the end. Definitions only.
use Rattle.std.specs.Prelude.{◌≡◌, List, [], ◌++◌, map, ℕ, get_or, replicate, Float, Ok, Err}
use Rattle.std.specs.Float.{nan}
use Rattle.base.specs.Lists.{table, joined, nought}
use Rattle.base.specs.Answers.{spot, and_then, Asked, Answer}
use Rattle.fill.specs.Fill.{Pattern, upper_row, lower_row, flip}
use Rattle.placement.specs.Placing.{first_at}
use Rattle.matrix.specs.Input.{Input, stored, entries, right_at, own_order}
use Rattle.matrix.specs.Questions.{ask_solve}
use Rattle.arithmetic.specs.Arith.{Fault, zero_pivot, overflow, Out, ok, met, judged, System, Row, none, Result, whole_run}
use Rattle.base.specs.declared.Form.{Form}
use Rattle.base.specs.declared.Form.TheVariants.{Plain, Shared, ByRow}
use Rattle.base.specs.declared.Side.{Side}
use Rattle.base.specs.declared.Side.TheVariants.{Lower, Upper}
use Rattle.base.specs.declared.Refusal.{Refusal}
use Rattle.base.specs.declared.Refusal.TheVariants.{ZeroPivot, Overflow}
use Rattle.outcome.specs.Buffers.{Buffers, all_buffers, sizes, matrix_tests, buffer_tests, ask_shape, scratch_cleared, cleared, Outcome, ended, stop}
use Rattle.base.specs.declared.Sizes.{Sizes}
use Rattle.outcome.specs.Structure.{ask_places, counts, side_placed}

-- what the elimination works on, by place. No form appears here.
unfoldable pub system : Input → System
system i =
    record {
      n = i.n;
      lower = lower_row (stored i);
      upper = upper_row (stored i) i.n;
      entries = entries i;
      rhs = right_at i;
      floor = i.floor;
    }

-- the listed operations, judged under the floor: 12 or 13 at the place at work, or factors and z
unfoldable pub listed : Input → Out Result
listed i = judged i.floor (whole_run (system i))

-- 12 and 13
abbrev pub fault_of : Fault → Refusal
fault_of (zero_pivot k) = ZeroPivot (spot k)
fault_of (overflow k) = Overflow (spot k)

-- L(k, i), from the row's multipliers along lower row k
abbrev pub multiplier : Pattern → List Row → ℕ → ℕ → Float
multiplier P rows k i = get_or (get_or rows k none).l (first_at i (lower_row P k)) nan

-- the values of a side by list: u along T(k); L along row k, or along column k
abbrev pub values_of : Form → Side → Pattern → ℕ → List Row → ℕ → List Float
values_of f Upper P n rows k = (get_or rows k none).u
values_of Plain Lower P n rows k = (get_or rows k none).l
values_of Shared Lower P n rows k = map (λ j. multiplier P rows j k) (upper_row (flip P) n k)
values_of ByRow Lower P n rows k = []

-- all values of a side, list by list
unfoldable pub values_kept : Form → Side → Pattern → ℕ → List Row → List Float
values_kept f side P n rows = joined (values_of f side P n rows) n

unfoldable pub pivots_kept : ℕ → List Row → List Float
pivots_kept n rows = table (λ k. (get_or rows k none).d) n

-- structure, factors and solution
unfoldable pub kept : Form → Input → Sizes → Result → Buffers
kept f i z a =
    all_buffers
    (side_placed f Lower (stored i) i.n z.lower (values_kept f Lower (stored i) i.n a.rows))
    (side_placed f Upper (stored i) i.n z.upper (values_kept f Upper (stored i) i.n a.rows))
    (pivots_kept i.n a.rows) (own_order i.c i.n a.z) (replicate z.work nought) (replicate z.marks 0)

-- "the row form zeroes all that it writes but x"
abbrev pub left : Form → Input → Sizes → Result → Buffers
left Plain i z a = kept Plain i z a
left Shared i z a = kept Shared i z a
left ByRow i z a = cleared z (own_order i.c i.n a.z)

-- questions 12 and 13, and the end without a refusal
abbrev pub concluded : Form → Input → Sizes → List Float → Out Result → Outcome Answer
concluded f i z x (ok a) = ended (Ok (counts i)) (left f i z a)
concluded f i z x (met q) = ended (Err (fault_of q)) (cleared z x)

-- questions 1 and 2
unfoldable pub shape : Form → Input → Sizes → Asked
shape f i z = ask_shape i.n (matrix_tests i ++ buffer_tests f i.n z)

-- "Earlier questions are those before 9"
abbrev pub earlier : Form → Input → Sizes → Asked
earlier f i z = and_then (shape f i z) (ask_solve i)

-- the solve in a form
unfoldable pub solve : Form → Input → Buffers → Outcome Answer
solve f i s =
    stop Err (shape f i (sizes s)) s
    (stop Err (ask_solve i) (scratch_cleared s)
    (stop Err (ask_places f (stored i) i.n (sizes s) i.n) (cleared (sizes s) s.x)
    (concluded f i (sizes s) s.x (listed i))))

-- what a solve's contract ensures: of the input i and the buffers s at entry, the answer a and the buffers t at exit
abbrev pub Solves : Form → Input → Buffers → Answer → Buffers → Type 0
Solves f i s a t = ended a t ≡ solve f i s
