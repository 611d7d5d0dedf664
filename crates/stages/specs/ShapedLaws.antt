-- From the tests of question 2 to the lengths, and from the lengths to what the passes ask for.
use Rattle.std.specs.Prelude.{◌≡◌, Bool, true, List, ◌++◌, length, leb, Float}
use Rattle.std.proofs.Math.Path.{refl, ap₂}
use Rattle.std.proofs.Common.{sym, ◌∙◌, arith}
use Prim.Native.Nat.{ℕ, zero, suc}
use borrow.Author.Tests.{eqb-true, leb-true}
use Rattle.base.specs.All.{all}
use Rattle.base.specs.AllLaws.{all_true, all_join}
use Rattle.base.specs.Tests.{and_cases}
use Rattle.base.specs.Answers.{and_then, Pass}
use Rattle.fill.specs.Fill.{Pattern}
use Rattle.base.specs.Limits.{max_rows, rows_within}
use Rattle.matrix.specs.Input.{Input, with_floor, stored}
use Rattle.outcome.specs.Buffers.{pattern_tests, number_tests, matrix_tests, list_tests, vector_tests, scratch_tests, structure_tests, buffer_tests}
use Rattle.base.specs.declared.SideSizes.{SideSizes}
use Rattle.base.specs.declared.Sizes.{Sizes}
use Rattle.outcome.specs.Structure.{fits, ask_place, ask_places}
use Rattle.outcome.specs.Solve.{shape}
pub use Rattle.outcome.proofs.Making.{passed}
use Rattle.outcome.specs.Placed.{PlacedSide}
use Rattle.questions.specs.Lent.{Lent, Inverse}
use Rattle.questions.specs.Settled.{Structured}
use Rattle.questions.specs.SettledLaws.{settled}
use Rattle.symbolic.specs.Pass.{slots_of, MatrixLent, PlainLent, SharedLent, RowLent}
use Rattle.factor.specs.Factoring.{PlacedLists, Workspace, Starts, LowerPlaced}
use Rattle.base.specs.declared.Side.TheVariants.{Lower, Upper}
use Rattle.base.specs.declared.Form.{Form}
use Rattle.base.specs.declared.Form.TheVariants.{Plain, Shared, ByRow}
use Rattle.stages.specs.Shaped.{side_of, sizes_of, structure_shape, SideFits, LowerFits, StructureShaped, SolveShaped, pattern, SolveDue, FactorDue, SolutionDue}

-- ---- the lengths, from the tests

pub split : (a b : List Bool) → all (a ++ b) ≡ true → (all a ≡ true) × (all b ≡ true)
split a b e = and_cases (all a) (all b) (sym (all_join a b) ∙ e)

pub sides-fit : (f : Form) (n : ℕ) (z : Sizes) → all (list_tests f n z) ≡ true → LowerFits f n z.lower × SideFits f n z.upper
sides-fit Plain n z e =
    let t = all_true (list_tests Plain n z) e in (
      record { starts = eqb-true _ _ (t 0); index = leb-true _ _ (t 1); values = leb-true _ _ (t 2); runs = tt },
      record { starts = eqb-true _ _ (t 3); index = leb-true _ _ (t 4); values = leb-true _ _ (t 5); runs = tt },
    )
sides-fit Shared n z e =
    let t = all_true (list_tests Shared n z) e in (
      record { starts = eqb-true _ _ (t 0); index = leb-true _ _ (t 1); values = leb-true _ _ (t 2); runs = eqb-true _ _ (t 3) },
      record { starts = eqb-true _ _ (t 4); index = leb-true _ _ (t 5); values = leb-true _ _ (t 6); runs = eqb-true _ _ (t 7) },
    )
sides-fit ByRow n z e =
    let t = all_true (list_tests ByRow n z) e in (
      tt,
      record { starts = eqb-true _ _ (t 0); index = leb-true _ _ (t 1); values = leb-true _ _ (t 2); runs = eqb-true _ _ (t 3) },
    )

-- 1 and 2 ask for no floor
pub shape-floor : (f : Form) (floor : Float) (i : Input) (z : Sizes) → shape f i z ≡ shape f (with_floor floor i) z
unfolding shape
shape-floor f floor i z = refl

shaped-by : (f : Form) (i : Input) (z : Sizes) → rows_within i.n ≡ true → all (pattern_tests i) ≡ true → all (list_tests f i.n z) ≡ true → all (scratch_tests i.n z) ≡ true → StructureShaped f i z
shaped-by f i z w a b c =
    let rows = and_cases (leb 1 i.n) (leb i.n max_rows) w in
    let p = all_true (pattern_tests i) a in
    let l = sides-fit f i.n z b in
    let s = all_true (scratch_tests i.n z) c in
    record {
      some = leb-true _ _ rows.0;
      few = leb-true _ _ rows.1;
      starts = eqb-true _ _ (p 0);
      columns = leb-true _ _ (p 1);
      row-order = eqb-true _ _ (p 2);
      column-order = eqb-true _ _ (p 3);
      lower = l.0;
      upper = l.1;
      work = eqb-true _ _ (s 0);
      marks = eqb-true _ _ (s 1);
    }

module _ (f : Form) (i : Input) (z : Sizes) where
  pub structure-shaped : structure_shape f i z ≡ Pass → StructureShaped f i z
  structure-shaped e =
      let g = passed i.n (pattern_tests i ++ structure_tests f i.n z) e in
      let a = split (pattern_tests i) (structure_tests f i.n z) g.1 in
      let b = split (list_tests f i.n z) (scratch_tests i.n z) a.1 in
      shaped-by f i z g.0 a.0 b.0 b.1

  pub solve-shaped : shape f i z ≡ Pass → SolveShaped f i z
  unfolding shape
  solve-shaped e =
      let g = passed i.n (matrix_tests i ++ buffer_tests f i.n z) e in
      let a = split (matrix_tests i) (buffer_tests f i.n z) g.1 in
      let m = split (pattern_tests i) (number_tests i) a.0 in
      let v = split (list_tests f i.n z ++ vector_tests i.n z) (scratch_tests i.n z) a.1 in
      let l = split (list_tests f i.n z) (vector_tests i.n z) v.0 in
      let p = all_true (number_tests i) m.1 in
      let q = all_true (vector_tests i.n z) l.1 in
      record {
        structure = shaped-by f (pattern i) z g.0 m.0 l.0 v.1;
        values = eqb-true _ _ (p 0);
        right = eqb-true _ _ (p 1);
        reciprocals = eqb-true _ _ (q 0);
        solution = eqb-true _ _ (q 1);
      }

-- scratch was written to
pub shaped-again : (f : Form) (i : Input) (l u : SideSizes) (d x w m m₁ : ℕ) → m₁ ≡ m → StructureShaped f i (sizes_of l u d x w m) → StructureShaped f i (sizes_of l u d x w m₁)
shaped-again f i l u d x w m m₁ e h = rw e h

pub due-again : (f : Form) (i : Input) (l u : SideSizes) (d x w m w₁ m₁ : ℕ) → w₁ ≡ w → m₁ ≡ m → SolveDue f i (sizes_of l u d x w m) → SolveDue f i (sizes_of l u d x w₁ m₁)
due-again f i l u d x w m w₁ m₁ a b h = rw (a, b) h

-- ---- what the questions and the structure pass ask for

module _ (f : Form) (i : Input) (z : Sizes) (h : StructureShaped f i z) where
  pub lent_of : (room : ℕ) → z.marks ≡ room → Lent i.n i.starts i.columns i.r i.c room
  lent_of room e = record {
    orders = record { few = h.few; row-order = h.row-order; column-order = h.column-order; slots = omega (arith, h.marks, e) };
    starts = h.starts;
    columns = h.columns;
  }

  pub matrix-lent : Structured i → MatrixLent i z.marks
  matrix-lent g = record {
    some = h.some;
    few = h.few;
    structured = g;
    starts-size = h.starts;
    entries = h.columns;
    rows-size = h.row-order;
    columns-size = h.column-order;
    scratch = h.marks;
  }

pub plain-lent : (i : Input) (ls li us ui : List ℕ) (lr lv ur uv d x w m : ℕ) → StructureShaped Plain i (sizes_of (side_of (length ls) lr (length li) lv) (side_of (length us) ur (length ui) uv) d x w m) → Structured i
    → PlainLent i ls li lv us ui uv m
plain-lent i ls li us ui lr lv ur uv d x w m h g = record {
  matrix = matrix-lent Plain i _ h g;
  lower = record { starts-size = h.lower.starts; runs-size = h.lower.starts; slots-fit = h.lower.index; values-fit = h.lower.values };
  upper = record { starts-size = h.upper.starts; runs-size = h.upper.starts; slots-fit = h.upper.index; values-fit = h.upper.values };
}

pub shared-lent : (i : Input) (ls lr li us ur ui : List ℕ) (lv uv d x w m : ℕ)
    → StructureShaped Shared i (sizes_of (side_of (length ls) (length lr) (length li) lv) (side_of (length us) (length ur) (length ui) uv) d x w m) → Structured i → SharedLent i ls lr li lv us ur ui uv m
shared-lent i ls lr li us ur ui lv uv d x w m h g = record {
  matrix = matrix-lent Shared i _ h g;
  lower = record { starts-size = h.lower.starts; runs-size = h.lower.runs; slots-fit = h.lower.index; values-fit = h.lower.values };
  upper = record { starts-size = h.upper.starts; runs-size = h.upper.runs; slots-fit = h.upper.index; values-fit = h.upper.values };
}

pub row-lent : (i : Input) (us ur ui : List ℕ) (l : SideSizes) (uv d x w m : ℕ) → StructureShaped ByRow i (sizes_of l (side_of (length us) (length ur) (length ui) uv) d x w m) → Structured i → RowLent i us ur ui uv m
row-lent i us ur ui l uv d x w m h g = record {
  matrix = matrix-lent ByRow i _ h g;
  upper = record { starts-size = h.upper.starts; runs-size = h.upper.runs; slots-fit = h.upper.index; values-fit = h.upper.values };
}

-- a solve's matrix, for the structure pass
pub pattern-structured : (i : Input) → Structured i → Structured (pattern i)
pattern-structured i g = record {
  readable = record { rows = g.readable.rows; columns = g.readable.columns; row-order = g.readable.row-order; column-order = g.readable.column-order };
  entered = g.entered;
}

-- ---- what the arithmetic asks for

-- of the shared form's lower side, the list starts
pub starts-of : (i : Input) (ls lr li : List ℕ) (values : ℕ) → PlacedSide Shared Lower (stored i) i.n ls lr li values → Starts Shared (stored i) i.n ls values
starts-of i ls lr li values h = record { starts-are = h.starts-are; values-in = h.values-in }

pub factor-due : (f : Form) (i : Input) (z : Sizes) (l : PlacedLists) (w : Workspace) (x : ℕ) → SolveDue f i z → length w.marks ≡ z.marks → length w.d ≡ z.d → length w.work ≡ z.work
    → x ≡ z.x → LowerPlaced f (stored i) i.n l w.lower → PlacedSide f Upper (stored i) i.n l.upper-starts l.upper-runs l.upper-index (length w.upper) → Inverse i w.marks
    → FactorDue f i l w x
factor-due f i z l w x h em ed ew ex low up inv =
    let g = h.shaped in
    let s = g.structure in
    record {
      ready = record {
        lent = record {
          lent = record {
            orders = record { few = s.few; row-order = s.row-order; column-order = s.column-order; slots = omega (arith, em, s.marks) };
            starts = s.starts;
            columns = s.columns;
          };
          values = g.values;
          right = g.right;
        };
        settled = settled i h.passed;
        lower-side = low;
        upper-side = up;
        reciprocals = ed ∙ g.reciprocals;
        scratch = omega (arith, ew, s.work);
        slots = omega (arith, em, s.marks);
        inverse = inv;
      };
      solution = ex ∙ g.solution;
    }

pub solution-due : (f : Form) (i : Input) (l : PlacedLists) (w : Workspace) (x work : ℕ) → FactorDue f i l w x → work ≡ length w.work → SolutionDue i.n i.c work x
solution-due f i l w x work h e = record {
  few = h.ready.lent.lent.orders.few;
  scratch = e ∙ h.ready.scratch;
  size = h.ready.lent.lent.orders.column-order;
  to = h.solution;
  order = h.ready.settled.structured.readable.column-order;
}

-- ---- 9 to 11 look at index and value stores only

abbrev pub slots : Sizes → Sizes
slots z = slots_of z.lower.index z.lower.values z.upper.index z.upper.values

module _ (f : Form) (P : Pattern) (n : ℕ) (z : Sizes) where
  place-slots : (k : ℕ) → ask_place f P n z k ≡ ask_place f P n (slots z) k
  unfolding ask_place fits
  place-slots k = refl

  pub places-slots : (k : ℕ) → ask_places f P n z k ≡ ask_places f P n (slots z) k
  unfolding ask_places
  places-slots zero = refl
  places-slots (suc k) = ap₂ and_then (places-slots k) (place-slots k)
