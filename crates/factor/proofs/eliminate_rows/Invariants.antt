use Rattle.factor.specs.Factoring.{written, lent_lists, Going}
use Rattle.matrix.specs.Input.{lent_by}
use mathlib.Core.List.{List}
use Prim.Native.Nat.{ℕ}
use Rattle.factor.proofs.eliminate_rows.Given as goal

abbrev pub invariant-loop-k : goal.invariant-loop-k
invariant-loop-k l = (c : List ℕ)
    → Going l.form (lent_by l.input c) (lent_lists l.lists) 0 (written l.initial.lower_values l.initial.upper_values l.initial.d l.initial.work l.initial.marks)
    → Going l.form (lent_by l.input c) (lent_lists l.lists) l.k (written l.lower_values l.upper_values l.d l.work l.marks)
