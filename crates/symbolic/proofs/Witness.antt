-- What the three passes ask of their callers is met by a computed value: one row, one entry. What their steps ask is met on the way.
use mathlib.Core.Path.{refl}
use mathlib.Core.List.{List, [], ◌∷◌}
use Prim.Native.Nat.{ℕ}
use native.Mathlib.Omega.{arith}
use Rattle.matrix.specs.Input.{Input, input_of}
use Rattle.questions.proofs.Witness.{holds}
use Rattle.symbolic.specs.Places.{Stores}
use Rattle.symbolic.specs.Pass.{MatrixLent, PlainLent, RowLent, SharedLent}
use Rattle.storing.specs.declared.Way.TheVariants.{OneAfterAnother, Sharing}

abbrev zeros : List ℕ
zeros = 0 ∷ []

abbrev starts : List ℕ
starts = 0 ∷ 1 ∷ []

abbrev one : Input
one = input_of 1 starts zeros [] zeros zeros []

matrix : MatrixLent one 16
matrix =
    let q = holds.structured in
    record {
      some = omega arith;
      few = omega arith;
      structured = record {
        readable = record { rows = q.readable.rows; columns = q.readable.columns; row-order = q.readable.row-order; column-order = q.readable.column-order };
        entered = q.entered;
      };
      starts-size = refl;
      entries = omega arith;
      rows-size = refl;
      columns-size = refl;
      scratch = refl;
    }

-- a side's stores without a slot: the fill has no entry beside the diagonal
plainly : Stores OneAfterAnother 1 [] 0 starts starts
plainly = record { starts-size = refl; runs-size = refl; slots-fit = omega arith; values-fit = omega arith }

sharing : Stores Sharing 1 [] 0 starts zeros
sharing = record { starts-size = refl; runs-size = refl; slots-fit = omega arith; values-fit = omega arith }

pub plain : PlainLent one starts [] 0 starts [] 0 16
plain = record { matrix = matrix; lower = plainly; upper = plainly }

pub row : RowLent one starts zeros [] 0 16
row = record { matrix = matrix; upper = sharing }

pub shared : SharedLent one starts zeros [] 0 starts zeros [] 0 16
shared = record { matrix = matrix; lower = sharing; upper = sharing }
