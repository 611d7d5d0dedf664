-- What the checked maker of the matrix type answers. Definitions only.
use Rattle.std.specs.Prelude.{ℕ, cond, leb, Ok, Err}
use Rattle.std.specs.declared.result.Result.{Result}
use Rattle.base.specs.Limits.{max_entries, rows_within}
use Rattle.matrix.specs.declared.Matrix.{Matrix}
use Rattle.base.specs.declared.Refusal.{Refusal}
use Rattle.base.specs.declared.Refusal.TheVariants.{Rows, Lengths}

-- a shape within the limits, or why not
abbrev pub Shaped : Type 0
Shaped = Result Matrix Refusal

-- the shape of n rows and e entries
unfoldable pub shape_of : ℕ → ℕ → Shaped
shape_of n e = cond (rows_within n) (cond (leb e max_entries) (Ok (record { rows = n; entries = e })) (Err Lengths)) (Err Rows)
