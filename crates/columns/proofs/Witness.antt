-- The least matrix meets what the functions require: one entry, its column counted, and its window open.
use mathlib.Core.Path.{◌≡◌, refl}
use mathlib.Core.List.{List, [], ◌∷◌}
use Prim.Native.Nat.{ℕ, zero, suc}
use native.Mathlib.Omega.{arith}
use Rattle.base.specs.Lists.{list_at}
use Rattle.base.specs.First.{first}
use Rattle.matrix.specs.Input.{Input, input_of, ic, is_of}
use Rattle.lent.specs.Reading.{order_of, placed}
use Rattle.questions.specs.Lent.{Inverse}
use Rattle.questions.proofs.Witness.{holds}
use Rattle.columns.specs.Columns.{Given, places_by_row, hits, bare, column, none, node, Ready}
use Rattle.columns.specs.Sides.{Sound, rows_in}
use Rattle.columns.proofs.Stored.{given-sound}

abbrev one : Input
one = input_of 1 (0 ∷ 1 ∷ []) (0 ∷ []) [] (0 ∷ []) (0 ∷ []) []

-- head 0 counts one entry, or leads to node 0: row 0 and no more
abbrev scratch : List ℕ
scratch = 0 ∷ 0 ∷ 0 ∷ 0 ∷ 1 ∷ 0 ∷ 0 ∷ 0 ∷ []

pub sound : Sound one
sound =
    let q = holds.structured in
    record {
      starts-long = refl;
      order-long = refl;
      structured = record {
        readable = record { rows = q.readable.rows; columns = q.readable.columns; row-order = q.readable.row-order; column-order = q.readable.column-order };
        entered = q.entered;
      };
    }

pub inverse : Inverse one scratch
unfolding order_of ic first is_of
inverse = record { place = elim [ zero ↦ λ h. refl | suc k ↦ λ h. absurd (omega arith) ] }

pub given : Given 1 (0 ∷ 1 ∷ []) (0 ∷ []) (0 ∷ []) scratch
given = given-sound one scratch sound inverse (record { small = omega arith; long = omega arith })

-- a row that names a column twice is in it once
pub twice : column (λ k. 0 ∷ 0 ∷ []) 1 0 ≡ 0 ∷ []
unfolding column hits bare
twice = refl

pub counted : Ready 1 0 0 (rows_in one scratch) scratch
unfolding column places_by_row placed order_of list_at hits bare
counted = record {
  least = omega arith;
  most = omega arith;
  lists = record { chain = λ j a b. absurd (omega arith); heads = λ j a b. absurd (omega arith) };
  counts = record { slot = elim [ zero ↦ λ a b. refl | suc k ↦ λ a b. absurd (omega arith) ] };
}

pub opened : Ready 1 0 1 (rows_in one scratch) scratch
unfolding column places_by_row placed order_of list_at hits bare
opened = record {
  least = omega arith;
  most = omega arith;
  lists = record {
    chain = elim [ zero ↦ λ a b. node {q = 0} {h = 0} {i = 0} (omega arith) (omega arith) refl refl none | suc k ↦ λ a b. absurd (omega arith) ];
    heads = elim [ zero ↦ λ a b. omega arith | suc k ↦ λ a b. absurd (omega arith) ];
  };
  counts = record { slot = λ j a b. absurd (omega arith) };
}
