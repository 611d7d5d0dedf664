-- Step 3 by the tests that the code makes: t is the answer of the row's test.
use mathlib.Core.Path.{◌≡◌, sym, ap, ◌∙◌}
use mathlib.Core.Bool.{Bool, true, false, ◌&&◌}
use mathlib.Core.List.{List, [], ◌∷◌}
use Prim.Native.Nat.{ℕ, ◌+◌, ◌≤◌}
use native.Mathlib.Omega.{arith}
use lib.ListN.{length, get_or}
use lib.Seq.{sets}
use lib.Ieee.{Float, nan, binary64, mul, div}
use lib.Ieee.Scale.{finite}
use Rattle.base.specs.Magnitude.{at_most}
use Rattle.base.specs.declared.RowSums.{RowSums}
use Rattle.arithmetic.specs.Arith.{met, overflow, one}
use Rattle.arithmetic.specs.Stopping.{finish}
use Rattle.arithmetic.specs.RowEnd.{finite_on, finite_all, products, row_end}
use Rattle.arithmetic.specs.Sticky.{scaled_at}
use Rattle.numeric.specs.Stores.{work, Finished}
use Rattle.numeric.specs.StoreLaws.{sets-part, products-length}
use Rattle.std.specs.Prelude.{Result, Ok, Err}
use Rattle.numeric.specs.declared.RowFault.{RowFault}
use Rattle.numeric.specs.declared.RowFault.TheVariants.{Zero, Overflow}

not-ok : {T E : Type 0} {e : E} {s : T} → ◌≡◌ {A = Result T E} (Err e) (Ok s) → ⊥
not-ok e = let z : ◌≡◌ {A = ℕ} 0 1 = cc in omega arith

refused : {k : ℕ} {floor : Float} {above : List ℕ} {from : ℕ} {w u v : List Float} {s : Float} → ((l : List Float) → row_end k floor [] above (work l w s) ≡ met (overflow k)) → Finished k floor above from w u v s (Err Overflow)
refused e = record { answer = λ l. sym (e l); stored = λ r q. absurd (not-ok q) }

module _ {k : ℕ} {floor : Float} {above : List ℕ} {from : ℕ} {w u v : List Float} {s : Float} (t : Bool) (et : t ≡ (finite s && finite_on (k ∷ above) w)) where
  pub end-loud : t ≡ false → Finished k floor above from w u v s (Err Overflow)
  end-loud q = refused (λ l. rw (sym et ∙ q))

  module _ (q : t ≡ true) where
    pub end-zero : (z : Bool) → z ≡ at_most (get_or w k nan) floor → z ≡ true → Finished k floor above from w u v s (Err Zero)
    unfolding finish
    end-zero b e z = record { answer = λ l. rw (sym et ∙ q, sym e ∙ z); stored = λ r e. absurd (not-ok e) }

    module _ (p : Bool) (ep : p ≡ at_most (get_or w k nan) floor) (hp : p ≡ false) (b : Bool) (eb : b ≡ finite (div binary64 one (get_or w k nan))) where
      pub end-d : b ≡ false → Finished k floor above from w u v s (Err Overflow)
      unfolding finish
      end-d fd = refused (λ l. rw (sym et ∙ q, sym ep ∙ hp, sym eb ∙ fd))

      module _ (fd : b ≡ true) (y : Bool) (ey : y ≡ finite (mul binary64 s (div binary64 one (get_or w k nan)))) where
        pub end-y : y ≡ false → Finished k floor above from w u v s (Err Overflow)
        unfolding finish
        end-y fy = refused (λ l. rw (sym et ∙ q, sym ep ∙ hp, sym eb ∙ fd, sym ey ∙ fy))

        module _ (fy : y ≡ true) (a : Bool) (ea : a ≡ finite_all (products (div binary64 one (get_or w k nan)) w above)) where
          pub end-u : a ≡ false → Finished k floor above from w u v s (Err Overflow)
          unfolding finish
          end-u fu = refused (λ l. rw (sym et ∙ q, sym ep ∙ hp, sym eb ∙ fd, sym ey ∙ fy, scaled_at k (div binary64 one (get_or w k nan)) w above, sym ea ∙ fu))

          pub end_kept : from + length above ≤ length u → (a ≡ true → v ≡ sets u from (products (div binary64 one (get_or w k nan)) w above)) → a ≡ true
              → Finished k floor above from w u v s (Ok (record { sum = s; reciprocal = div binary64 one (get_or w k nan); y = mul binary64 s (div binary64 one (get_or w k nan)) }))
          unfolding finish
          end_kept room st fu = record {
            answer = λ l. rw (st fu, sets-part u (products (div binary64 one (get_or w k nan)) w above) from (length above) (products-length (div binary64 one (get_or w k nan)) w above) room)
                (sym (rw (sym et ∙ q, sym ep ∙ hp, sym eb ∙ fd, sym ey ∙ fy, scaled_at k (div binary64 one (get_or w k nan)) w above, sym ea ∙ fu)));
            stored = λ r e. rw (← same r e) (st fu);
          }
            where
              same : (r : RowSums) → ◌≡◌ {A = Result RowSums RowFault} (Ok (record { sum = s; reciprocal = div binary64 one (get_or w k nan); y = mul binary64 s (div binary64 one (get_or w k nan)) })) (Ok r)
                  → div binary64 one (get_or w k nan) ≡ r.reciprocal
              same r e = ap (λ (x : Result RowSums RowFault). field x) e
                where
                  field : Result RowSums RowFault → Float
                  field (Ok r) = r.reciprocal
                  field (Err e) = nan
