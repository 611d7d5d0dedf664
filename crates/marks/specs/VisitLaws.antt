-- Laws of the members in turn: what a visit of each keeps.
use Rattle.std.specs.Prelude.{◌≡◌, List, true, false}
use Prim.Native.Nat.{ℕ, zero, suc, ◌+◌, ◌<◌, ◌≤◌}
use native.Mathlib.Omega.{arith}
use Rattle.std.proofs.Math.Nat.{add-zero}
use Rattle.base.specs.Tests.{by-test}
use Rattle.marks.specs.Marks.{pick, marked, visited}

module _ (t : ℕ) (f : ℕ → List ℕ → List ℕ) where
  -- what every visit keeps; P is told how far the visits went
  pub visited-keeps : (P : ℕ → List ℕ → Type 0) (i m : ℕ) (s : List ℕ)
      → ((q : ℕ) → i ≤ q → q < i + m → (u : List ℕ) → P q u → marked t u q ≡ true → P (suc q) (f q u))
      → ((q : ℕ) → i ≤ q → q < i + m → (u : List ℕ) → P q u → marked t u q ≡ false → P (suc q) u)
      → P i s → P (i + m) (visited t f i m s)
  unfolding visited
  visited-keeps P i zero s k w h = rw add-zero h
  visited-keeps P i (suc m) s k w h =
      let e : i + suc m ≡ suc i + m = omega arith in
      rw e (visited-keeps P (suc i) m (pick (marked t s i) (f i s) s) (λ q a b. k q (omega arith) (omega arith)) (λ q a b. w q (omega arith) (omega arith))
      (by-test (marked t s i) (λ y. rw y (k i (omega arith) (omega arith) s h y)) (λ y. rw y (w i (omega arith) (omega arith) s h y))))
