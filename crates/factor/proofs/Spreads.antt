-- A turn of the loop that keeps L by columns.
use mathlib.Core.Path.{◌≡◌, refl, sym, ap, ◌∙◌}
use mathlib.Core.List.{List}
use Prim.Native.Nat.{ℕ, ◌+◌, ◌<◌, ◌≤◌}
use native.Mathlib.Omega.{arith}
use lib.ListN.{length, get_or, drop, set, length-drop, length-set}
use lib.Seq.{get_or-take, get_or-drop, get_or-set_other, drop-set-add, length-take-le}
use lib.Ieee.{Float, nan}
use Rattle.base.specs.declared.Form.TheVariants.{Shared}
use Rattle.lent.specs.Reading.{But}
use Rattle.numeric.specs.Stores.{columns}
use Rattle.numeric.proofs.Turns.{Keeping, keeping-more, keeping-end}
use Rattle.factor.specs.Factoring.{lower_in, LowerAt, Spread, LowerKept, KeepGiven}
use Rattle.base.specs.Scratch.{cursors_from, list_from}
use Rattle.base.specs.Limits.{max_rows}

pub record Spreading (n below : ℕ) (starts : List ℕ) (w : List Float) (m₀ : List ℕ) (l₀ : List Float) (m : List ℕ) (l : List Float) (p : ℕ) : Type 0 where
  pub size : length m ≡ length m₀
  pub same : But (cursors_from n) (list_from n) m₀ m
  pub keeping : Keeping starts w (lower_in n below m₀) (drop (cursors_from n) m₀) l₀ (drop (cursors_from n) m) l p

pub spreading-start : (n below : ℕ) (starts : List ℕ) (w : List Float) (m : List ℕ) (l : List Float) → Spreading n below starts w m l m l 0
spreading-start n below starts w m l =
    record { size = refl; same = λ q h. refl; keeping = record { upto = omega arith; same-cursors = refl; same-l = refl; later = λ q g u. refl; left = refl } }

pub lower_long : (n below : ℕ) (m : List ℕ) → LowerAt n below (length m) → length (lower_in n below m) ≡ below
lower_long n below m A = length-take-le below (drop (list_from n) m) (simp length-drop (omega (arith, A.room)))

pub spreading-end : {n below : ℕ} {starts : List ℕ} {w : List Float} {m₀ : List ℕ} {l₀ : List Float} {m : List ℕ} {l : List Float} {p : ℕ}
    → Spreading n below starts w m₀ l₀ m l p → LowerAt n below (length m₀) → below ≤ p → KeepGiven Shared n 0 below starts w l₀ l m₀ m
unfolding LowerKept
spreading-end {n} {below} {starts} {w} {m₀} {l₀} {m} {l} {p} I A h =
    record { values = sym (keeping-end starts w (lower_in n below m₀) (columns (drop (cursors_from n) m) l) p (omega (arith, lower_long n below m₀ A))) ∙ I.keeping.left; same = I.same }

module _ {n below : ℕ} {starts : List ℕ} {w : List Float} {m₀ : List ℕ} {l₀ : List Float} {m : List ℕ} {l : List Float} {p : ℕ}
    (S : Spread n below starts (length l₀) m₀) (I : Spreading n below starts w m₀ l₀ m l p) (h : p < below) (i : ℕ) (ei : i ≡ get_or m (list_from n + p) 0) where
  column : i ≡ get_or (lower_in n below m₀) p 0
  column = ei ∙ I.same (list_from n + p) (λ e. omega arith) ∙ sym (get_or-drop (list_from n) m₀ p 0) ∙ sym (get_or-take below (drop (list_from n) m₀) p 0 h)

  there : p < length (lower_in n below m₀)
  there = omega (arith, lower_long n below m₀ S.lower)

  pub column-in : i < n
  column-in = omega (arith, column, S.places p there)

  cursor : get_or m (cursors_from n + i) 0 ≡ get_or m₀ (cursors_from n + get_or (lower_in n below m₀) p 0) 0
  cursor =
      let q = I.keeping.later p (omega arith) there in
      sym (get_or-drop (cursors_from n) m i 0) ∙ ap (λ (j : ℕ). get_or (drop (cursors_from n) m) j 0) column ∙ q ∙ get_or-drop (cursors_from n) m₀ (get_or (lower_in n below m₀) p 0) 0

  pub cursor-few : get_or m (cursors_from n + i) 0 < max_rows
  cursor-few = omega (arith, cursor, S.few p h)

  pub slot-in : (a b : ℕ) → a ≡ get_or starts i 0 → b ≡ get_or m (cursors_from n + i) 0 → a + b < length l
  slot-in a b ea eb = let s : a ≡ get_or starts (get_or (lower_in n below m₀) p 0) 0 = ea ∙ ap (λ (j : ℕ). get_or starts j 0) column in omega (arith, eb, cursor, S.room p h, I.keeping.same-l)

  pub spreading-more : (a b : ℕ) → a ≡ get_or starts i 0 → b ≡ get_or m (cursors_from n + i) 0
      → Spreading n below starts w m₀ l₀ (set m (cursors_from n + i) (get_or m (cursors_from n + i) 0 + 1)) (set l (a + b) (get_or w i nan)) (p + 1)
  spreading-more a b ea eb = record {
    size = length-set m (cursors_from n + i) (get_or m (cursors_from n + i) 0 + 1) ∙ I.size;
    same = λ q g. get_or-set_other m (cursors_from n + i) q (get_or m (cursors_from n + i) 0 + 1) 0 (λ e. omega (arith, column-in, g (omega arith))) ∙ I.same q g;
    keeping = rw (drop-set-add (cursors_from n) m i (get_or m (cursors_from n + i) 0 + 1), ← get_or-drop (cursors_from n) m i 0)
        (keeping-more I.keeping there i a b column ea (eb ∙ sym (get_or-drop (cursors_from n) m i 0)) S.ascending);
  }
