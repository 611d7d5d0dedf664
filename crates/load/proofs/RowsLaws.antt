-- The rows one after another.
use Prim.Native.Nat.{ℕ, zero, suc, ◌+◌, ◌*◌, ◌<◌, ◌≤◌}
use mathlib.Core.Path.{◌≡◌, refl, sym, ap, ◌∙◌}
use mathlib.Core.List.{List, []}
use native.Mathlib.Numerals.{add-one}
use native.Mathlib.Omega.{arith}
use lib.ListN.{length, set, length-append, length-set}
use lib.Ieee.{Float}
use Rattle.base.specs.Lists.{nought, padded, sum, table, joined}
use Rattle.base.specs.Limits.{max_rows}
use Rattle.base.specs.ZerosLaws.{padded-length}
use Rattle.base.specs.TableLaws.{table-stored, table-whole, joined-more}
use Rattle.load.specs.Load.{row_from, seed_at, row_at, entries_at, values_for, load}
use Rattle.load.specs.Stores.{Held, RowDrawable, RowDrew, RowsLent, RowsDrawing, RowsDrawn}
use Rattle.load.proofs.DrawLaws.{values_length}
use Rattle.load.specs.declared.Drawn.{Drawn}

joined-long : {A : Type 0} (f : ℕ → List A) (g : ℕ → ℕ) (k : ℕ) → ((i : ℕ) → length (f i) ≡ g i) → length (joined f k) ≡ sum k g
unfolding joined sum
joined-long f g zero h = refl
joined-long f g (suc k) h = simp length-append (omega (arith, joined-long f g k h, h k))

pub entries-long : (n seed k : ℕ) → length (joined (row_at n seed) k) ≡ entries_at n seed k
unfolding entries_at
entries-long n seed k = joined-long (row_at n seed) (λ i. length (row_at n seed i)) k (λ i. refl)

pub numbers-long : (n seed k : ℕ) → length (joined (λ i. values_for (row_at n seed i)) k) ≡ entries_at n seed k
unfolding entries_at
numbers-long n seed k = joined-long (λ i. values_for (row_at n seed i)) (λ i. length (row_at n seed i)) k (λ i. values_length (row_at n seed i))

pub entries-more : (n seed k : ℕ) → entries_at n seed (k + 1) ≡ entries_at n seed k + length (row_at n seed k)
unfolding entries_at sum
entries-more n seed k = rw add-one

seed-more : (n seed k : ℕ) → seed_at n seed (k + 1) ≡ (row_from n (seed_at n seed k) k).seed
unfolding seed_at
seed-more n seed k = rw add-one

module _ {n seed k : ℕ} {d : Drawn} {starts columns : List ℕ} {values : List Float} (D : RowsDrawing n seed k d starts columns values) where
  columns-size : length columns ≡ 4 * n
  columns-size = ap length D.columns-are ∙ padded-length 0 (4 * n) (joined (row_at n seed) k) (omega (arith, entries-long n seed k, D.end_is, D.most, D.within))

  values-size : length values ≡ 4 * n
  values-size = ap length D.values-are ∙ padded-length nought (4 * n) (joined (λ i. values_for (row_at n seed i)) k) (omega (arith, numbers-long n seed k, D.end_is, D.most, D.within))

  pub row-drawable : n ≤ max_rows → k < n → RowDrawable n k (length columns) (length values) d
  row-drawable f h = record {
    place = h;
    few = f;
    long = values-size ∙ sym columns-size;
    room = omega (arith, columns-size, D.most);
    seed-small = D.seed-small;
  }

  -- own row k is drawn too
  module _ (h : k < n) (r : Drawn) (columns' : List ℕ) (values' : List Float) (R : RowDrew n k d columns values r columns' values') where
    row_is : (row_from n d.seed k).row ≡ row_at n seed k
    unfolding row_at
    row_is = ap (λ (q : ℕ). (row_from n q k).row) D.seed-is

    row-held : Held (joined (row_at n seed) k) (joined (λ i. values_for (row_at n seed i)) k) (row_at n seed k) (4 * n) d.end r.end columns' values'
    row-held =
        rw row_is at (R.held _ _ (4 * n) (omega (arith, D.most)) (entries-long n seed k ∙ sym D.end_is) (numbers-long n seed k ∙ sym D.end_is) D.columns-are D.values-are)

    pub drawing-more : (e : ℕ) → e ≡ r.end → RowsDrawing n seed (k + 1) r (set starts (k + 1) e) columns' values'
    drawing-more e q =
        let ended : r.end ≡ entries_at n seed (k + 1) = row-held.end_is ∙ ap (λ (m : ℕ). m + length (row_at n seed k)) D.end_is ∙ sym (entries-more n seed k) in
        record {
          within = omega arith;
          seed-is = R.seed-is ∙ ap (λ (m : ℕ). (row_from n m k).seed) D.seed-is ∙ sym (seed-more n seed k);
          seed-small = R.seed-small;
          end_is = ended;
          most = omega (arith, R.most, D.most);
          starts-long = length-set starts (k + 1) e ∙ D.starts-long;
          starts-are = rw (q, ended) (table-stored (entries_at n seed) starts (k + 1) (omega (arith, D.starts-long)) D.starts-are);
          columns-are = row-held.columns-are ∙ ap (padded 0 (4 * n)) (sym (joined-more (row_at n seed) k));
          values-are = row-held.values-are ∙ ap (padded nought (4 * n)) (sym (joined-more (λ i. values_for (row_at n seed i)) k));
        }

  pub drawing-end : n ≤ k → RowsDrawn n seed d.end starts columns values
  unfolding load
  drawing-end h =
      let e : k ≡ n = omega (arith, D.within) in
      record {
        end_is = rw e at D.end_is;
        starts-are = rw e at (table-whole (entries_at n seed) starts (k + 1) (omega (arith, D.starts-long)) D.starts-are);
        columns-are = rw e at D.columns-are;
        values-are = rw e at D.values-are;
      }

pub drawing-start : (n seed : ℕ) (starts columns : List ℕ) (values : List Float) → RowsLent n seed starts columns values → RowsDrawing n seed 0 (record { end = 0; seed = seed }) (set starts 0 0) columns values
unfolding entries_at sum seed_at joined table
drawing-start n seed starts columns values L = record {
  within = omega arith;
  seed-is = refl;
  seed-small = L.seed-small;
  end_is = refl;
  most = omega arith;
  starts-long = length-set starts 0 0 ∙ L.starts-long;
  starts-are = table-stored (entries_at n seed) starts 0 (omega (arith, L.starts-long)) refl;
  columns-are = L.columns-are;
  values-are = L.values-are;
}

-- the stores are as long as they were
module _ {n seed k : ℕ} {d : Drawn} {starts₀ columns₀ : List ℕ} {values₀ : List Float} {starts columns : List ℕ} {values : List Float} (L : RowsLent n seed starts₀ columns₀ values₀) (D : RowsDrawing n seed k d starts columns values) where
  pub columns-same : length columns ≡ length columns₀
  columns-same = columns-size D ∙ sym (ap length L.columns-are ∙ padded-length 0 (4 * n) [] (omega arith))

  pub values_same : length values ≡ length values₀
  values_same = values-size D ∙ sym (ap length L.values-are ∙ padded-length nought (4 * n) [] (omega arith))
