-- A loop that stores f k at what an order has at k: in the end slot j holds f of j's place. One law for every element type.
use Rattle.std.specs.Prelude.{◌≡◌, refl, List, ◌++◌, ℕ, ◌+◌, ◌-◌, ◌≤◌, ◌<◌, length, get_or, set, take, drop, Float}
use Rattle.std.proofs.Common.{sym, ◌∙◌, ap, append-nil, arith, not-suc-le-zero, length-set, length-drop, drop_of_length-le, take-append-drop, get_or-set_same, get_or-set_other, drop-set-lt, get_or-take, ext_get_or, take_all, length-take-le}
use Rattle.std.proofs.Math.Decide.{ℕ_discrete}
use Rattle.std.specs.Float.{nan}
use Rattle.std.proofs.Math.Seq.{take_at, drop_at}
use Rattle.base.specs.Lists.{table}
use Rattle.base.specs.TableLaws.{length-table, get_or-table}
use Rattle.matrix.specs.Input.{Input, ic, own_order}
use Rattle.matrix.specs.Questions.{IsOrder}
use Rattle.matrix.proofs.OrderLaws.{order_below, order-inj, place_of, place-hits}
use Rattle.lent.specs.ReadingLaws.{order-read}
use Rattle.questions.specs.Lent.{inverted, inverted_at, Inverse}
use Rattle.base.specs.Scratch.{inverse_from}

module _ {A : Type 0} where
  pub record Scattered (o : List ℕ) (n : ℕ) (f : ℕ → A) (d : A) (old l : List A) (k : ℕ) : Type 0 where
    pub within : k ≤ n
    pub size : length l ≡ length old
    pub stored : (i : ℕ) → i < k → get_or l (get_or o i 0) d ≡ f i
    pub rest : drop n l ≡ drop n old

  module _ (o : List ℕ) (n : ℕ) (f : ℕ → A) (d : A) (old : List A) where
    pub scattered-none : Scattered o n f d old old 0
    scattered-none = record { within = omega arith; size = refl; stored = λ i l. absurd (not-suc-le-zero l); rest = refl }

    module _ (order : IsOrder o n) (room : n ≤ length old) (l : List A) (k : ℕ) (h : Scattered o n f d old l k) where
      pub scattered-more : (j : ℕ) (v : A) → k < n → j ≡ get_or o k 0 → v ≡ f k → Scattered o n f d old (set l j v) (k + 1)
      scattered-more j v b ej ev = rw (ej, ev) (record {
        within = omega arith;
        size = length-set l (get_or o k 0) (f k) ∙ h.size;
        stored = λ i y. at i y (ℕ_discrete i k);
        rest = drop-set-lt n l (get_or o k 0) (f k) low ∙ h.rest;
      })
        where
          low : get_or o k 0 < n
          low = order_below o n order k b

          at : (i : ℕ) → i < k + 1 → Dec (i ≡ k) → get_or (set l (get_or o k 0) (f k)) (get_or o i 0) d ≡ f i
          at i y (yes e) = rw e (get_or-set_same l (get_or o k 0) (f k) d (omega (arith, low, h.size)))
          at i y (no q) = get_or-set_other l (get_or o k 0) (get_or o i 0) (f k) d (order-inj o n order i k (omega arith) b) ∙ h.stored i (omega arith)

      pub scattered-end : n ≤ k → l ≡ table (λ j. f (ic o n j)) n ++ drop n old
      scattered-end b =
          sym (take-append-drop n l) ∙ rw h.rest (ap (λ (t : List A). t ++ drop n old) (ext_get_or d (take n l) (table (λ j. f (ic o n j)) n) (long ∙ sym (length-table _ n)) (λ i y. at i (rw long at y))))
        where
          long : length (take n l) ≡ n
          long = length-take-le n l (omega (arith, h.size))

          at : (j : ℕ) → j < n → get_or (take n l) j d ≡ get_or (table (λ j. f (ic o n j)) n) j d
          at j y =
              let p = place-hits o n order j y in
              get_or-take n l j d y ∙ ap (λ (x : ℕ). get_or l x d) (sym p.1) ∙ h.stored (ic o n j) (omega arith) ∙ sym (get_or-table (λ j. f (ic o n j)) n d j y)

  -- all slots are written
  pub scattered-all : (t l old : List A) (n : ℕ) → length old ≡ n → l ≡ t ++ drop n old → l ≡ t
  scattered-all t l old n s e = e ∙ ap (λ (r : List A). t ++ r) (drop_of_length-le old {i = n} (omega arith)) ∙ append-nil t

-- a part from slot n that came back
pub inverted-back : (o : List ℕ) (n : ℕ) (s part : List ℕ) → n ≤ length s → part ≡ inverted o n (take (length s - n) (drop n s))
    → take n s ++ (part ++ drop (length s - n) (drop n s)) ≡ inverted_at o n s
unfolding inverted_at
inverted-back o n s part l e =
    let k : length (drop n s) ≤ length s - n = simp length-drop (omega arith) in
    rw (e, take_all (length s - n) (drop n s) k, drop_of_length-le (drop n s) k, append-nil)

-- ---- what stands where

module _ (o : List ℕ) (n : ℕ) (s : List ℕ) where
  pub inverse-front : take n (inverted o n s) ≡ table (ic o n) n
  unfolding inverted
  inverse-front = take_at (table (ic o n) n) (drop n s) n (length-table (ic o n) n)

module _ (o : List ℕ) (n : ℕ) (s : List ℕ) (room : n ≤ length s) where
  long : length (take n s) ≡ n
  long = length-take-le n s room

  pub placed-front : take n (inverted_at o n s) ≡ take n s
  unfolding inverted_at
  placed-front = take_at (take n s) (inverted o n (drop n s)) n long

  placed-back : drop n (inverted_at o n s) ≡ inverted o n (drop n s)
  unfolding inverted_at
  placed-back = drop_at (take n s) (inverted o n (drop n s)) n long

  pub placed-inverse : take n (drop n (inverted_at o n s)) ≡ table (ic o n) n
  placed-inverse = ap (take n) placed-back ∙ inverse-front o n (drop n s)

-- the inverse order stands in scratch as long as its slots are as they were
pub inverse-same : {i : Input} {s u : List ℕ} → ((j : ℕ) → j < i.n → get_or u (inverse_from i.n + j) 0 ≡ get_or s (inverse_from i.n + j) 0) → Inverse i s → Inverse i u
inverse-same {i} {s} {u} e h = record { place = λ j l. sym (order-read i.n u j l) ∙ e j l ∙ order-read i.n s j l ∙ h.place j l }

-- "x(c(k)) = t": the solution by own column has z(k) at c(k)
pub x-at : (c : List ℕ) (n : ℕ) (z : List Float) (k : ℕ) → IsOrder c n → k < n → get_or (own_order c n z) (get_or c k 0) nan ≡ get_or z k nan
unfolding own_order
x-at c n z k o l =
    get_or-table (λ (j : ℕ). get_or z (ic c n j) nan) n nan (get_or c k 0) (order_below c n o k l)
    ∙ ap (λ (m : ℕ). get_or z m nan) (place_of c n o k l)
