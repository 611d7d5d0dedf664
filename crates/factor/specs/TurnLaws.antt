-- From row k to row k + 1, from a fault to the answer, and from the last row and the back steps to the factors.
use Rattle.std.specs.Prelude.{◌≡◌, refl, List, [], ◌∷◌, ◌++◌, ℕ, ◌+◌, ◌<◌, length, get_or, take, drop, Result, Ok, Err, IsErr, IsErrAnd, ⊤, Float}
use Rattle.std.proofs.Common.{sym, ap, ◌∙◌, subst, true≢false, arith, get_or-set_same, get_or-set_other}
use Rattle.std.proofs.Math.Decide.{dec_lt}
use Rattle.std.proofs.Math.ListN.{get_or-append}
use Rattle.std.proofs.lemmas.List.{get_or_at}
use Rattle.std.specs.Float.{nan}
use Rattle.base.specs.Lists.{list_at, row_of}
use Rattle.base.specs.declared.Form.{Form}
use Rattle.base.specs.declared.Form.TheVariants.{Plain, Shared, ByRow}
use Rattle.base.specs.declared.RowSums.{RowSums}
use Rattle.fill.specs.Fill.{Pattern, lower_row}
use Rattle.matrix.specs.Input.{Input, stored}
use Rattle.matrix.proofs.OrderLaws.{order_below}
use Rattle.arithmetic.specs.Arith.{met, zero_pivot, overflow, Row, none}
use Rattle.outcome.specs.Solve.{system, listed}
use Rattle.outcome.proofs.Meaning.{listed-stops}
use Rattle.marks.specs.ListLaws.{lower-le}
use Rattle.numeric.specs.declared.RowFault.{RowFault}
use Rattle.numeric.specs.declared.RowFault.TheVariants as row-fault
use Rattle.lent.specs.Reading.{Below}
use Rattle.numeric.specs.Stores.{Closable, gathered}
use Rattle.numeric.specs.Rows.{Reduced, Shut, kept_row}
use Rattle.numeric.specs.PassLaws.{forward-length, held_more, held-zero, held-overflow}
use Rattle.factor.specs.declared.Fault.{Fault}
use Rattle.factor.specs.declared.Fault.TheVariants.{Zero, Overflow}
use Rattle.questions.specs.Lent.{Inverse}
use Rattle.factor.specs.Factoring.{FactoredAs, CameTo, PlacedLists, Workspace, LowerPlaced, Factorable, LowerHeld, Finding, Going, RowAt, lower_in, LowerAt}
use Rattle.factor.specs.SystemLaws.{lower-below, system-closed, lower-is, placed-shape}
use Rattle.base.specs.Scratch.{cursors_from}

-- ---- what is lent stays so: but for the inverse order, it depends on what is written by lengths alone

pub record SameSizes (w x : Workspace) : Type 0 where
  pub lower-size : length x.lower ≡ length w.lower
  pub upper-size : length x.upper ≡ length w.upper
  pub d-size : length x.d ≡ length w.d
  pub work-size : length x.work ≡ length w.work
  pub marks-size : length x.marks ≡ length w.marks

pub sizes-none : (w : Workspace) → SameSizes w w
sizes-none w = record { lower-size = refl; upper-size = refl; d-size = refl; work-size = refl; marks-size = refl }

pub sizes-then : {w x y : Workspace} → SameSizes w x → SameSizes x y → SameSizes w y
sizes-then s r = record {
  lower-size = r.lower-size ∙ s.lower-size;
  upper-size = r.upper-size ∙ s.upper-size;
  d-size = r.d-size ∙ s.d-size;
  work-size = r.work-size ∙ s.work-size;
  marks-size = r.marks-size ∙ s.marks-size;
}

pub none_left : (l m : List Float) → length m ≡ length l → l ≡ [] → m ≡ []
none_left l [] e h = refl
none_left l (x ∷ m) e h = absurd (omega (arith, e, ap length h))

lower-same : (f : Form) (P : Pattern) (n : ℕ) (L : PlacedLists) (l m : List Float) → length m ≡ length l → LowerPlaced f P n L l → LowerPlaced f P n L m
lower-same Plain P n L l m e h = rw e h
lower-same Shared P n L l m e h = rw e h
lower-same ByRow P n L l m e h = none_left l m e h

pub same-given : {f : Form} {i : Input} {L : PlacedLists} {w x : Workspace} → SameSizes w x → Inverse i x.marks → Factorable f i L w → Factorable f i L x
same-given {f} {i} {L} {w} {x} s inv F = record {
  lent = rw s.marks-size F.lent;
  settled = F.settled;
  lower-side = lower-same f (stored i) i.n L w.lower x.lower s.lower-size F.lower-side;
  upper-side = rw s.upper-size F.upper-side;
  reciprocals = s.d-size ∙ F.reciprocals;
  scratch = s.work-size ∙ F.scratch;
  slots = rw s.marks-size F.slots;
  inverse = inv;
}

-- ---- the answer of a row

pub came-on : {f : Form} {i : Input} {L : PlacedLists} {k : ℕ} {w : Workspace} {t : ⊤} → CameTo f i L k (Ok t) w → Going f i L k w
unfolding CameTo
came-on h = h

pub came-done : {f : Form} {i : Input} {L : PlacedLists} {k : ℕ} {w : Workspace} (j : ℕ) → k ≡ j → Going f i L k w → CameTo f i L j (Ok tt) w
unfolding CameTo
came-done j e h = rw (← e) h

-- what `?` hands on
pub handed-on : {E : Type 0} (a : Result ⊤ E) (q : E) → IsErr a → IsErrAnd a (λ x. x ≡ q) → Err q ≡ a
handed-on (Ok t) q e h = absurd (true≢false (sym e))
handed-on (Err x) q e h = ap Err (sym h)

-- a fault is the answer whatever follows
pub came-off : (f : Form) (i : Input) (L : PlacedLists) (k : ℕ) (w : Workspace) (q : Fault) (j : ℕ) (x : Workspace) (a : Result ⊤ Fault) → IsErr a → IsErrAnd a (λ x. x ≡ q)
    → CameTo f i L k (Err q) w → CameTo f i L j a x
unfolding CameTo
came-off f i L p w (Zero k) j x a e h g = rw (← handed-on a (Zero k) e h) g
came-off f i L p w (Overflow k) j x a e h g = rw (← handed-on a (Overflow k) e h) g

pub came-end : (f : Form) (i : Input) (L : PlacedLists) (k : ℕ) (w : Workspace) (q : Fault) (l u d z : List Float) (a : Result ⊤ Fault) → IsErr a → IsErrAnd a (λ x. x ≡ q)
    → CameTo f i L k (Err q) w → FactoredAs f i a l u d z
unfolding CameTo FactoredAs
came-end f i L p w (Zero k) l u d z a e h g = rw (← handed-on a (Zero k) e h) g
came-end f i L p w (Overflow k) l u d z a e h g = rw (← handed-on a (Overflow k) e h) g

pub fault-is : (r : Result RowSums RowFault) (x y : RowFault) → r ≡ Err x → x ≡ y → r ≡ Err y
fault-is r x y e h = e ∙ ap Err h

-- ---- row k

module _ {i : Input} {k below : ℕ} {us ur ui m : List ℕ} {upper work : ℕ} (R : RowAt i k below us ur ui m upper work) where
  pub lower_in-below : Below i.n (lower_in i.n below m)
  lower_in-below = rw R.lower (lower-below (stored i) i.n k (omega (arith, R.place)))

  pub row_room : LowerAt i.n below (length m)
  row_room = record { few = omega (arith, R.lent.lent.orders.few); room = omega (arith, R.short, R.slots) }

module _ {f : Form} {i : Input} {L : PlacedLists} {k : ℕ} {w : Workspace} (G : Going f i L k w) (h : k < i.n) where
  -- what its steps find, once its lower row stands in the marks
  pub row-at : (m : List ℕ) (below : ℕ) → length m ≡ length w.marks → Inverse i m → below ≡ length (lower_row (stored i) k) → lower_in i.n below m ≡ lower_row (stored i) k
      → RowAt i k below L.upper-starts L.upper-runs L.upper-index m (length w.upper) (length w.work)
  row-at m below em inv eb el =
      let F = G.given in
      let own = order_below i.r i.n F.settled.structured.readable.row-order k h in
      let columns = F.settled.structured.readable.rows F.lent.lent.starts (get_or i.r k 0) own in
      record {
        place = h;
        lent = rw em F.lent;
        settled = F.settled;
        shape = placed-shape f (stored i) i.n L.upper-starts L.upper-runs L.upper-index (length w.upper) F.upper-side;
        scratch = F.scratch;
        slots = rw em F.slots;
        own-place = omega (arith, F.lent.lent.orders.row-order);
        columns = columns;
        values = rw F.lent.values columns;
        right = omega (arith, F.lent.right);
        short = omega (arith, lower-le (stored i) k);
        inverse = inv;
        lower = el;
      }

  -- a row that is not kept
  pub zero-met : {g v : List Float} (p : Result RowSums RowFault) → p ≡ Err row-fault.Zero → Reduced (system i) G.rows i.n k L.upper-starts w.work g w.upper v p → listed i ≡ met (zero_pivot k)
  zero-met {g} {v} p e R = listed-stops i ∙ held-zero G.held h (subst (λ (q : Result RowSums RowFault). Reduced (system i) G.rows i.n k L.upper-starts w.work g w.upper v q) e R)

  pub overflow-met : {g v : List Float} (p : Result RowSums RowFault) → p ≡ Err row-fault.Overflow → Reduced (system i) G.rows i.n k L.upper-starts w.work g w.upper v p → listed i ≡ met (overflow k)
  overflow-met {g} {v} p e R = listed-stops i ∙ held-overflow G.held h (subst (λ (q : Result RowSums RowFault). Reduced (system i) G.rows i.n k L.upper-starts w.work g w.upper v q) e R)

  -- what its closing asks
  pub row-closable : {m : List ℕ} {below : ℕ} (g : List Float) → length g ≡ length w.work → RowAt i k below L.upper-starts L.upper-runs L.upper-index m (length w.upper) (length w.work)
      → LowerAt i.n below (length m) × Closable i.n k (length g) (lower_in i.n below m) L.upper-starts L.upper-runs L.upper-index (length w.d)
  row-closable g lg R = (
    row_room R,
    record { place = h; scratch = lg ∙ R.scratch; reciprocals = G.given.reciprocals; below = lower_in-below R; list = R.shape.list k h; above = R.shape.below k h },
  )

  -- a row that is kept: its steps left g and x.upper, its closing x.work and x.d
  module _ (x : Workspace) (s : SameSizes w x) (lower : List ℕ) (el : lower ≡ lower_row (stored i) k) (g : List Float) (lg : length g ≡ length w.work) (t : RowSums) (p : Result RowSums RowFault) (ep : p ≡ Ok t)
      (R : Reduced (system i) G.rows i.n k L.upper-starts w.work g w.upper x.upper p)
      (Q : Shut i.n k lower (list_at L.upper-starts L.upper-runs L.upper-index k) g x.work w.d x.d t) where
    abbrev pub next : Row
    next = kept_row (gathered ((system i).lower k) (take i.n g)) (row_of L.upper-starts x.upper k) t

    many : length G.rows ≡ k
    many = forward-length (system i) k G.rows G.held.done

    pivot-at : (j : ℕ) → j < k + 1 → get_or x.d j nan ≡ (get_or (G.rows ++ (next ∷ [])) j none).d
    pivot-at j b = rw Q.reciprocals (elim (dec_lt j k) [
      | yes q ↦ get_or-set_other w.d k j t.reciprocal nan (omega arith) ∙ G.pivots j q ∙ ap (λ (r : Row). r.d) (sym (get_or-append G.rows (next ∷ []) none j (rw many q)))
      | no q ↦ (let e : j ≡ k = omega arith in
          rw e (get_or-set_same w.d k t.reciprocal nan (omega (arith, G.given.reciprocals)) ∙ ap (λ (r : Row). r.d) (sym (get_or_at G.rows next [] none k many))))
    ])

    pub going_more : LowerHeld f (system i) (G.rows ++ (next ∷ [])) (k + 1) L.lower-starts (drop (cursors_from i.n) x.marks) x.lower → Inverse i x.marks
        → Finding f i L (k + 1) x.marks → Going f i L (k + 1) x
    going_more kept inv find = record {
      given = same-given s inv G.given;
      rows = G.rows ++ (next ∷ []);
      held = held_more (system i) G.rows i.n k w.work L.upper-starts L.upper-runs L.upper-index w.upper G.held h G.given.scratch (system-closed i k h)
          (placed-shape f (stored i) i.n L.upper-starts L.upper-runs L.upper-index (length w.upper) G.given.upper-side)
          lower (lower-is i k el) g x.work x.upper w.d x.d lg t
          (subst (λ (q : Result RowSums RowFault). Reduced (system i) G.rows i.n k L.upper-starts w.work g w.upper x.upper q) ep R) Q;
      pivots = pivot-at;
      lower = kept;
      finding = find;
    }
