-- Lower row k found anew, in the forms that keep no lower rows: from what its calls leave, and between two rows.
use Rattle.std.specs.Prelude.{◌≡◌, ℕ, ◌+◌, ◌<◌, ◌≤◌, length, get_or, take, drop}
use Rattle.std.proofs.Common.{sym, ◌∙◌, arith, length-drop, get_or-take, get_or-drop, ext_get_or, length-take-le}
use Rattle.std.proofs.Math.Path.{ap}
use mathlib.Core.List.{List}
use Rattle.base.specs.Lists.{has, row_of}
use Rattle.base.specs.declared.Form.{Form}
use Rattle.base.specs.declared.Side.TheVariants.{Upper}
use Rattle.fill.specs.Fill.{Pattern, filled}
use Rattle.matrix.specs.Input.{Input, ic, stored}
use Rattle.matrix.proofs.OrderLaws.{order_below, place-hits}
use Rattle.questions.specs.Settled.{columns_at}
use Rattle.questions.specs.SettledLaws.{columns-under}
use Rattle.outcome.specs.Placed.{PlacedSide, list_at-is}
use Rattle.lent.specs.Reading.{But, order_of, placed}
use Rattle.lent.specs.ReadingLaws.{placed-is}
use Rattle.marks.specs.Marks.{Holds, Base, Parts, Blocks, members}
use Rattle.marks.specs.MarkLaws.{holds_same}
use Rattle.marks.specs.Rows.{Stored, Loaded, LowerListed, Closing, Renewed}
use Rattle.marks.specs.FillLaws.{held-parts}
use Rattle.marks.specs.ListLaws.{lower-members, lower-marks, lower-read, lower-but, lower-le}
use Rattle.marks.specs.Turn.{loaded-cuts, closed-marks, place-turn}
use Rattle.factor.specs.Factoring.{PlacedLists, Workspace, Going, RowDue, Findable, LowerFound, lower_in}
use Rattle.factor.specs.SystemLaws.{placed-shape}
use Rattle.base.specs.Scratch.{blocks_from, upper_cuts, cursors_from, list_from}

-- ---- one finding, from what its calls leave

pub base-at : (n : ℕ) → Base n (upper_cuts n)
base-at n = record { low = omega arith; high = omega arith }

module _ {P : Pattern} {n k : ℕ} {starts columns r index runs ustarts s₀ : List ℕ} (F : Findable P n k starts columns r ustarts runs index s₀) where
  module _ {s₁ : List ℕ} (loaded : Loaded n (k + 1) (get_or r k 0) starts columns s₀ s₁) (l₁ : length s₁ ≡ length s₀) where
    marked_row : Holds n (k + 1) s₁ (P k)
    marked_row = holds_same n (k + 1) s₁ (has (placed (order_of n s₀) (row_of starts columns (get_or r k 0)))) (P k) F.entries (loaded.row F.held.fresh)

    pub close-parts : Parts n k s₁ (upper_cuts n) runs index
    close-parts = held-parts P n k ustarts runs index F.held.store (upper_cuts n) s₁
        (loaded-cuts P n k (k + 1) (upper_cuts n) (list_from n) F.place (base-at n) (omega arith) ustarts runs index s₀ s₁ s₁ F.held loaded.same marked_row) (omega (arith, F.place))

    pub close-blocks : Blocks n (k + 1) s₁
    close-blocks = marked_row.blocks

    module _ {s₃ : List ℕ} {below : ℕ} (closing : Closing n (k + 1) k (upper_cuts n) runs index s₁ s₃ below) (l₃ : length s₃ ≡ length s₁) where
      abbrev s₂ : List ℕ
      s₂ = closing.mid

      filled_row : Holds n (k + 1) s₂ (filled P k)
      filled_row = closed-marks P n k (k + 1) (upper_cuts n) (list_from n) F.place (base-at n) (omega arith) ustarts runs index s₀ s₁ s₂ F.held loaded.same marked_row closing.closed

      listed : LowerListed P n k s₂ s₃ below
      listed = closing.lower P filled_row

      fits : list_from n + n ≤ length s₂
      fits = omega (arith, F.room.long, closing.size)

      written : But (list_from n) (list_from n + below) s₂ s₃
      written = lower-but P n k s₂ s₃ below listed fits F.place

      kept-marks : Holds n (k + 1) s₃ (filled P k)
      kept-marks = lower-marks P n (k + 1) k s₂ s₃ below listed filled_row

      -- what cutting walks along
      pub cut_members : take below (drop (list_from n) s₃) ≡ members (k + 1) s₃ 0 k
      cut_members = lower-read P n k s₂ s₃ below listed fits F.place ∙ sym (lower-members P n (k + 1) k s₃ F.place kept-marks)

      module _ {s₄ : List ℕ} (renewed : Renewed n (k + 1) k (upper_cuts n) ustarts runs index s₃ s₄) (l₄ : length s₄ ≡ length s₃) where
        -- a slot that no step writes
        same : (q : ℕ) → n ≤ q → (blocks_from n ≤ q → cursors_from n ≤ q) → q < list_from n → get_or s₄ q 0 ≡ get_or s₀ q 0
        same q a b c =
            renewed.kept q (λ e. omega (arith, b (omega arith), F.place))
            ∙ written q (λ e. absurd (omega arith))
            ∙ closing.closed.same.slots q (λ e. a) (λ e. omega (arith, b e)) ∙ loaded.same.slots q (λ e. a) (λ e. omega (arith, b e))

        short : below ≤ n
        short = omega (arith, listed.lower, lower-le P k, F.place)

        lower-same : lower_in n below s₄ ≡ lower_in n below s₃
        lower-same =
            let a : length (lower_in n below s₄) ≡ below = length-take-le below (drop (list_from n) s₄) (simp length-drop (omega (arith, short, F.room.long))) in
            let b : length (lower_in n below s₃) ≡ below = length-take-le below (drop (list_from n) s₃) (simp length-drop (omega (arith, short, F.room.long))) in
            ext_get_or 0 (lower_in n below s₄) (lower_in n below s₃) (a ∙ sym b)
            (λ p h. let g : p < below = rw a at h in
            get_or-take below (drop (list_from n) s₄) p 0 g ∙ get_or-drop (list_from n) s₄ p 0 ∙ renewed.kept (list_from n + p) (λ e. omega (arith, F.place))
            ∙ sym (get_or-drop (list_from n) s₃ p 0) ∙ sym (get_or-take below (drop (list_from n) s₃) p 0 g))

        pub found : LowerFound P n k below ustarts runs index s₀ s₄
        found = record {
          next = place-turn P n k (k + 1) (upper_cuts n) (list_from n) F.place (base-at n) (omega arith) ustarts runs index s₀ s₁ s₂ F.held loaded.same marked_row closing.closed s₃ (list_from n + below) written
              s₄ ustarts runs index F.store renewed (k + 1 + 1) (omega arith);
          size = listed.lower;
          lower = lower-same ∙ lower-read P n k s₂ s₃ below listed fits F.place;
          inverse = λ j h. same (n + j) (omega arith) (λ e. absurd (omega arith)) (omega arith);
          cursors = λ j h. same (cursors_from n + j) (omega arith) (λ e. omega arith) (omega arith);
        }

-- ---- between two rows

-- the lists of the places up to k stand in the store
placed-stored : (f : Form) (P : Pattern) (n k : ℕ) (starts runs index : List ℕ) (size : ℕ) → k < n → PlacedSide f Upper P n starts runs index size → Stored P n (k + 1) starts runs index
placed-stored f P n k starts runs index size h S = record {
  list = λ j l. list_at-is f Upper P n starts runs index size S j (omega arith);
  read = λ j l. (placed-shape f P n starts runs index size S).list j (omega arith);
}

module _ {f : Form} {i : Input} {L : PlacedLists} {k : ℕ} {w : Workspace} (G : Going f i L k w) (h : k < i.n)
    (H : RowDue (stored i) i.n k w.marks L.upper-starts L.upper-runs L.upper-index) where
  abbrev own : ℕ
  own = get_or i.r k 0

  -- what finding lower row k asks
  pub findable : Findable (stored i) i.n k i.starts i.columns i.r L.upper-starts L.upper-runs L.upper-index w.marks
  unfolding stored
  findable =
      let g = G.given.settled.structured.readable in
      let b = order_below i.r i.n g.row-order k h in
      let columns-in = columns-under i g k in
      record {
        place = h;
        room = record { small = omega (arith, G.given.lent.lent.orders.few); long = G.given.slots };
        own-place = omega (arith, G.given.lent.lent.orders.row-order);
        row = g.rows G.given.lent.lent.starts own b;
        columns-below = columns-in;
        inverse = λ j l. rw (G.given.inverse.place j l) (place-hits i.c i.n g.column-order j l).0;
        entries = λ j l. ap (λ (x : List ℕ). has x j) (placed-is (order_of i.n w.marks) (columns_at i k) i.n (ic i.c i.n) G.given.inverse.place columns-in);
        held = H;
        store = placed-stored f (stored i) i.n k L.upper-starts L.upper-runs L.upper-index (length w.upper) h G.given.upper-side;
      }
