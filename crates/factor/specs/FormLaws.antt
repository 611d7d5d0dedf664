-- Row k by form: how its lower row comes to stand in the marks and how its L is kept, and from there to row k + 1.
use Rattle.std.specs.Prelude.{◌≡◌, Bool, true, List, [], ◌∷◌, ◌++◌, ℕ, ◌+◌, ◌<◌, ◌≤◌, get_or, take, drop, Result, Ok, Float}
use Rattle.std.proofs.Math.Path.{refl, sym, ap}
use Rattle.std.proofs.Common.{◌∙◌, subst, arith, ext_get_or, get_or-take, length-take-le}
use Rattle.std.proofs.Math.ListN.{length, length-drop}
use Rattle.std.proofs.lemmas.List.Edits.{sets}
use Rattle.std.proofs.Math.Seq.{get_or-drop}
use Rattle.base.specs.Lists.{nought, has, list_at, row_of}
use Rattle.base.specs.AscLaws.{count-le}
use Rattle.base.specs.declared.Form.{Form}
use Rattle.base.specs.declared.Form.TheVariants.{Plain, Shared, ByRow}
use Rattle.base.specs.declared.Side.TheVariants.{Lower}
use Rattle.base.specs.declared.RowSums.{RowSums}
use Rattle.fill.specs.Fill.{lower_row}
use Rattle.matrix.specs.Input.{Input, stored}
use Rattle.arithmetic.specs.Arith.{Row}
use Rattle.outcome.specs.Placed.{PlacedSide, start-at, starts-long, size-at, values-at, run_inside, list_at-is}
use Rattle.outcome.specs.Forms.{placed_to}
use Rattle.outcome.specs.Solve.{system}
use Rattle.lent.specs.Reading.{But}
use Rattle.marks.specs.MarkLaws.{sets_below}
use Rattle.marks.specs.RenewLaws.{held_kept}
use Rattle.marks.specs.ListLaws.{lower-le}
use Rattle.numeric.specs.declared.RowFault.{RowFault}
use Rattle.numeric.specs.Stores.{Closable, gathered, columns, keep_columns}
use Rattle.numeric.specs.Rows.{Reduced, Shut, Stacked, l_of, column_of, InColumns, kept_row}
use Rattle.numeric.specs.StoreLaws.{Rising, rises-to, gathered-length, sets-part}
use Rattle.numeric.specs.RowLaws.{has-at}
use Rattle.numeric.specs.KeepLaws.{stacked-row, column-length, column-below, column-room, columns-more}
use Rattle.numeric.specs.PassLaws.{forward-length}
use Rattle.questions.specs.Lent.{Inverse}
use Rattle.questions.specs.ScatterLaws.{inverse-same}
use Rattle.factor.specs.Factoring.{PlacedLists, Workspace, written, Finding, LowerHeld, Going, lower_in, LowerAt, RowAt, LowerFound, reads_lower, LowerAsked, LowerGiven, RowReady, Spread, KeepAsked, LowerKept, KeepGiven}
use Rattle.factor.specs.SystemLaws.{lower-ascends, system-closed, lower-is}
use Rattle.factor.specs.ColumnLaws.{shared-side, shared-fits}
use Rattle.factor.specs.FindLaws.{findable}
use Rattle.factor.specs.TurnLaws.{SameSizes, row-at, row_room, lower_in-below, row-closable, going_more}
use Rattle.base.specs.Scratch.{upper_cuts, cursors_from, list_from}
use Rattle.base.specs.Limits.{max_rows}

-- ---- lower row k in the marks

pub record Lowered (f : Form) (i : Input) (L : PlacedLists) (k below : ℕ) (m : List ℕ) : Type 0 where
  pub size : below ≡ length (lower_row (stored i) k)
  pub lower : lower_in i.n below m ≡ lower_row (stored i) k
  pub inverse : Inverse i m
  pub finding : Finding f i L (k + 1) m

-- the plain form reads it
module _ {i : Input} {L : PlacedLists} {k : ℕ} {w : Workspace} (G : Going Plain i L k w) (h : k < i.n) where
  abbrev side : PlacedSide Plain Lower (stored i) i.n L.lower-starts L.lower-starts L.lower-index (length w.lower)
  side = G.given.lower-side

  plain_size : get_or L.lower-starts (k + 1) 0 ≡ get_or L.lower-starts k 0 + length (lower_row (stored i) k)
  plain_size = size-at Plain Lower (stored i) i.n L.lower-starts L.lower-starts L.lower-index (length w.lower) side k h

  plain-room : get_or L.lower-starts k 0 + length (lower_row (stored i) k) ≤ length w.lower
  plain-room = omega (arith, plain_size, values-at Plain Lower (stored i) i.n L.lower-starts L.lower-starts L.lower-index (length w.lower) side k h)

  lower-read : row_of L.lower-starts L.lower-index k ≡ lower_row (stored i) k
  lower-read = list_at-is Plain Lower (stored i) i.n L.lower-starts L.lower-starts L.lower-index (length w.lower) side k h

  plain-asked : LowerAsked true i.n k i.starts i.columns i.r L w.marks
  unfolding LowerAsked
  plain-asked = (
    record {
      has-run = omega (arith, starts-long Plain Lower (stored i) i.n L.lower-starts L.lower-starts L.lower-index (length w.lower) side);
      has-start = omega (arith, starts-long Plain Lower (stored i) i.n L.lower-starts L.lower-starts L.lower-index (length w.lower) side);
      rise = omega (arith, plain_size);
      inside = run_inside Plain Lower (stored i) i.n L.lower-starts L.lower-starts L.lower-index (length w.lower) side k h;
    },
    record { few = omega (arith, G.given.lent.lent.orders.few); room = omega (arith, ap length lower-read, lower-le (stored i) k, G.given.slots) },
  )

  plain-given : {m : List ℕ} {below : ℕ} → LowerGiven true i.n k below i.starts i.columns i.r L w.marks m → Lowered Plain i L k below m
  unfolding LowerGiven LowerAsked
  plain-given {m} {below} e = record {
    size = e.0 ∙ ap length lower-read;
    lower = rw e.1 (sets-part w.marks (row_of L.lower-starts L.lower-index k) (list_from i.n) below (sym e.0) (omega (arith, e.0, plain-asked.1.room)) ∙ lower-read);
    inverse = inverse-same (λ j b. rw e.1 (sets_below w.marks (list_from i.n) (row_of L.lower-starts L.lower-index k) (i.n + j) (omega arith))) G.given.inverse;
    finding = tt;
  }

  plain-keepable : {m : List ℕ} {below : ℕ} (g : List Float) → length g ≡ length w.work → RowAt i k below L.upper-starts L.upper-runs L.upper-index m (length w.upper) (length w.work)
      → below ≡ length (lower_row (stored i) k) → KeepAsked Plain i.n k below L.lower-starts (length w.lower) (length g) m
  unfolding KeepAsked LowerAsked
  plain-keepable g lg R eb = (
    row_room R,
    record { start = plain-asked.0.has-run; room = omega (arith, plain-room, eb); row = omega (arith, G.given.scratch, lg); places = lower_in-below R },
  )

  -- L of row k behind that of the rows above
  plain-kept : (next : Row) (lower : List ℕ) (g : List Float) → lower ≡ lower_row (stored i) k → next.l ≡ gathered lower g
      → Stacked nought (l_of (G.rows ++ (next ∷ []))) (k + 1) L.lower-starts (sets w.lower (get_or L.lower-starts k 0) (gathered lower g))
  plain-kept next lower g el en =
      stacked-row (λ (r : Row). r.l) G.rows next k L.lower-starts w.lower (gathered lower g) (forward-length (system i) k G.rows G.held.done)
      (λ j b. omega (arith, size-at Plain Lower (stored i) i.n L.lower-starts L.lower-starts L.lower-index (length w.lower) side j (omega arith)))
      (omega (arith, plain_size, plain-room)) (omega (arith, plain_size, gathered-length lower g, ap length el)) en G.lower

lower-asked : {i : Input} {L : PlacedLists} {k : ℕ} {w : Workspace} (f : Form) → Going f i L k w → k < i.n → LowerAsked (reads_lower f) i.n k i.starts i.columns i.r L w.marks
unfolding LowerAsked
lower-asked Plain G h = plain-asked G h
lower-asked {i = i} Shared G h = (stored i, findable G h G.finding)
lower-asked {i = i} ByRow G h = (stored i, findable G h G.finding)

lower-given : {i : Input} {L : PlacedLists} {k : ℕ} {w : Workspace} (f : Form) (G : Going f i L k w) → k < i.n → (m : List ℕ) (below : ℕ)
    → LowerGiven (reads_lower f) i.n k below i.starts i.columns i.r L w.marks m → Lowered f i L k below m
unfolding LowerGiven
lower-given Plain G h m below e = plain-given G h e
lower-given {i = i} Shared G h m below e = let F = e (stored i) (findable G h G.finding) in record { size = F.size; lower = F.lower; inverse = inverse-same F.inverse G.given.inverse; finding = F.next }
lower-given {i = i} ByRow G h m below e = let F = e (stored i) (findable G h G.finding) in record { size = F.size; lower = F.lower; inverse = inverse-same F.inverse G.given.inverse; finding = F.next }

-- what row k's steps find
lowered-row : {f : Form} {i : Input} {L : PlacedLists} {k : ℕ} {w : Workspace} {m : List ℕ} {below : ℕ} → Going f i L k w → k < i.n → length m ≡ length w.marks → Lowered f i L k below m
    → RowAt i k below L.upper-starts L.upper-runs L.upper-index m (length w.upper) (length w.work)
lowered-row G h em D = row-at G h _ _ em D.inverse D.size D.lower

-- what row k asks
pub row-ready : {i : Input} {L : PlacedLists} {k : ℕ} {w : Workspace} (f : Form) → Going f i L k w → k < i.n → RowReady f i L k (length w.upper) (length w.work) w.marks
row-ready f G h = record { asked = lower-asked f G h; row = λ m below em e. lowered-row G h em (lower-given f G h m below e) }

-- ---- L by columns

module _ {i : Input} {L : PlacedLists} {k : ℕ} {w : Workspace} (G : Going Shared i L k w) (h : k < i.n) {m : List ℕ} {below : ℕ}
    (F : LowerFound (stored i) i.n k below L.upper-starts L.upper-runs L.upper-index w.marks m) (em : length m ≡ length w.marks) where
  abbrev column-side : PlacedSide Shared Lower (stored i) i.n L.lower-starts (placed_to Shared Lower (stored i) i.n i.n).runs (placed_to Shared Lower (stored i) i.n i.n).slots (length w.lower)
  column-side = shared-side (stored i) i.n L.lower-starts (length w.lower) G.given.lower-side

  rising : Rising L.lower-starts (system i).n
  unfolding system
  rising j b = omega (arith, size-at Shared Lower (stored i) i.n L.lower-starts _ _ (length w.lower) column-side j b)

  whole : get_or L.lower-starts (system i).n 0 ≤ length w.lower
  unfolding system
  whole = omega (arith, start-at Shared Lower (stored i) i.n L.lower-starts _ _ (length w.lower) column-side i.n (omega arith), G.given.lower-side.values-in)

  -- the cursors are as they were
  in-columns : InColumns (system i).n L.lower-starts (drop (cursors_from i.n) m) w.lower (column_of (system i).lower G.rows k)
  unfolding system
  in-columns = record {
    used = λ j b. get_or-drop (cursors_from i.n) m j 0 ∙ F.cursors j b ∙ sym (get_or-drop (cursors_from i.n) w.marks j 0) ∙ G.lower.used j b;
    held = G.lower.held;
    behind = G.lower.behind;
  }

  enough : (system i).n ≤ length (drop (cursors_from i.n) m)
  unfolding system
  enough = simp length-drop (omega (arith, G.given.slots))

  module _ {lower : List ℕ} (el : lower ≡ lower_row (stored i) k) where
    shared-room : (j : ℕ) → has lower j ≡ true → (get_or L.lower-starts j 0 + get_or m (cursors_from i.n + j) 0 < length w.lower) × (get_or m (cursors_from i.n + j) 0 < max_rows)
    unfolding system
    shared-room j q =
        let b = column-below (system i) L.lower-starts rising (shared-fits i L.lower-starts (length w.lower) G.given.lower-side) G.rows k lower (drop (cursors_from i.n) m) w.lower
        h (system-closed i k h) (lower-is i k el) whole enough in-columns j q in
        let r = column-room (system i) L.lower-starts rising (shared-fits i L.lower-starts (length w.lower) G.given.lower-side) G.rows k lower (drop (cursors_from i.n) m) w.lower
        h (system-closed i k h) (lower-is i k el) whole enough in-columns j b in
        let u = sym (get_or-drop (cursors_from i.n) m j 0) ∙ in-columns.used j b in (
          omega (arith, u, rw q at r, rises-to L.lower-starts (j + 1) i.n i.n rising (omega arith) (omega arith), whole),
          omega (arith, u, column-length (system i).lower G.rows k j, count-le (λ q. has ((system i).lower q) j) k, G.given.lent.lent.orders.few),
        )

    shared_kept : (next : Row) (g l : List Float) (c : List ℕ) → next.l ≡ gathered lower g → columns c l ≡ keep_columns L.lower-starts g lower (columns (drop (cursors_from i.n) m) w.lower)
        → InColumns (system i).n L.lower-starts c l (column_of (system i).lower (G.rows ++ (next ∷ [])) (k + 1))
    unfolding system
    shared_kept next g l c en q =
        columns-more (system i) L.lower-starts rising (shared-fits i L.lower-starts (length w.lower) G.given.lower-side) G.rows k lower (drop (cursors_from i.n) m) w.lower
        h (system-closed i k h) (lower-is i k el) whole enough in-columns next g c l (forward-length (system i) k G.rows G.held.done) en q

  -- a slot left in each column
  spread : RowAt i k below L.upper-starts L.upper-runs L.upper-index m (length w.upper) (length w.work) → Spread i.n below L.lower-starts (length w.lower) m
  spread R =
      let at : (p : ℕ) → p < below → has (lower_in i.n below m) (get_or (lower_in i.n below m) p 0) ≡ true =
      λ p b. has-at (lower_in i.n below m) p (omega (arith, ap length F.lower, F.size)) in
      record {
        lower = row_room R;
        start = omega (arith, starts-long Shared Lower (stored i) i.n L.lower-starts _ _ (length w.lower) column-side);
        ascending = rw F.lower (lower-ascends (stored i) k);
        places = lower_in-below R;
        room = λ p b. (shared-room F.lower (get_or (lower_in i.n below m) p 0) (at p b)).0;
        few = λ p b. (shared-room F.lower (get_or (lower_in i.n below m) p 0) (at p b)).1;
      }

-- ---- L of row k by form

pub keep-asked : {i : Input} {L : PlacedLists} {k : ℕ} {w : Workspace} (f : Form) (G : Going f i L k w) (h : k < i.n) (m : List ℕ) (below : ℕ)
    → LowerGiven (reads_lower f) i.n k below i.starts i.columns i.r L w.marks m → length m ≡ length w.marks → (g : List Float) → length g ≡ length w.work
    → KeepAsked f i.n k below L.lower-starts (length w.lower) (length g) m
unfolding KeepAsked LowerGiven
keep-asked Plain G h m below e em g lg = let D = lower-given Plain G h m below e in plain-keepable G h g lg (lowered-row G h em D) D.size
keep-asked {i = i} Shared G h m below e em g lg = (omega (arith, G.given.scratch, lg), spread G h (e (stored i) (findable G h G.finding)) em (lowered-row G h em (lower-given Shared G h m below e)))
keep-asked ByRow G h m below e em g lg = tt

kept-held : {i : Input} {L : PlacedLists} {k : ℕ} {w : Workspace} (f : Form) (G : Going f i L k w) (h : k < i.n) (m : List ℕ) (below : ℕ)
    → LowerGiven (reads_lower f) i.n k below i.starts i.columns i.r L w.marks m → length m ≡ length w.marks
    → (next : Row) (g l : List Float) (x : List ℕ) → next.l ≡ gathered (lower_row (stored i) k) g → LowerKept f i.n k below L.lower-starts g w.lower l m x
    → LowerHeld f (system i) (G.rows ++ (next ∷ [])) (k + 1) L.lower-starts (drop (cursors_from i.n) x) l
unfolding LowerKept LowerGiven
kept-held {i = i} Plain G h m below e em next g l x en K =
    let D = lower-given Plain G h m below e in
    rw K (plain-kept G h next (lower_in i.n below m) g D.lower (en ∙ ap (λ (q : List ℕ). gathered q g) (sym D.lower)))
kept-held {i = i} Shared G h m below e em next g l x en K =
    let D = lower-given Shared G h m below e in
    shared_kept G h (e (stored i) (findable G h G.finding)) em D.lower next g l (drop (cursors_from i.n) x) (en ∙ ap (λ (q : List ℕ). gathered q g) (sym D.lower)) K
kept-held {i = i} ByRow G h m below e em next g l x en K = K ∙ G.lower

-- ---- keeping L writes the cursors alone

held_stays : (i : Input) (L : PlacedLists) (k : ℕ) (m x : List ℕ) → k < i.n → But (cursors_from i.n) (list_from i.n) m x → Finding ByRow i L (k + 1) m → Finding ByRow i L (k + 1) x
held_stays i L k m x h same F =
    held_kept (stored i) i.n (k + 1) (k + 1 + 1) (k + 1 + 1) (upper_cuts i.n) m x L.upper-starts L.upper-runs L.upper-index
    (λ j b. same (upper_cuts i.n + j) (λ e. absurd (omega arith))) (λ j b. rw (same j (λ e. absurd (omega arith))) (F.fresh j b)) F

finding-stays : (f : Form) (i : Input) (L : PlacedLists) (k : ℕ) (m x : List ℕ) → k < i.n → But (cursors_from i.n) (list_from i.n) m x → Finding f i L (k + 1) m → Finding f i L (k + 1) x
finding-stays Plain i L k m x h same F = tt
finding-stays Shared i L k m x h same F = held_stays i L k m x h same F
finding-stays ByRow i L k m x h same F = held_stays i L k m x h same F

lower-stays : (n below : ℕ) (m x : List ℕ) → list_from n + below ≤ length m → length x ≡ length m → But (cursors_from n) (list_from n) m x → lower_in n below x ≡ lower_in n below m
lower-stays n below m x r ex same =
    let a : length (lower_in n below x) ≡ below = length-take-le below (drop (list_from n) x) (simp length-drop (omega arith)) in
    let b : length (lower_in n below m) ≡ below = length-take-le below (drop (list_from n) m) (simp length-drop (omega arith)) in
    ext_get_or 0 (lower_in n below x) (lower_in n below m) (a ∙ sym b)
    (λ p q. let g : p < below = rw a at q in
    get_or-take below (drop (list_from n) x) p 0 g ∙ get_or-drop (list_from n) x p 0 ∙ same (list_from n + p) (λ e. omega arith) ∙ sym (get_or-drop (list_from n) m p 0) ∙ sym (get_or-take below (drop (list_from n) m) p 0 g))

-- ---- row k, from what its calls leave

module _ {i : Input} {L : PlacedLists} {k : ℕ} {w : Workspace} (f : Form) (G : Going f i L k w) (h : k < i.n) (m : List ℕ) (below : ℕ)
    (e : LowerGiven (reads_lower f) i.n k below i.starts i.columns i.r L w.marks m) (em : length m ≡ length w.marks) where
  abbrev D : Lowered f i L k below m
  D = lower-given f G h m below e

  row-lowered : RowAt i k below L.upper-starts L.upper-runs L.upper-index m (length w.upper) (length w.work)
  row-lowered = lowered-row G h em D

  module _ (g : List Float) (lg : length g ≡ length w.work) {l : List Float} {x : List ℕ}
      (K : KeepGiven f i.n k below L.lower-starts (take i.n g) w.lower l m x) (ex : length x ≡ length m) where
    row_kept : Lowered f i L k below x
    row_kept = record {
      size = D.size;
      lower = lower-stays i.n below m x (row_room row-lowered).room ex K.same ∙ D.lower;
      inverse = inverse-same (λ j b. K.same (i.n + j) (λ q. absurd (omega arith))) D.inverse;
      finding = finding-stays f i L k m x h K.same D.finding;
    }

    -- what its closing asks
    pub close-asked : LowerAt i.n below (length x) × Closable i.n k (length g) (lower_in i.n below x) L.upper-starts L.upper-runs L.upper-index (length w.d)
    close-asked = row-closable G h g lg (lowered-row G h (ex ∙ em) row_kept)

    pub row_more : (u d v : List Float) → SameSizes w (written l u d v x) → (t : RowSums) (p : Result RowSums RowFault) → p ≡ Ok t
        → Reduced (system i) G.rows i.n k L.upper-starts w.work g w.upper u p
        → Shut i.n k (lower_in i.n below x) (list_at L.upper-starts L.upper-runs L.upper-index k) g v w.d d t
        → Going f i L (k + 1) (written l u d v x)
    unfolding system
    row_more u d v s t p ep R Q =
        going_more G h (written l u d v x) s (lower_in i.n below x) row_kept.lower g lg t p ep R Q
        (kept-held f G h m below e em (kept_row (gathered (lower_row (stored i) k) (take i.n g)) (row_of L.upper-starts u k) t) (take i.n g) l x refl K.values)
        row_kept.inverse row_kept.finding

-- ---- what a test of the form, or a match on it, shows

pub asked-as : (f : Form) (n k : ℕ) (starts columns r : List ℕ) (L : PlacedLists) (s : List ℕ) (t x : Bool) → t ≡ reads_lower f → t ≡ x
    → LowerAsked (reads_lower f) n k starts columns r L s → LowerAsked x n k starts columns r L s
asked-as f n k starts columns r L s t x e q = subst (λ b. LowerAsked b n k starts columns r L s) (sym e ∙ q)

pub given-as : (f : Form) (n k below : ℕ) (starts columns r : List ℕ) (L : PlacedLists) (s₀ s : List ℕ) (t x : Bool) → t ≡ reads_lower f → t ≡ x
    → LowerGiven x n k below starts columns r L s₀ s → LowerGiven (reads_lower f) n k below starts columns r L s₀ s
given-as f n k below starts columns r L s₀ s t x e q = subst (λ b. LowerGiven b n k below starts columns r L s₀ s) (sym q ∙ e)

pub keep-as : (f g : Form) (n k below : ℕ) (starts : List ℕ) (slots work : ℕ) (s : List ℕ) → f ≡ g → KeepAsked f n k below starts slots work s → KeepAsked g n k below starts slots work s
keep-as f g n k below starts slots work s e = subst (λ x. KeepAsked x n k below starts slots work s) e

pub kept-rows : (f : Form) (n k below : ℕ) (starts : List ℕ) (w l₀ l : List Float) (s : List ℕ) → f ≡ Plain → l ≡ sets l₀ (get_or starts k 0) (gathered (lower_in n below s) w)
    → KeepGiven f n k below starts w l₀ l s s
unfolding LowerKept
kept-rows f n k below starts w l₀ l s e h = rw e (record { values = h; same = λ q g. refl })

pub kept-columns : (f : Form) (n k below : ℕ) (starts : List ℕ) (w l₀ l : List Float) (s₀ s : List ℕ) → f ≡ Shared → KeepGiven Shared n 0 below starts w l₀ l s₀ s → KeepGiven f n k below starts w l₀ l s₀ s
unfolding LowerKept
kept-columns f n k below starts w l₀ l s₀ s e h = rw e (record { values = h.values; same = h.same })

pub kept-none : (f : Form) (n k below : ℕ) (starts : List ℕ) (w l : List Float) (s : List ℕ) → f ≡ ByRow → KeepGiven f n k below starts w l l s s
unfolding LowerKept
kept-none f n k below starts w l s e = rw e (record { values = refl; same = λ q g. refl })
