-- Opening a place: what its steps leave, one after another, from the load to the lists.
use mathlib.Core.Path.{◌≡◌, sym, ap, ◌∙◌}
use mathlib.Core.Bool.{true}
use mathlib.Core.List.{List}
use Prim.Native.Nat.{ℕ, ◌+◌, ◌-◌, ◌<◌, ◌≤◌}
use native.Mathlib.Omega.{arith}
use lib.ListN.{length, get_or, take, drop, length-take, length-drop}
use lib.Seq.{ext_get_or, get_or-take, get_or-drop}
use Rattle.base.specs.declared.Side.{Side}
use Rattle.base.specs.declared.Side.TheVariants.{Lower, Upper}
use Rattle.fill.specs.Fill.{Pattern, filled}
use Rattle.matrix.specs.Input.{Input}
use Rattle.lent.specs.ReadingLaws.{order-read}
use Rattle.questions.specs.ScatterLaws.{inverse-same}
use Rattle.lent.specs.Reading.{But, order_of}
use Rattle.marks.specs.Marks.{Room, Base, Holds, Unmarked, Parts}
use Rattle.marks.specs.MarkLaws.{holds_kept, unmarked-stamped}
use Rattle.marks.specs.Rows.{Cuts, Closed, LowerListed, Closing, UpperListed, Listed}
use Rattle.marks.specs.RenewLaws.{cuts-kept}
use Rattle.marks.specs.FillLaws.{held-parts}
use Rattle.marks.specs.ListLaws.{lower-marks, listed-both, listed-lower, listed-upper, listed-but, lower-le, upper-le}
use Rattle.columns.specs.Columns.{Untouched, Given, Ready}
use Rattle.columns.specs.Sides.{SideReady, SideLoaded, rows_in}
use Rattle.columns.proofs.Keeps.{rows_same}
use Rattle.columns.proofs.WindowLaws.{ready-steady}
use Rattle.columns.proofs.SideLaws.{side-below, side-untouched}
use Rattle.columns.proofs.Stored.{given-sound, side-holds}
use Rattle.symbolic.specs.Places.{pattern_of, cuts_of, Foreign, Apart, Begun, Open, RowFound}
use Rattle.base.specs.Scratch.{blocks_from, upper_cuts, lower_cuts, list_from, nodes_from, regions_end}

-- ---- what is not written

pub base-of : (side : Side) (n : ℕ) → Base n (cuts_of side n)
base-of Upper n = record { low = omega arith; high = omega arith }
base-of Lower n = record { low = omega arith; high = omega arith }

pub apart-then : {side : Side} {n : ℕ} {s u v : List ℕ} → Apart side n s u → Apart side n u v → Apart side n s v
apart-then a b = record {
  size = b.size ∙ a.size;
  order = λ q h g. b.order q h g ∙ a.order q h g;
  foreign = λ q f. b.foreign q f ∙ a.foreign q f;
}

-- slots written that are neither the order's nor the other side's
apart_of : (side : Side) (n : ℕ) (s u : List ℕ) → length u ≡ length s → ((q : ℕ) → n ≤ q → (blocks_from n ≤ q → Foreign side n q) → get_or u q 0 ≡ get_or s q 0) → Apart side n s u
apart_of side n s u e k = record {
  size = e;
  order = λ q h g. k q h (λ w. absurd (omega arith));
  foreign = λ q f. k q (far side q f) (λ w. f);
}
  where
    far : (side : Side) (q : ℕ) → Foreign side n q → n ≤ q
    far Upper q f = omega (arith, f.0)
    far Lower q f = omega (arith, f.0)

foreign-past : (side : Side) (n q : ℕ) → Foreign side n q → upper_cuts n ≤ q
foreign-past Upper n q f = omega (arith, f.0)
foreign-past Lower n q f = omega (arith, f.0)

pub apart-unmarked : (side : Side) (n : ℕ) (s u : List ℕ) → Unmarked n s u → Apart side n s u
apart-unmarked side n s u k = apart_of side n s u k.size (λ q h f. k.slots q (λ w. h) (λ w. foreign-past side n q (f w)))

foreign-list : (side : Side) (n q : ℕ) → (blocks_from n ≤ q → Foreign side n q) → list_from n ≤ q → nodes_from n ≤ q
foreign-list Upper n q f w = let g = f (omega arith) in g.1 w
foreign-list Lower n q f w = let g = f (omega arith) in absurd (omega (arith, g.1))

pub apart-list : (side : Side) (n hi : ℕ) (s u : List ℕ) → length u ≡ length s → hi ≤ nodes_from n → But (list_from n) hi s u → Apart side n s u
apart-list side n hi s u e l k = apart_of side n s u e (λ q h f. k q (λ w. let g = foreign-list side n q f w in omega arith))

foreign-cuts : (side : Side) (n k q : ℕ) → k < n → n ≤ q → (blocks_from n ≤ q → Foreign side n q) → cuts_of side n ≤ q → cuts_of side n + k + 1 ≤ q
foreign-cuts Upper n k q l h f w = let g = f (omega arith) in omega (arith, g.0)
foreign-cuts Lower n k q l h f w = let g = f (omega arith) in absurd (omega (arith, g.1))

-- renewed cuts
pub apart-cuts : (side : Side) (n k : ℕ) (s u : List ℕ) → length u ≡ length s → k < n → But (cuts_of side n) (cuts_of side n + k + 1) s u → Apart side n s u
apart-cuts side n k s u e l b = apart_of side n s u e (λ q h f. b q (foreign-cuts side n k q l h f))

pub begun-apart : {side : Side} {i : Input} {s u : List ℕ} → Apart side i.n s u → Begun i s → Begun i u
begun-apart a b = record {
  few = b.few;
  sound = b.sound;
  inverse = inverse-same (λ j h. a.order _ (omega arith) (omega arith)) b.inverse;
  space = record { small = b.space.small; long = omega (arith, b.space.long, a.size) };
}

-- a part of scratch whose slots are as they were
pub part-kept : (a b : ℕ) (s u : List ℕ) → length u ≡ length s → ((q : ℕ) → a ≤ q → q < a + b → get_or u q 0 ≡ get_or s q 0) → take b (drop a u) ≡ take b (drop a s)
part-kept a b s u z k =
    ext_get_or 0 (take b (drop a u)) (take b (drop a s)) (simp (length-take, length-drop, z))
    (λ j h.
    let c : j < b = omega (arith, simp length-take at h) in
    rw (get_or-take b (drop a u) j 0 c, get_or-take b (drop a s) j 0 c, get_or-drop a u j 0, get_or-drop a s j 0) (k (a + j) (omega arith) (omega arith)))

pub order_same : {side : Side} {n : ℕ} {s u : List ℕ} → Apart side n s u → order_of n u ≡ order_of n s
unfolding order_of
order_same {side} {n} {s} {u} a = part-kept n n s u a.size (λ q h g. a.order q h (omega arith))

pub rows_apart : (side : Side) (i : Input) (s u : List ℕ) → Apart side i.n s u → rows_in i u ≡ rows_in i s
rows_apart side i s u a = rows_same i.n i.starts i.columns i.r s u (order_same a)

-- columns can be handed out as before
pub ready-kept : {n k hi : ℕ} {R : ℕ → List ℕ} {s u : List ℕ} → ((q : ℕ) → lower_cuts n + k ≤ q → q < regions_end n → (list_from n ≤ q → nodes_from n ≤ q) → get_or u q 0 ≡ get_or s q 0) → Ready n k hi R s → Ready n k hi R u
ready-kept {n} {k} e r = ready-steady (record {
  heads = λ j a b. e (lower_cuts n + j) (omega arith) (omega arith) (λ w. omega arith);
  nodes = λ x a b. e x (omega arith) b (λ w. a);
}) r

-- ---- the load

module _ (side : Side) (i : Input) (k t window : ℕ) (lists runs index s₀ : List ℕ) (o : Open side i k t window lists runs index s₀) where
  abbrev n : ℕ
  n = i.n

  abbrev P : Pattern
  P = pattern_of side i

  abbrev cuts : ℕ
  cuts = cuts_of side i.n

  pub open-given : Given i.n i.starts i.columns i.r s₀
  open-given = given-sound i s₀ o.begun.sound o.begun.inverse o.begun.space

  module _ (hi : ℕ) (s₁ : List ℕ) (loaded : SideLoaded side n t k window hi (rows_in i s₀) s₀ s₁) where
    kept : Untouched n k s₀ s₁
    kept = side-untouched side n t k window hi i.starts i.columns i.r s₀ s₁ open-given o.below loaded

    pub loaded-room : Room n s₁
    loaded-room = record { small = o.begun.space.small; long = omega (arith, o.begun.space.long, kept.size) }

    -- the marks are row k of the side's pattern
    pub loaded-marks : Holds n t s₁ (P k)
    loaded-marks = side-holds i side t k window hi s₀ s₁ o.begun.sound o.begun.inverse o.begun.space o.below o.held.fresh loaded

    cut-slot : (side : Side) (j : ℕ) → j < k → (upper_cuts n ≤ cuts_of side n + j) × (cuts_of side n + j < lower_cuts n + k)
    cut-slot Upper j l = let b = o.below in (omega arith, omega arith)
    cut-slot Lower j l = (omega arith, omega arith)

    pub loaded-cuts : Cuts P n k cuts s₁
    loaded-cuts = cuts-kept P n k cuts s₀ s₁ (λ j l. let w = cut-slot side j l in kept.cuts (cuts + j) w.0 w.1) o.held.cut

    pub loaded-parts : Parts n k s₁ cuts runs index
    loaded-parts = held-parts P n k lists runs index o.held.store cuts s₁ loaded-cuts (omega (arith, o.below))

    -- the slots of the order and of the other side
    load-foreign : (side : Side) → SideLoaded side n t k window hi (rows_in i s₀) s₀ s₁ → Untouched n k s₀ s₁ → (q : ℕ) → Foreign side n q → get_or s₁ q 0 ≡ get_or s₀ q 0
    load-foreign Upper l u q f =
        let w = unmarked-stamped n t s₀ (rows_in i s₀ k) (side-below Upper n k i.starts i.columns i.r s₀ open-given o.below) in
        rw l.0 (w.slots q (λ a. omega (arith, f.0)) (λ a. omega (arith, f.0)))
    load-foreign Lower l u q f = u.cuts q f.0 (omega (arith, f.1))

    loaded-apart : Apart side n s₀ s₁
    loaded-apart = record {
      size = kept.size;
      order = λ q h g.
          let e : n + (q - n) ≡ q = omega arith in
          rw (← e) (order-read n s₁ (q - n) (omega arith) ∙ ap (λ l. get_or l (q - n) 0) kept.order ∙ sym (order-read n s₀ (q - n) (omega arith)));
      foreign = load-foreign side loaded kept;
    }

    module _ (u₂ : List ℕ) (below : ℕ) (closing : Closing n t k cuts runs index s₁ u₂ below) where
      abbrev s₂ : List ℕ
      s₂ = closing.mid

      abbrev closed : Closed n t k cuts runs index s₁ s₂
      closed = closing.closed

      mid-marks : Holds n t s₂ (filled P k)
      mid-marks = closed.fill P lists o.held.store loaded-cuts loaded-marks

      lowered : LowerListed P n k s₂ u₂ below
      lowered = closing.lower P mid-marks

      -- the marks are row k of the fill
      pub closed-marks : Holds n t u₂ (filled P k)
      closed-marks = lower-marks P n t k s₂ u₂ below lowered mid-marks

      pub closed-short : below ≤ k
      closed-short = omega (arith, lowered.lower, lower-le P k)

      module _ (s₃ : List ℕ) (size₃ : length s₃ ≡ length s₁) (above : ℕ) (upper : UpperListed P n k below u₂ s₃ above) where
        listed : Listed P n k (list_from n) s₂ s₃ below above
        listed = listed-both P n t k s₂ u₂ below lowered s₃ above upper

        fits : list_from n + n ≤ length s₂
        fits = omega (arith, loaded-room.long, closing.size)

        short : below + above < n
        short = omega (arith, listed.lower, listed.upper, lower-le P k, upper-le P n k o.below)

        others : But (list_from n) (list_from n + below + above) s₂ s₃
        others = listed-but P n k (list_from n) s₂ s₃ below above listed fits o.below

        apart : Apart side n s₀ s₃
        apart = apart-then loaded-apart (apart-then (apart-unmarked side n s₁ s₂ closed.same) (apart-list side n (list_from n + below + above) s₂ s₃ (size₃ ∙ sym closing.size) (omega (arith, short)) others))

        next-ready : (side : Side) → SideLoaded side n t k window hi (rows_in i s₀) s₀ s₁ → rows_in i s₃ ≡ rows_in i s₀ → SideReady side n (k + 1) hi (rows_in i s₃) s₃
        next-ready Upper l e = tt
        next-ready Lower l e =
            rw e (ready-kept (λ q a b c.
            others q (λ w. omega (arith, short, c w)) ∙ closed.same.slots q (λ w. omega arith) (λ w. omega arith))
            l.ready)

        pub row-found : filled P k k ≡ true → RowFound side i k t s₀ s₃ (record { below = below; above = above; window = hi })
        row-found d = record {
          diagonal = d;
          lists = record {
            marks = holds_kept n t s₂ s₃ (filled P k) (λ q l. others q (λ w. absurd (omega arith))) mid-marks;
            below-is = listed.lower;
            above-is = listed.upper;
            lower = listed-lower P n k (list_from n) s₂ s₃ below above listed fits o.below;
            upper = listed-upper P n k (list_from n) s₂ s₃ below above listed fits o.below;
          };
          cut = cuts-kept P n k cuts s₀ s₃ (λ j l. keep-cut j l) o.held.cut;
          ready = next-ready side loaded (rows_apart side i s₀ s₃ apart);
          apart = apart;
        }
          where
            keep-cut : (j : ℕ) → j < k → get_or s₃ (cuts + j) 0 ≡ get_or s₀ (cuts + j) 0
            keep-cut j l =
                let w = cut-slot side j l in
                let b = o.below in
                others (cuts + j) (λ v. absurd (omega (arith, w.1))) ∙ closed.same.slots (cuts + j) (λ v. omega (arith, w.0)) (λ v. omega (arith, w.0)) ∙ kept.cuts (cuts + j) w.0 w.1

-- ---- by what the code reads

pub cuts-upper : (side : Side) (n : ℕ) → side ≡ Upper → upper_cuts n ≡ cuts_of side n
cuts-upper side n e = rw e

pub cuts-lower : (side : Side) (n : ℕ) → side ≡ Lower → lower_cuts n ≡ cuts_of side n
cuts-lower side n e = rw e

pub parts_at : (n k : ℕ) (s : List ℕ) (a b : ℕ) (runs index : List ℕ) → a ≡ b → Parts n k s b runs index → Parts n k s a runs index
parts_at n k s a b runs index e p = rw e p

pub base-at : (n a b : ℕ) → a ≡ b → Base n b → Base n a
base-at n a b e p = rw e p

pub closing_at : (n t k a b : ℕ) (runs index s u : List ℕ) (below : ℕ) → a ≡ b → Closing n t k a runs index s u below → Closing n t k b runs index s u below
closing_at n t k a b runs index s u below e p = rw e at p
