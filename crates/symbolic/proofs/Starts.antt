-- Before place 0: the stores are cleared, and scratch holds the inverse column order.
use mathlib.Core.Path.{◌≡◌, refl, sym, ap, ◌∙◌}
use mathlib.Core.List.{List, []}
use Prim.Native.Nat.{ℕ, ◌+◌, ◌-◌, ◌≤◌}
use native.Mathlib.Omega.{arith}
use lib.ListN.{length, get_or, take, length-append, length-take, length-drop}
use lib.Seq.{get_or-take}
use Rattle.base.specs.Lists.{blank, sum}
use Rattle.base.specs.TableLaws.{get_or-table, length-table}
use Rattle.base.specs.ZerosLaws.{blank-length, blank-at}
use Rattle.base.specs.declared.Form.{Form}
use Rattle.base.specs.declared.Form.TheVariants.{Plain, Shared, ByRow}
use Rattle.base.specs.declared.Side.TheVariants.{Lower}
use Rattle.fill.specs.Fill.{Pattern, upper_row, lower_row, flip}
use Rattle.matrix.specs.Input.{Input, ic, stored}
use Rattle.marks.specs.Marks.{Fresh}
use Rattle.lent.specs.Reading.{order_of}
use Rattle.columns.specs.Columns.{Started}
use Rattle.columns.specs.Sides.{Sound, rows_in}
use Rattle.questions.specs.Lent.{inverted, inverted_at, InverseLent}
use Rattle.questions.specs.ScatterLaws.{placed-front, placed-inverse}
use Rattle.outcome.proofs.Places.{places-none}
use Rattle.storing.specs.Held.{Holding}
use Rattle.storing.specs.HeldLaws.{holding-none}
use Rattle.storing.specs.declared.Way.{Way}
use Rattle.storing.specs.declared.Way.TheVariants.{OneAfterAnother, Sharing}
use Rattle.symbolic.specs.Places.{Apart, Begun, Stores, ListsAt}
use Rattle.symbolic.specs.declared.Progress.{Progress}
use Rattle.symbolic.specs.Pass.{nothing, no_progress, slots_of, LowerAt, At, placing_of, stamp_at, MatrixLent, PlainLent, RowLent, SharedLent, ColumnsBegun}
use Rattle.symbolic.proofs.Opening.{begun-apart, rows_apart}
use Rattle.base.specs.Scratch.{blocks_from, upper_cuts, lower_cuts, regions_end}

-- what the questions settle, as the columns ask for it
sound-of : (i : Input) (m : ℕ) → MatrixLent i m → Sound i
sound-of i m l = record { starts-long = l.starts-size; order-long = l.rows-size; structured = l.structured }

pub inverse-lent : (i : Input) (m : ℕ) → MatrixLent i m → InverseLent i.n i.c (m - i.n)
inverse-lent i m l = record { few = l.few; size = l.columns-size; slots = omega (arith, l.scratch); order = l.structured.readable.column-order }

inverted-length : (o : List ℕ) (n : ℕ) (s : List ℕ) → blocks_from n ≤ length s → length (inverted_at o n s) ≡ length s
unfolding inverted_at inverted
inverted-length o n s h = simp (length-append, length-take, length-drop, length-table) (omega arith)

pub inverted-after : (o : List ℕ) (n : ℕ) (s u v : List ℕ) → u ≡ blank 0 s → v ≡ inverted_at o n u → v ≡ inverted_at o n (blank 0 s)
inverted-after o n s u v a b = rw (b, a)

module _ (i : Input) (s₀ s : List ℕ) (l : MatrixLent i (length s₀)) (e : s ≡ inverted_at i.c i.n (blank 0 s₀)) where
  long : regions_end i.n ≤ length s₀
  long = omega (arith, l.scratch)

  zeros : blocks_from i.n ≤ length (blank 0 s₀)
  zeros = omega (arith, blank-length 0 s₀, long)

  pub begun-of : Begun i s
  unfolding order_of
  begun-of = record {
    few = l.few;
    sound = sound-of i (length s₀) l;
    inverse = record {
      place = λ j h.
          rw (e, placed-inverse i.c i.n (blank 0 s₀) (omega (arith, zeros))) (get_or-table (ic i.c i.n) i.n 0 j h);
    };
    space = record { small = omega (arith, l.few); long = rw e (omega (arith, inverted-length i.c i.n (blank 0 s₀) zeros, blank-length 0 s₀, long)) };
  }

  pub fresh-of : Fresh i.n 1 s
  fresh-of j h =
      let a : get_or s j 0 ≡ get_or (blank 0 s₀) j 0
      = sym (get_or-take i.n s j 0 h) ∙ ap (λ x. get_or x j 0) (ap (take i.n) e ∙ placed-front i.c i.n (blank 0 s₀) (omega (arith, zeros))) ∙ get_or-take i.n (blank 0 s₀) j 0 h in
      omega (arith, a, blank-at 0 s₀ j 0 (omega (arith, long)))

-- counting the entries of the columns writes heads and nodes only
started-apart : (n : ℕ) (R : ℕ → List ℕ) (s u : List ℕ) → Started n R s u → Apart Lower n s u
started-apart n R s u h = record {
  size = h.kept.size;
  order = λ q a b. h.kept.slots q (λ w. omega arith) (λ w. omega arith);
  foreign = λ q f. h.kept.slots q (λ w. omega (arith, f.1)) (λ w. omega (arith, f.1));
}

pub columns-begun : (i : Input) (s₀ s u : List ℕ) → MatrixLent i (length s₀) → s ≡ inverted_at i.c i.n (blank 0 s₀) → Started i.n (rows_in i s) s u → ColumnsBegun i u
columns-begun i s₀ s u l e h =
    let a = started-apart i.n (rows_in i s) s u h in
    record {
      begun = begun-apart a (begun-of i s₀ s l e);
      fresh = λ j b. rw (h.kept.slots j (λ w. omega arith) (λ w. omega arith)) (fresh-of i s₀ s l e j b);
      ready = rw (rows_apart Lower i s u a) h.ready;
    }

-- ---- stores

cleared-held : (way : Way) (T R : ℕ → List ℕ) (n values : ℕ) (starts starts' runs index : List ℕ) → length starts ≡ n + 1
    → starts' ≡ blank 0 starts → Holding way T R values 0 index starts' runs index nothing
cleared-held way T R n values starts starts' runs index l b =
    holding-none way T R values starts' runs index (rw (b, blank-length) (omega arith)) (ap (λ x. get_or x 0 0) b ∙ blank-at 0 starts 0 0 (omega arith))

pub cleared-stores : (way : Way) (n values : ℕ) (starts starts' runs runs' index index' : List ℕ) → Stores way n index values starts runs → length starts' ≡ length starts → length runs' ≡ length runs
    → length index' ≡ length index → Stores way n index' values starts' runs'
cleared-stores way n values starts starts' runs runs' index index' z a b c =
    record { starts-size = a ∙ z.starts-size; runs-size = b ∙ z.runs-size; slots-fit = omega (arith, z.slots-fit); values-fit = z.values-fit }

blank-long : (l l' : List ℕ) → l' ≡ blank 0 l → length l' ≡ length l
blank-long l l' e = ap length e ∙ blank-length 0 l

cleared-lists : (way : Way) (P : Pattern) (n cuts values : ℕ) (starts starts' runs runs' index index' s : List ℕ) → Stores way n index values starts runs
    → starts' ≡ blank 0 starts → length runs' ≡ length runs → index' ≡ blank 0 index → ListsAt way P n 0 cuts index' values starts' runs' index' s nothing
cleared-lists way P n cuts values starts starts' runs runs' index index' s z a b c = record {
  held = cleared-held way (upper_row P n) (lower_row P) n values starts starts' runs' index' z.starts-size a;
  cut = λ j l. absurd (omega arith);
  stores = cleared-stores way n values starts starts' runs runs' index index' z (blank-long starts starts' a) b (blank-long index index' c);
}

-- ---- the forms

-- the first stamp of every form is 1
fresh-first : (f : Form) (n : ℕ) (s : List ℕ) → Fresh n 1 s → Fresh n (stamp_at f 0) s
fresh-first Plain n s h = h
fresh-first Shared n s h = h
fresh-first ByRow n s h = h

form-start : (f : Form) (i : Input) (low : List ℕ) (lv uv : ℕ) (ls lr li us us' ur ui ui' s : List ℕ) → Begun i s → Fresh i.n 1 s → Stores (placing_of f) i.n ui uv us ur
    → (ur' : List ℕ) → us' ≡ blank 0 us → length ur' ≡ length ur → ui' ≡ blank 0 ui → LowerAt f i low lv 0 ls lr li s nothing 0
    → (g : Progress) → g ≡ no_progress → At f i low lv ui' uv 0 ls lr li us' ur' ui' s g
unfolding sum
form-start f i low lv uv ls lr li us us' ur ui ui' s begun fresh upper ur' a b c lower g q = rw q (record {
  passed = sym (places-none f (stored i) i.n (slots_of (length low) lv (length ui') uv));
  most = omega arith;
  begun = begun;
  fresh = fresh-first f i.n s fresh;
  lower = lower;
  upper = cleared-lists (placing_of f) (stored i) i.n (upper_cuts i.n) uv us us' ur ur' ui ui' s upper a b c;
  products-are = refl;
})

pub plain-start : (i : Input) (ls ls' li li' : List ℕ) (lv : ℕ) (us us' ui ui' : List ℕ) (uv : ℕ) (s₀ s : List ℕ) → PlainLent i ls li lv us ui uv (length s₀)
    → ls' ≡ blank 0 ls → li' ≡ blank 0 li → us' ≡ blank 0 us → ui' ≡ blank 0 ui → s ≡ inverted_at i.c i.n (blank 0 s₀)
    → (g : Progress) → g ≡ no_progress → At Plain i li' lv ui' uv 0 ls' ls' li' us' us' ui' s g
plain-start i ls ls' li li' lv us us' ui ui' uv s₀ s l a b c d e =
    form-start Plain i li' lv uv ls' ls' li' us us' us ui ui' s (begun-of i s₀ s l.matrix e) (fresh-of i s₀ s l.matrix e) l.upper us' c (blank-long us us' c) d (
      cleared-held OneAfterAnother (lower_row (stored i)) (lower_row (flip (stored i))) i.n lv ls ls' ls' li' l.lower.starts-size a,
      cleared-stores OneAfterAnother i.n lv ls ls' ls ls' li li' l.lower (blank-long ls ls' a) (blank-long ls ls' a) (blank-long li li' b),
    )

pub row-start : (i : Input) (us us' ur ui ui' : List ℕ) (uv : ℕ) (s₀ s : List ℕ) → RowLent i us ur ui uv (length s₀) → us' ≡ blank 0 us → ui' ≡ blank 0 ui
    → s ≡ inverted_at i.c i.n (blank 0 s₀) → (g : Progress) → g ≡ no_progress → At ByRow i [] 0 ui' uv 0 [] [] [] us' ur ui' s g
unfolding sum
row-start i us us' ur ui ui' uv s₀ s l a b e =
    form-start ByRow i [] 0 uv [] [] [] us us' ur ui ui' s (begun-of i s₀ s l.matrix e) (fresh-of i s₀ s l.matrix e) l.upper ur a refl b refl

pub shared_start : (i : Input) (ls ls' lr li li' : List ℕ) (lv : ℕ) (us us' ur ui ui' : List ℕ) (uv : ℕ) (m : ℕ) (s : List ℕ) → SharedLent i ls lr li lv us ur ui uv m
    → ls' ≡ blank 0 ls → li' ≡ blank 0 li → us' ≡ blank 0 us → ui' ≡ blank 0 ui → ColumnsBegun i s → (g : Progress) → g ≡ no_progress → At Shared i li' lv ui' uv 0 ls' lr li' us' ur ui' s g
shared_start i ls ls' lr li li' lv us us' ur ui ui' uv m s l a b c d e =
    form-start Shared i li' lv uv ls' lr li' us us' ur ui ui' s e.begun e.fresh l.upper ur c refl d
    (cleared-lists Sharing (flip (stored i)) i.n (lower_cuts i.n) lv ls ls' lr lr li li' s l.lower a refl b, e.ready)

-- the default of each part is 0
all-zero : (a b c d e f p w : ℕ) → ((a ≡ 0) × ((b ≡ 0) × (c ≡ 0))) × (((d ≡ 0) × ((e ≡ 0) × (f ≡ 0))) × ((p ≡ 0) × (w ≡ 0)))
    → ◌≡◌ {A = Progress} (record { lower = record { used = a; last = b; entries = c }; upper = record { used = d; last = e; entries = f }; products = p; window = w }) no_progress
all-zero a b c d e f p w h = rw (h.0.0, h.0.1.0, h.0.1.1, h.1.0.0, h.1.0.1.0, h.1.0.1.1, h.1.1.0, h.1.1.1)

pub default-is : (g : Progress) → ((g.lower.used ≡ 0) × ((g.lower.last ≡ 0) × (g.lower.entries ≡ 0))) × (((g.upper.used ≡ 0) × ((g.upper.last ≡ 0) × (g.upper.entries ≡ 0))) × ((g.products ≡ 0) × (g.window ≡ 0))) → g ≡ no_progress
default-is g h = all-zero g.lower.used g.lower.last g.lower.entries g.upper.used g.upper.last g.upper.entries g.products g.window h
