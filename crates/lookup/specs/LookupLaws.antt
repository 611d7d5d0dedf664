-- Laws of the lookup: its spans stand within their stores, and a well shaped list is found as it is stored.
use Rattle.std.specs.Prelude.{◌≡◌, refl, Bool, true, false, cond, ◌&&◌, List, ℕ, ◌+◌, ◌-◌, ◌≤◌, ◌<◌, length, get_or, leb, ltb, eqb}
use Rattle.std.proofs.Common.{sym, ◌∙◌, arith}
use Rattle.std.proofs.Math.Nat.{add-sub_cancel_left}
use Rattle.std.specs.Borrow.{Bor}
use borrow.Author.Tests.{le-leb, lt-leb, lt-ltb, le-ltb, leb-true, eqb-true}
use Rattle.base.specs.Tests.{and_cases, and_right}
use Rattle.base.specs.Lists.{list_at}
use Rattle.base.specs.declared.Form.{Form}
use Rattle.base.specs.declared.Form.TheVariants.{Plain, Shared, ByRow}
use Rattle.base.specs.declared.Place.{Place}
use Rattle.base.specs.declared.Side.{Side}
use Rattle.base.specs.declared.Side.TheVariants.{Lower, Upper}
use Rattle.base.specs.Limits.{rows_within, max_rows, max_slots}
use Rattle.lookup.specs.declared.Span.{Span}
use Rattle.lookup.specs.Lookup.{SideLent, SideLists, side_lists, of_side, run_starts, sized, both_fit, span_from, run_span, span_of, span_in, Inside, PartOf, within, lookup}

-- ---- a span is within its store

choose : (b : Bool) (s t : Span) (slots : ℕ) → (b ≡ true → Inside s slots) → Inside t slots → Inside (cond b s t) slots
choose true s t slots f g = f refl
choose false s t slots f g = g

none : (slots : ℕ) → Inside (span_from 0 0) slots
none slots = record { up = omega arith; end = omega arith }

run_inside : (a b run slots : ℕ) → Inside (run_span a b run slots) slots
unfolding run_span
run_inside a b run slots =
    choose (leb a b && leb (run + (b - a)) slots) _ _ slots
    (λ e. record { up = omega arith; end = leb-true (run + (b - a)) slots (and_cases (leb a b) (leb (run + (b - a)) slots) e).1 })
    (none slots)

span-inside : (fit : Bool) (k : Place) (n : ℕ) (l : SideLists) → Inside (span_of fit k n l) (length l.index)
unfolding span_of
span-inside fit k n l =
    choose (fit && ltb k.0 n) _ _ _ (λ q. run_inside (get_or l.starts k.0 0) (get_or l.starts (k.0 + 1) 0) (get_or l.runs k.0 0) (length l.index)) (none _)

-- ---- the turns of the code

module _ (a b run slots : ℕ) where
  pub run-taken : a ≤ b → run + (b - a) ≤ slots → span_from run (run + (b - a)) ≡ run_span a b run slots
  unfolding run_span
  run-taken h l = rw (le-leb a b h, le-leb (run + (b - a)) slots l)

  pub run-over : slots < run + (b - a) → span_from 0 0 ≡ run_span a b run slots
  unfolding run_span
  run-over h = rw (and_right (leb a b) (leb (run + (b - a)) slots) (lt-leb (run + (b - a)) slots h))

  pub run-falls : b < a → span_from 0 0 ≡ run_span a b run slots
  unfolding run_span
  run-falls h = rw (lt-leb a b h)

module _ (fit : Bool) (k : Place) (n : ℕ) (s runs index : List ℕ) where
  pub span-taken : (at a b run : ℕ) (o : Span) → at ≡ k.0 → fit ≡ true → at < n → a ≡ get_or s at 0 → b ≡ get_or s (at + 1) 0 → run ≡ get_or runs at 0
      → o ≡ run_span a b run (length index) → o ≡ span_of fit k n (side_lists s runs index)
  unfolding span_of
  span-taken at a b run o q f l ea eb er e = rw (← q, f, lt-ltb at n l, ← ea, ← eb, ← er) e

  pub span-high : (at : ℕ) → at ≡ k.0 → n ≤ at → span_from 0 0 ≡ span_of fit k n (side_lists s runs index)
  unfolding span_of
  span-high at q l = rw (← q, and_right fit (ltb at n) (le-ltb at n l))

  pub span-unfit : fit ≡ false → span_from 0 0 ≡ span_of fit k n (side_lists s runs index)
  unfolding span_of
  span-unfit f = rw f

-- the side that is named
module _ (f : Form) (side : Side) (k : Place) (n : ℕ) (l u : SideLists) where
  pub span-named : (named : Side) (a b : Bool) (o : Span) → side ≡ named → a ≡ sized f n l → b ≡ sized f n u → o ≡ span_of (a && b) k n (of_side named l u) → o ≡ span_in f side k n l u
  unfolding span_in both_fit
  span-named named a b o e ea eb h = rw (e, ← ea, ← eb) h

  pub span-in : (o : Span) → o ≡ span_in f side k n l u → Inside o (length (of_side side l u).index)
  unfolding span_in
  span-in o g = rw g (span-inside _ k n (of_side side l u))

-- the part that is handed back: where its span lies, and what it holds
module _ (f : Form) (k : Place) (n : ℕ) (ls lr us ur : List ℕ) (lower upper : Bor (List ℕ)) (o : Span) where
  pub part-fits : (side : Side) → o ≡ span_in f side k n (side_lists ls lr lower.now) (side_lists us ur upper.now) → Inside o (length (of_side side lower upper).now)
  part-fits Lower g = span-in f Lower k n _ _ o g
  part-fits Upper g = span-in f Upper k n _ _ o g

  pub part-handed : (side : Side) (part : Bor (List ℕ)) → o ≡ span_in f side k n (side_lists ls lr lower.now) (side_lists us ur upper.now) → PartOf (of_side side lower upper) o part
      → (part.now ≡ lookup f side k n (side_lists ls lr lower.now) (side_lists us ur upper.now))
      × PartOf (of_side side lower upper) (span_in f side k n (side_lists ls lr lower.now) (side_lists us ur upper.now)) part
  unfolding lookup
  part-handed Lower part g h = rw (← g) (h.holds, h)
  part-handed Upper part g h = rw (← g) (h.holds, h)

pub inside-named : (side named : Side) (lower upper : Bor (List ℕ)) (s : Span) → side ≡ named → Inside s (length (of_side side lower upper).now) → Inside s (length (of_side named lower upper).now)
inside-named side named lower upper s e h = rw e at h

pub part-named : (side named : Side) (lower upper part : Bor (List ℕ)) (s : Span) → side ≡ named → PartOf (of_side named lower upper) s part → PartOf (of_side side lower upper) s part
part-named side named lower upper part s e h = rw e h

-- ---- fitting lengths

pub rows_few : (n : ℕ) → rows_within n ≡ true → n ≤ max_rows
rows_few n h = leb-true n max_rows (and_cases (leb 1 n) (leb n max_rows) h).1

pub sized-yes : (f : Form) (n : ℕ) (s r i : List ℕ) (runs : ℕ) → rows_within n ≡ true → runs ≡ run_starts f n
    → (eqb (length s) (n + 1) && eqb (length r) runs && leb (length i) max_slots) ≡ sized f n (side_lists s r i)
unfolding sized
sized-yes f n s r i runs h e = rw (h, e)

pub sized-no : (f : Form) (n : ℕ) (l : SideLists) → rows_within n ≡ false → false ≡ sized f n l
unfolding sized
sized-no f n l h = rw h

runs-reach : (f : Form) (n : ℕ) → n ≤ run_starts f n
runs-reach Plain n = omega arith
runs-reach Shared n = omega arith
runs-reach ByRow n = omega arith

sized-all : (f : Form) (n : ℕ) (l : SideLists) → sized f n l ≡ true → (length l.starts ≡ n + 1) × (n ≤ length l.runs)
unfolding sized
sized-all f n l e =
    let a = and_cases (eqb (length l.starts) (n + 1) && eqb (length l.runs) (run_starts f n)) (leb (length l.index) max_slots) (and_cases (rows_within n) _ e).1 in
    let b = and_cases (eqb (length l.starts) (n + 1)) (eqb (length l.runs) (run_starts f n)) a.0 in
    (eqb-true _ _ b.0, omega (arith, runs-reach f n, eqb-true (length l.runs) (run_starts f n) b.1))

side-lent : (f : Form) (n : ℕ) (fit : Bool) (l : SideLists) → (fit ≡ true → sized f n l ≡ true) → SideLent fit n l.starts l.runs
side-lent f n fit l g = record { lists = λ h. (sized-all f n l (g h)).0; places = λ h. (sized-all f n l (g h)).1 }

module _ (f : Form) (n : ℕ) (l u : SideLists) (a b : Bool) (ea : a ≡ sized f n l) (eb : b ≡ sized f n u) where
  pub lower-lent : SideLent (a && b) n l.starts l.runs
  lower-lent = side-lent f n (a && b) l (λ h. sym ea ∙ (and_cases a b h).0)

  pub upper-lent : SideLent (a && b) n u.starts u.runs
  upper-lent = side-lent f n (a && b) u (λ h. sym eb ∙ (and_cases a b h).1)

-- ---- a list that stands within its store is found as it is stored

pub part-is : (k : Place) (n : ℕ) (s runs index : List ℕ) → k.0 < n → get_or s k.0 0 ≤ get_or s (k.0 + 1) 0
    → get_or runs k.0 0 + (get_or s (k.0 + 1) 0 - get_or s k.0 0) ≤ length index → within index (span_of true k n (side_lists s runs index)) ≡ list_at s runs index k.0
unfolding span_of within list_at
part-is k n s runs index l h b =
    let e = run-taken (get_or s k.0 0) (get_or s (k.0 + 1) 0) (get_or runs k.0 0) (length index) h b in
    rw (lt-ltb k.0 n l, ← e, add-sub_cancel_left)
