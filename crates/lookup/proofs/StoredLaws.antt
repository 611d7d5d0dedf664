-- The lookup over both sides as the code holds them.
use Rattle.std.specs.Prelude.{◌≡◌, refl, Bool, true, false, ◌&&◌, List, ℕ, ◌+◌, length, leb, eqb}
use Rattle.std.proofs.Common.{ap, ◌∙◌}
use Rattle.std.proofs.Math.Bool.{and_assoc}
use Rattle.base.specs.declared.Form.{Form}
use Rattle.base.specs.declared.Place.{Place}
use Rattle.base.specs.declared.Side.{Side}
use Rattle.base.specs.declared.Side.TheVariants.{Lower, Upper}
use Rattle.base.specs.Limits.{rows_within, max_slots}
use Rattle.lookup.specs.declared.Span.{Span}
use Rattle.lookup.specs.declared.StoredLists.{StoredLists}
use Rattle.lookup.specs.Lookup.{SideLent, SideLists, lists_of, of_side, run_starts, sized, both_fit, span_of, span_in, Inside, within, lookup}
use Rattle.lookup.specs.LookupLaws.{span-in, lower-lent, upper-lent}

-- ---- a side's lengths

-- a test that is asked only where the one before it holds
pub and-asked : {a v x : Bool} → a ≡ true → v ≡ x → v ≡ (a && x)
and-asked h e = rw (h, e)

pub and-passed : {a v : Bool} (x : Bool) → a ≡ false → v ≡ a → v ≡ (a && x)
and-passed x h e = rw (e, h)

pub sized-by : (f : Form) (n : ℕ) (l : SideLists) (t u v : Bool) → t ≡ rows_within n → u ≡ (t && eqb (length l.starts) (n + 1)) → v ≡ (u && eqb (length l.runs) (run_starts f n))
    → (v && leb (length l.index) max_slots) ≡ sized f n l
unfolding sized
sized-by f n l t u v et eu ev =
    let a = eqb (length l.starts) (n + 1) in
    let b = eqb (length l.runs) (run_starts f n) in
    let c = leb (length l.index) max_slots in
    rw (ev, eu, et) (ap (λ z. z && c) (and_assoc (rows_within n) a b) ∙ and_assoc (rows_within n) (a && b) c)

-- ---- the side that is named

sides-named : (side : Side) (lower upper : StoredLists) → lists_of (of_side side lower upper) ≡ of_side side (lists_of lower) (lists_of upper)
sides-named Lower lower upper = refl
sides-named Upper lower upper = refl

module _ (f : Form) (side : Side) (k : Place) (n : ℕ) (lower upper named : StoredLists) (e : named ≡ of_side side lower upper) where
  pub named-lent : {a b : Bool} → a ≡ sized f n (lists_of lower) → b ≡ sized f n (lists_of upper) → SideLent (a && b) n named.starts.now named.runs.now
  named-lent {a} {b} ea eb = rw e (go side)
    where
      go : (s : Side) → SideLent (a && b) n (of_side s lower upper).starts.now (of_side s lower upper).runs.now
      go Lower = lower-lent f n (lists_of lower) (lists_of upper) a b ea eb
      go Upper = upper-lent f n (lists_of lower) (lists_of upper) a b ea eb

  pub named-span : {a b : Bool} (o : Span) → a ≡ sized f n (lists_of lower) → b ≡ sized f n (lists_of upper) → o ≡ span_of (a && b) k n (lists_of named) → o ≡ span_in f side k n (lists_of lower) (lists_of upper)
  unfolding span_in both_fit
  named-span o ea eb h = rw (ea, eb, e, sides-named side lower upper) at h

  -- its part: where its span lies, and what it holds
  pub named-fits : (o : Span) → o ≡ span_in f side k n (lists_of lower) (lists_of upper) → Inside o (length named.index.now)
  named-fits o g = rw e (go side g)
    where
      go : (s : Side) → o ≡ span_in f s k n (lists_of lower) (lists_of upper) → Inside o (length (of_side s lower upper).index.now)
      go Lower h = span-in f Lower k n (lists_of lower) (lists_of upper) o h
      go Upper h = span-in f Upper k n (lists_of lower) (lists_of upper) o h

  pub named-holds : (o : Span) (part : List ℕ) → o ≡ span_in f side k n (lists_of lower) (lists_of upper) → part ≡ within named.index.now o → part ≡ lookup f side k n (lists_of lower) (lists_of upper)
  unfolding lookup
  named-holds o part g h = rw (g, e) at h ∙ ap (λ (l : SideLists). within l.index (span_in f side k n (lists_of lower) (lists_of upper))) (sides-named side lower upper)
