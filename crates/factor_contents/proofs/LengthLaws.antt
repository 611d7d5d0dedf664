-- What question 2 settles of the lengths of lent lists.
use mathlib.Core.Path.{◌≡◌}
use mathlib.Core.Bool.{true, ◌&&◌}
use Prim.Native.Nat.{ℕ, ◌+◌, ◌≤◌}
use native.Mathlib.Omega.{arith}
use borrow.Author.Tests.{eqb-true, leb-true}
use lib.Dec.{eqb, leb}
use lib.ListN.{length}
use lib.Seq.{length-take-le}
use Rattle.base.specs.Tests.{and_cases}
use Rattle.base.specs.Limits.{max_slots}
use Rattle.base.specs.declared.Counts.{Counts}
use Rattle.factor_contents.specs.FactorFile.{FactorLists, cut, side_fits, lengths_fit, lists_fit}
use Rattle.factor_contents.specs.Judging.{Enough, Whole, Lent}

pub record SideLong (n entries s i v : ℕ) : Type 0 where
  pub starts-long : s ≡ n + 1
  pub index-least : entries ≤ i
  pub index-most : i ≤ max_slots
  pub values-least : entries ≤ v
  pub values-most : v ≤ max_slots

side-long : (n entries s i v : ℕ) → side_fits n entries s i v ≡ true → SideLong n entries s i v
side-long n entries s i v t =
    let a₄ = and_cases (eqb s (n + 1) && leb entries i && leb i max_slots && leb entries v) (leb v max_slots) t in
    let a₃ = and_cases (eqb s (n + 1) && leb entries i && leb i max_slots) (leb entries v) a₄.0 in
    let a₂ = and_cases (eqb s (n + 1) && leb entries i) (leb i max_slots) a₃.0 in
    let a₁ = and_cases (eqb s (n + 1)) (leb entries i) a₂.0 in
    record {
      starts-long = eqb-true s (n + 1) a₁.0;
      index-least = leb-true entries i a₁.1;
      index-most = leb-true i max_slots a₂.1;
      values-least = leb-true entries v a₃.1;
      values-most = leb-true v max_slots a₄.1;
    }

pub record Long (n lower upper r c ls li lv us ui uv d : ℕ) : Type 0 where
  pub r-long : r ≡ n
  pub c-long : c ≡ n
  pub d-long : d ≡ n
  pub lower_long : SideLong n lower ls li lv
  pub upper_long : SideLong n upper us ui uv

pub long-lists : (n lower upper r c ls li lv us ui uv d : ℕ) → lengths_fit n lower upper r c ls li lv us ui uv d ≡ true → Long n lower upper r c ls li lv us ui uv d
long-lists n lower upper r c ls li lv us ui uv d t =
    let a₄ = and_cases (eqb r n && eqb c n && eqb d n && side_fits n lower ls li lv) (side_fits n upper us ui uv) t in
    let a₃ = and_cases (eqb r n && eqb c n && eqb d n) (side_fits n lower ls li lv) a₄.0 in
    let a₂ = and_cases (eqb r n && eqb c n) (eqb d n) a₃.0 in
    let a₁ = and_cases (eqb r n) (eqb c n) a₂.0 in
    record {
      r-long = eqb-true r n a₁.0;
      c-long = eqb-true c n a₁.1;
      d-long = eqb-true d n a₂.1;
      lower_long = side-long n lower ls li lv a₃.1;
      upper_long = side-long n upper us ui uv a₄.1;
    }

module _ {n lower upper r c ls li lv us ui uv d : ℕ} (l : Long n lower upper r c ls li lv us ui uv d) where
  pub few-entries : (lower ≤ max_slots) × (upper ≤ max_slots)
  few-entries = (omega (arith, l.lower_long.index-least, l.lower_long.index-most), omega (arith, l.upper_long.index-least, l.upper_long.index-most))

-- ---- of lists

module _ (n lower upper : ℕ) (l : FactorLists) where
  abbrev pub LongLists : Type 0
  LongLists =
      Long n lower upper (length l.r) (length l.c) (length l.lower-starts) (length l.lower-index) (length l.lower-values)
      (length l.upper-starts) (length l.upper-index) (length l.upper-values) (length l.d)

  pub lists-long : lists_fit n lower upper l ≡ true → LongLists
  lists-long t = long-lists n lower upper _ _ _ _ _ _ _ _ _ t

  pub long-lent : LongLists → Lent Enough n lower upper l
  long-lent g = record {
    r-size = g.r-long;
    c-size = g.c-long;
    d-size = g.d-long;
    lower-starts-size = g.lower_long.starts-long;
    lower-index-size = g.lower_long.index-least;
    lower-values-size = g.lower_long.values-least;
    upper-starts-size = g.upper_long.starts-long;
    upper-index-size = g.upper_long.index-least;
    upper-values-size = g.upper_long.values-least;
  }

-- without the unused slots
pub cut-lent : (n : ℕ) (k : Counts) (l : FactorLists) → Lent Enough n k.lower k.upper l → Lent Whole n k.lower k.upper (cut k l)
unfolding cut
cut-lent n k l g = record {
  r-size = g.r-size;
  c-size = g.c-size;
  d-size = g.d-size;
  lower-starts-size = g.lower-starts-size;
  lower-index-size = length-take-le k.lower l.lower-index g.lower-index-size;
  lower-values-size = length-take-le k.lower l.lower-values g.lower-values-size;
  upper-starts-size = g.upper-starts-size;
  upper-index-size = length-take-le k.upper l.upper-index g.upper-index-size;
  upper-values-size = length-take-le k.upper l.upper-values g.upper-values-size;
}
