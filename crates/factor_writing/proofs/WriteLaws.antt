-- The ways through the write: what is laid down one after another, its room, and the questions.
use Rattle.std.specs.Prelude.{Err}
use mathlib.Core.Path.{◌≡◌, refl, sym, ap, ◌∙◌}
use mathlib.Core.Bool.{Bool, true, false, not, ◌&&◌}
use mathlib.Core.List.{List, [], ◌∷◌, ◌++◌, append-nil, append_assoc}
use Prim.Native.Nat.{ℕ, ◌+◌, ◌*◌, ◌≤◌}
use native.Mathlib.Omega.{arith}
use borrow.Author.Tests.{eqb-true, not-true, not-false}
use lib.Dec.{eqb}
use lib.ListN.{length}
use Rattle.base.specs.Lists.{table}
use Rattle.base.specs.Tests.{and_cases}
use Rattle.base.specs.FirstLaws.{both-pass, holds-pass}
use Rattle.base.specs.Answers.{holds, Left, left, or_untouched, Pass, Asked}
use Rattle.base.specs.declared.Counts.{Counts}
use Rattle.base.specs.declared.Refusal.{Refusal}
use Rattle.base.specs.declared.Refusal.TheVariants.{Rows, Lengths}
use Rattle.base.specs.Limits.{max_slots, rows_within}
use Rattle.matrix.specs.ListsLaws.{rows-range}
use Rattle.fields.specs.Numbers.{bytes, fields, part, stream}
use Rattle.fields.specs.Payload.{room, payloads}
use Rattle.fields.proofs.PartLaws.{stream-append}
use Rattle.blocks.specs.Blocks.{blocks_for, file_of}
use Rattle.blocks.proofs.AskLaws.{then-no}
use Rattle.factor_contents.specs.FactorFile.{FactorLists, cut, head_parts, list_parts, value_parts, written, file_length, lists_fit, ask_lengths, ask_write, write_outcome, lengths_fit, ask_contents, size_of}
use Rattle.factor_contents.specs.Judging.{Whole, Lent}
use Rattle.factor_contents.proofs.LengthLaws.{LongLists, long-lists, lists-long, few-entries, long-lent, cut-lent}
use Rattle.factor_writing.specs.Writing.{WriteLent}

-- ---- laid down one after another

pub laid-head : (n a b p : ℕ) (x₀ x₁ x₂ x₃ x₄ : List ℕ) → x₀ ≡ [] → x₁ ≡ x₀ ++ bytes 4 n → x₂ ≡ x₁ ++ bytes 4 a → x₃ ≡ x₂ ++ bytes 4 b → x₄ ≡ x₃ ++ bytes 8 p
    → x₄ ≡ stream (part 4 (n ∷ a ∷ b ∷ []) ∷ part 8 (p ∷ []) ∷ [])
unfolding stream fields
laid-head n a b p x₀ x₁ x₂ x₃ x₄ e₀ e₁ e₂ e₃ e₄ = rw (e₄, e₃, e₂, e₁, e₀) (simp (append_assoc, append-nil))

pub laid-lists : (a b c d x₀ x₁ x₂ x₃ x₄ : List ℕ) → x₁ ≡ x₀ ++ fields 4 a → x₂ ≡ x₁ ++ fields 4 b → x₃ ≡ x₂ ++ fields 2 c → x₄ ≡ x₃ ++ fields 2 d
    → x₄ ≡ x₀ ++ stream (part 4 a ∷ part 4 b ∷ part 2 c ∷ part 2 d ∷ [])
unfolding stream
laid-lists a b c d x₀ x₁ x₂ x₃ x₄ e₁ e₂ e₃ e₄ = rw (e₄, e₃, e₂, e₁) (simp (append_assoc, append-nil))

pub laid-values : (a b c d e x₀ x₁ x₂ x₃ x₄ x₅ : List ℕ) → x₁ ≡ x₀ ++ fields 8 a → x₂ ≡ x₁ ++ fields 8 b → x₃ ≡ x₂ ++ fields 8 c → x₄ ≡ x₃ ++ fields 2 d → x₅ ≡ x₄ ++ fields 2 e
    → x₅ ≡ x₀ ++ stream (part 8 a ∷ part 8 b ∷ part 8 c ∷ part 2 d ∷ part 2 e ∷ [])
unfolding stream
laid-values a b c d e x₀ x₁ x₂ x₃ x₄ x₅ e₁ e₂ e₃ e₄ e₅ = rw (e₅, e₄, e₃, e₂, e₁) (simp (append_assoc, append-nil))

pub none-laid : (f : List ℕ) → payloads f 0 ≡ []
unfolding table
none-laid f = refl

pub all_laid : (n : ℕ) (k : Counts) (l : FactorLists) (x y z w : List ℕ) → x ≡ stream (head_parts n k) → y ≡ x ++ stream (list_parts l.lower-starts l.upper-starts l.lower-index l.upper-index)
    → z ≡ y ++ stream (value_parts l.lower-values l.d l.upper-values l.r l.c) → w ≡ file_of z → w ≡ written n k l
unfolding written
all_laid n k l x y z w ex ey ez ew =
    let h = head_parts n k in
    let m = list_parts l.lower-starts l.upper-starts l.lower-index l.upper-index in
    let v = value_parts l.lower-values l.d l.upper-values l.r l.c in
    rw (ew, ez, ey, ex) (ap file_of (sym (stream-append (h ++ m) v ∙ ap (λ (t : List ℕ). t ++ stream v) (stream-append h m))))

-- ---- the room for what is laid down

module _ (n lower upper : ℕ) (l : FactorLists) (file : List ℕ) (p : length file ≡ file_length n lower upper) (g : Lent Whole n lower upper l) where
  pub head_in : 20 ≤ room file
  head_in = omega (arith, p)

  abbrev lists : ℕ
  lists = 4 * length l.lower-starts + 4 * length l.upper-starts + 2 * length l.lower-index + 2 * length l.upper-index

  lists-size : lists ≡ 8 + 8 * n + 2 * lower + 2 * upper
  lists-size = rw (g.lower-starts-size, g.upper-starts-size, g.lower-index-size, g.upper-index-size) (omega arith)

  abbrev values : ℕ
  values = 8 * length l.lower-values + 8 * length l.d + 8 * length l.upper-values + 2 * length l.r + 2 * length l.c

  values-size : values ≡ 8 * lower + 12 * n + 8 * upper
  values-size = rw (g.lower-values-size, g.d-size, g.upper-values-size, g.r-size, g.c-size) (omega arith)

  pub lists-in : (f : List ℕ) (q : ℕ) → q ≡ 20 → length f ≡ length file
      → q + 4 * length l.lower-starts + 4 * length l.upper-starts + 2 * length l.lower-index + 2 * length l.upper-index ≤ room f
  lists-in f q e h = omega (arith, p, lists-size)

  module _ (f f' : List ℕ) (q t : ℕ) (e : q ≡ 20) (h : length f ≡ length file)
      (d : t ≡ q + 4 * length l.lower-starts + 4 * length l.upper-starts + 2 * length l.lower-index + 2 * length l.upper-index) (h' : length f' ≡ length f) where
    pub values-in : t + 8 * length l.lower-values + 8 * length l.d + 8 * length l.upper-values + 2 * length l.r + 2 * length l.c ≤ room f'
    values-in = omega (arith, p, lists-size, values-size)

    pub whole-file : (g : List ℕ) (u : ℕ) → u ≡ t + 8 * length l.lower-values + 8 * length l.d + 8 * length l.upper-values + 2 * length l.r + 2 * length l.c → length g ≡ length f'
        → length g ≡ 512 * blocks_for u
    whole-file g u eu eg =
        let s : u ≡ size_of n lower upper = omega (arith, lists-size, values-size) in
        rw s (eg ∙ (h' ∙ (h ∙ p)))

-- ---- writing

pub lists-asked : (n : ℕ) (k : Counts) (l : FactorLists) (a : Asked) → Lent Whole n k.lower k.upper l
    → a ≡ ask_contents n (record { lower = length l.lower-index; upper = length l.upper-index; products = k.products }) l → a ≡ ask_contents n k l
lists-asked n k l a g e =
    e ∙ ap (λ (j : Counts). ask_contents n j l) (λ t. record { lower = g.lower-index-size t; upper = g.upper-index-size t; products = k.products })

module _ (n : ℕ) (k : Counts) (l : FactorLists) (file : List ℕ) (a : Asked) (e : a ≡ ask_contents n k l) where
  pub lists-stop : (q : Refusal) → a ≡ Err q → left (Err q) file ≡ or_untouched Err (ask_contents n k l) Pass (written n k l) file
  lists-stop q p = rw (← e, p)

  pub lists-done : (file' : List ℕ) → a ≡ Pass → file' ≡ written n k l → left Pass file' ≡ or_untouched Err (ask_contents n k l) Pass (written n k l) file
  lists-done file' p w = rw (← e, p, w)

module _ (n lower upper len : ℕ) (fit x : Bool) (ex : x ≡ rows_within n) where
  pub ask-1 : not x ≡ true → Err Rows ≡ ask_lengths n lower upper len fit
  unfolding ask_lengths
  ask-1 p = then-no (rows_within n) x Rows _ ex p

  module _ (p : not x ≡ false) (y : Bool) (ey : y ≡ fit) where
    pub ask-fit : not y ≡ true → Err Lengths ≡ ask_lengths n lower upper len fit
    unfolding ask_lengths
    ask-fit q = rw (← ex, not-false x p, ← ey, not-true y q)

    module _ (q : not y ≡ false) (z : Bool) (ez : z ≡ eqb len (file_length n lower upper)) where
      pub ask-file : not z ≡ true → Err Lengths ≡ ask_lengths n lower upper len fit
      unfolding ask_lengths
      ask-file t = rw (← ex, not-false x p, ← ey, not-false y q, ← ez, not-true z t)

      pub ask-pass : not z ≡ false → Pass ≡ ask_lengths n lower upper len fit
      unfolding ask_lengths
      ask-pass t = rw (← ex, not-false x p, ← ey, not-false y q, ← ez, not-false z t)

pub slots-few : (n lower upper r c ls li lv us ui uv d : ℕ) (y : Bool) → y ≡ lengths_fit n lower upper r c ls li lv us ui uv d → not y ≡ false → (lower ≤ max_slots) × (upper ≤ max_slots)
slots-few n lower upper r c ls li lv us ui uv d y e q = few-entries (long-lists n lower upper r c ls li lv us ui uv d (sym e ∙ not-false y q))

module _ (n : ℕ) (k : Counts) (l : FactorLists) (file : List ℕ) (a : Asked)
    (e : a ≡ ask_lengths n k.lower k.upper (length file) (lists_fit n k.lower k.upper l)) where
  pub write-stop : (q : Refusal) → a ≡ Err q → left (Err q) file ≡ write_outcome n k l file
  unfolding write_outcome ask_write
  write-stop q p = rw (← e, p)

  module _ (p : a ≡ Pass) where
    abbrev test : Bool
    test = lists_fit n k.lower k.upper l && eqb (length file) (file_length n k.lower k.upper)

    both : (holds (rows_within n) Rows ≡ Pass) × (holds test Lengths ≡ Pass)
    unfolding ask_lengths
    both = both-pass (holds (rows_within n) Rows) (holds test Lengths) (sym e ∙ p)

    tests : (lists_fit n k.lower k.upper l ≡ true) × (eqb (length file) (file_length n k.lower k.upper) ≡ true)
    tests = and_cases (lists_fit n k.lower k.upper l) (eqb (length file) (file_length n k.lower k.upper)) (holds-pass test Lengths both.1)

    pub write-long : LongLists n k.lower k.upper l
    write-long = lists-long n k.lower k.upper l tests.0

    pub write-lent : WriteLent n k (cut k l) (length file)
    write-lent =
        let g = write-long in
        let rows = rows-range n (holds-pass (rows_within n) Rows both.0) in
        record {
          few = rows.1;
          some = rows.0;
          lower-few = (few-entries g).0;
          upper-few = (few-entries g).1;
          lists = cut-lent n k l (long-lent n k.lower k.upper l g);
          file = eqb-true (length file) (file_length n k.lower k.upper) tests.1;
        }

    pub write_done : (x : Left Asked (List ℕ)) → x ≡ or_untouched Err (ask_contents n k (cut k l)) Pass (written n k (cut k l)) file → x ≡ write_outcome n k l file
    unfolding write_outcome ask_write
    write_done x h = rw (← e, p) h
