-- What is written is read: the factors, their counts and orders.
use Rattle.std.specs.Prelude.{Ok}
use mathlib.Core.Path.{◌≡◌, refl, sym, ap, ◌∙◌}
use mathlib.Core.Bool.{true}
use mathlib.Core.List.{List, [], ◌∷◌, map}
use Prim.Native.Nat.{ℕ, zero, suc, ◌+◌, ◌*◌, ◌^◌, ◌<◌, ◌≤◌}
use native.Mathlib.Omega.{arith}
use borrow.Author.Tests.{le-leb}
use lib.ListN.{length, get_or, take, length-map}
use lib.Seq.{length-take-le, get_or-take}
use lib.Ieee.{Float, binary64, of_bits}
use Rattle.base.specs.Answers.{left, Pass}
use Rattle.base.specs.Lists.{table}
use Rattle.base.specs.FirstLaws.{both-pass}
use Rattle.base.specs.declared.Counts.{Counts}
use Rattle.base.specs.Limits.{max_rows}
use Rattle.fields.specs.Numbers.{Part, stream, spans_of, extent}
use Rattle.fields.specs.Payload.{payload, fields_at, floats_at, parts_at}
use Rattle.fields.proofs.PartLaws.{Fits, parts-back, length-stream}
use Rattle.fields.proofs.WordLaws.{Binary64, of-bits, bits_small, numbers_of}
use Rattle.blocks.specs.Blocks.{blocks_for, file_of}
use Rattle.blocks.proofs.FileLaws.{payload-file_of, file_of-asked, file_of-ends}
use Rattle.factor_contents.specs.FactorFile.{FactorLists, factor_lists, cut, held, parts_of, written, size_of, n_of, counts_in, upper_starts_at, lower_index_at, upper_index_at, lower_values_at, d_at, upper_values_at, r_at, c_at, lists_at, factors_at, ask_head, ask_file, lists_fit, ask_contents, ask_through, ask_lengths, ask_write, opened, read_outcome}
use Rattle.factor_writing.specs.Writing.{WriteLent}
use Rattle.factor_writing.proofs.WriteLaws.{write-long, write-lent}
use Rattle.factor_file.proofs.Spans.{spans, extent-spans, moved, moved-floats}

-- ---- the words of the theorems

-- the numbers as their types hold them: starts of 32 bits, index numbers and orders of 16, products of 64, binary64 values
pub record Widths (k : Counts) (l : FactorLists) : Type 0 where
  pub products-fit : k.products < 256 ^ 8
  pub r-fit : Fits 2 l.r
  pub c-fit : Fits 2 l.c
  pub lower-starts-fit : Fits 4 l.lower-starts
  pub lower-index-fit : Fits 2 l.lower-index
  pub lower-values-fit : Binary64 l.lower-values
  pub upper-starts-fit : Fits 4 l.upper-starts
  pub upper-index-fit : Fits 2 l.upper-index
  pub upper-values-fit : Binary64 l.upper-values
  pub d-fit : Binary64 l.d

fits-take : (w m : ℕ) (xs : List ℕ) → m ≤ length xs → Fits w xs → Fits w (take m xs)
fits-take w m xs h f i l =
    let l' : i < m = rw (length-take-le m xs h) at l in rw (get_or-take m xs i 0 l') (f i (omega arith))

binary-take : (m : ℕ) (xs : List Float) → Binary64 xs → Binary64 (take m xs)
binary-take zero xs b = tt
binary-take (suc m) [] b = tt
binary-take (suc m) (x ∷ xs) b = (b.0, binary-take m xs b.1)

-- ---- factors that are written

module _ (n : ℕ) (k : Counts) (l : FactorLists) (len : ℕ) (w : Widths k l) (h : WriteLent n k l len) where
  abbrev a : ℕ
  a = k.lower

  abbrev b : ℕ
  b = k.upper

  abbrev s : List ℕ
  s = stream (parts_of n k l)

  abbrev file : List ℕ
  file = written n k l

  spans-are : spans_of (parts_of n k l) ≡ spans n a b
  spans-are =
      let g = h.lists in
      rw (g.lower-starts-size, g.upper-starts-size, g.lower-index-size, g.upper-index-size, length-map, g.lower-values-size, length-map, g.d-size, length-map, g.upper-values-size, g.r-size, g.c-size)

  length-s : length s ≡ size_of n a b
  length-s = length-stream (parts_of n k l) ∙ (ap extent spans-are ∙ extent-spans n a b)

  few-blocks : blocks_for (length s) ≤ 2 ^ 32
  few-blocks = rw length-s (omega (arith, h.few, h.lower-few, h.upper-few))

  some_bytes : 0 < length s
  some_bytes = rw length-s (omega arith)

  head-fits : Fits 4 (n ∷ a ∷ b ∷ [])
  head-fits zero q = omega (arith, h.few)
  head-fits (suc zero) q = omega (arith, h.lower-few)
  head-fits (suc (suc zero)) q = omega (arith, h.upper-few)
  head-fits (suc (suc (suc i))) q = absurd (omega arith)

  products-fits : Fits 8 (k.products ∷ [])
  products-fits zero q = w.products-fit
  products-fits (suc i) q = absurd (omega arith)

  parts_are : parts_at file 0 (spans n a b) ≡ parts_of n k l
  unfolding written
  parts_are =
      rw (← spans-are) (parts-back (file_of s) 0 (parts_of n k l) (
        head-fits,
        (
          products-fits,
          (
            w.lower-starts-fit,
            (
              w.upper-starts-fit,
              (
                w.lower-index-fit,
                (
                  w.upper-index-fit,
                  (
                    (λ i q. bits_small l.lower-values w.lower-values-fit i),
                    ((λ i q. bits_small l.d w.d-fit i), ((λ i q. bits_small l.upper-values w.upper-values-fit i), (w.r-fit, (w.c-fit, tt)))),
                  ),
                ),
              ),
            ),
          ),
        ),
      )
      (λ j q. ap (payload (file_of s)) (omega arith) ∙ payload-file_of s j (omega arith)))

  -- part j of the file is part j of the factors
  part-is : (j : ℕ) → numbers_of (parts_at file 0 (spans n a b)) j ≡ numbers_of (parts_of n k l) j
  part-is j = ap (λ (ps : List Part). numbers_of ps j) parts_are

  n-is : n_of file ≡ n
  unfolding parts_at fields_at table numbers_of
  n-is = ap (λ (xs : List ℕ). get_or xs 0 0) (part-is 0)

  lower-is : (counts_in file).lower ≡ a
  unfolding parts_at fields_at table numbers_of
  lower-is = ap (λ (xs : List ℕ). get_or xs 1 0) (part-is 0)

  upper_is : (counts_in file).upper ≡ b
  unfolding parts_at fields_at table numbers_of
  upper_is = ap (λ (xs : List ℕ). get_or xs 2 0) (part-is 0)

  products-is : (counts_in file).products ≡ k.products
  unfolding parts_at fields_at table numbers_of
  products-is = ap (λ (xs : List ℕ). get_or xs 0 0) (part-is 1)

  counts-are : counts_in file ≡ k
  counts-are = λ t. record { lower = lower-is t; upper = upper_is t; products = products-is t }

  -- the lists where they stand
  lower-starts-are : fields_at 4 file 20 (n + 1) ≡ l.lower-starts
  unfolding parts_at numbers_of
  lower-starts-are = part-is 2

  upper-starts-are : fields_at 4 file (upper_starts_at n) (n + 1) ≡ l.upper-starts
  unfolding parts_at numbers_of
  upper-starts-are = moved 4 file (n + 1) (20 + 4 * (n + 1)) (upper_starts_at n) (omega arith) ∙ part-is 3

  lower-index-is : fields_at 2 file (lower_index_at n) a ≡ l.lower-index
  unfolding parts_at numbers_of
  lower-index-is = moved 2 file a (20 + 4 * (n + 1) + 4 * (n + 1)) (lower_index_at n) (omega arith) ∙ part-is 4

  upper-index-is : fields_at 2 file (upper_index_at n a) b ≡ l.upper-index
  unfolding parts_at numbers_of
  upper-index-is = moved 2 file b (20 + 4 * (n + 1) + 4 * (n + 1) + 2 * a) (upper_index_at n a) (omega arith) ∙ part-is 5

  abbrev values_from : ℕ
  values_from = 20 + 4 * (n + 1) + 4 * (n + 1) + 2 * a + 2 * b

  lower-values-are : floats_at file (lower_values_at n a b) a ≡ l.lower-values
  unfolding parts_at numbers_of floats_at
  lower-values-are =
      moved-floats file a values_from (lower_values_at n a b) (omega arith) ∙ (ap (map (of_bits binary64)) (part-is 6) ∙ of-bits l.lower-values w.lower-values-fit)

  d-is : floats_at file (d_at n a b) n ≡ l.d
  unfolding parts_at numbers_of floats_at
  d-is = moved-floats file n (values_from + 8 * a) (d_at n a b) (omega arith) ∙ (ap (map (of_bits binary64)) (part-is 7) ∙ of-bits l.d w.d-fit)

  upper-values-are : floats_at file (upper_values_at n a b) b ≡ l.upper-values
  unfolding parts_at numbers_of floats_at
  upper-values-are =
      moved-floats file b (values_from + 8 * a + 8 * n) (upper_values_at n a b) (omega arith) ∙ (ap (map (of_bits binary64)) (part-is 8) ∙ of-bits l.upper-values w.upper-values-fit)

  r-is : fields_at 2 file (r_at n a b) n ≡ l.r
  unfolding parts_at numbers_of
  r-is = moved 2 file n (values_from + 8 * a + 8 * n + 8 * b) (r_at n a b) (omega arith) ∙ part-is 9

  c-is : fields_at 2 file (c_at n a b) n ≡ l.c
  unfolding parts_at numbers_of
  c-is = moved 2 file n (values_from + 8 * a + 8 * n + 8 * b + 2 * n) (c_at n a b) (omega arith) ∙ part-is 10

  lists-are : lists_at file n a b ≡ l
  unfolding lists_at
  lists-are = λ t.
      factor_lists (r-is t) (c-is t) (lower-starts-are t) (lower-index-is t) (lower-values-are t) (upper-starts-are t) (upper-index-is t) (upper-values-are t) (d-is t)

  held-are : factors_at file ≡ l
  unfolding factors_at
  held-are = rw (n-is, lower-is, upper_is) lists-are

  written-asked : ask_file file ≡ Pass
  unfolding written ask_file ask_head
  written-asked =
      let ends = file_of-ends s in
      rw (file_of-asked s some_bytes few-blocks, n-is, lower-is, upper_is, le-leb 1 n h.some, le-leb n max_rows h.few, rw length-s at ends)

-- ---- what passed questions tell of lent lists

module _ (n : ℕ) (k : Counts) (l : FactorLists) (buffer : List ℕ) (p : ask_write n k l (length buffer) ≡ Pass) where
  pub asked : (ask_lengths n k.lower k.upper (length buffer) (lists_fit n k.lower k.upper l) ≡ Pass) × (ask_contents n k (cut k l) ≡ Pass)
  unfolding ask_write
  asked = both-pass (ask_lengths n k.lower k.upper (length buffer) (lists_fit n k.lower k.upper l)) (ask_contents n k (cut k l)) p

  pub lent : WriteLent n k (cut k l) (length buffer)
  lent = write-lent n k l buffer Pass (sym asked.0) refl

  cut-widths : Widths k l → Widths k (cut k l)
  unfolding cut
  cut-widths w =
      let g = write-long n k l buffer Pass (sym asked.0) refl in
      record {
        products-fit = w.products-fit;
        r-fit = w.r-fit;
        c-fit = w.c-fit;
        lower-starts-fit = w.lower-starts-fit;
        lower-index-fit = fits-take 2 k.lower l.lower-index g.lower_long.index-least w.lower-index-fit;
        lower-values-fit = binary-take k.lower l.lower-values w.lower-values-fit;
        upper-starts-fit = w.upper-starts-fit;
        upper-index-fit = fits-take 2 k.upper l.upper-index g.upper_long.index-least w.upper-index-fit;
        upper-values-fit = binary-take k.upper l.upper-values w.upper-values-fit;
        d-fit = w.d-fit;
      }

-- ---- the theorems of what is written

module _ (n : ℕ) (k : Counts) (l : FactorLists) (buffer : List ℕ) (w : Widths k l) (p : ask_write n k l (length buffer) ≡ Pass) where
  abbrev kept : List ℕ
  kept = written n k (cut k l)

  abbrev wide : Widths k (cut k l)
  wide = cut-widths n k l buffer p w

  abbrev room-is : WriteLent n k (cut k l) (length buffer)
  room-is = lent n k l buffer p

  -- Factors that pass the writer's questions are written to a file that opens to their sizes and holds them, their counts and orders.
  pub written_read : (opened kept ≡ Ok (record { n = n; lower = k.lower; upper = k.upper })) × (n_of kept ≡ n) × (counts_in kept ≡ k) × (factors_at kept ≡ cut k l)
  unfolding opened
  written_read = (
    rw (written-asked n k (cut k l) (length buffer) wide room-is, n-is n k (cut k l) (length buffer) wide room-is, lower-is n k (cut k l) (length buffer) wide room-is, upper_is n k (cut k l) (length buffer) wide room-is),
    n-is n k (cut k l) (length buffer) wide room-is,
    counts-are n k (cut k l) (length buffer) wide room-is,
    held-are n k (cut k l) (length buffer) wide room-is,
  )

  contents-pass : ask_contents (n_of kept) (counts_in kept) (factors_at kept) ≡ Pass
  contents-pass = (λ t. ask_contents (written_read.1 t) (written_read.2 t) (written_read.3 t)) ∙ (asked n k l buffer p).1

  -- The same of the calls: what was written is read into buffers that fit, whatever these held.
  pub written-read-call : (m : FactorLists) → lists_fit n k.lower k.upper m ≡ true → read_outcome kept m ≡ left (Ok k) (held m (cut k l))
  unfolding read_outcome ask_through
  written-read-call m fit =
      let fits : lists_fit (n_of kept) (counts_in kept).lower (counts_in kept).upper m ≡ true =
      (λ t. lists_fit (written_read.1 t) (written_read.2 t).lower (written_read.2 t).upper m) ∙ fit in
      rw (written-asked n k (cut k l) (length buffer) wide room-is, fits, contents-pass)
      (λ t. left (Ok (written_read.2 t)) (held m (written_read.3 t)))
