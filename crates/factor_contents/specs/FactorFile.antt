-- The factor file of the plain form: its layout, its questions, what it holds, and the outcomes of the three calls. Definitions only.
use Rattle.std.specs.Prelude.{Bool, ◌&&◌, List, [], ◌∷◌, ◌++◌, map, ℕ, ◌+◌, ◌-◌, ◌*◌, length, get_or, take, eqb, leb, Float, Ok, Err}
use Rattle.base.specs.Lists.{total, padded, nought}
use Rattle.base.specs.Answers.{spot, holds, and_then, Left, or_untouched, Pass, Kept, Asked, Answer}
use Rattle.base.specs.declared.Counts.{Counts}
use Rattle.base.specs.declared.FactorSizes.{FactorSizes}
use Rattle.base.specs.declared.Form.TheVariants.{Plain}
use Rattle.base.specs.declared.Refusal.TheVariants.{Rows, Lengths, BadFactors, FactorShape, Products}
use Rattle.base.specs.Limits.{max_slots, rows_within}
use Rattle.lent.specs.Reading.{length_in}
use Rattle.matrix.specs.Questions.{ask5}
use Rattle.outcome.specs.Buffers.{SideBuffers, side_buffers}
use Rattle.outcome.specs.Resolve.{ask_factors}
use Rattle.factors.specs.Presented.{presented}
use Rattle.fields.specs.Numbers.{le, Part, part, stream}
use Rattle.fields.specs.Payload.{payload, fields_at, floats_at, bits_of}
use Rattle.blocks.specs.Blocks.{blocks_for, file_of, ends_at, ask_blocks}

-- ---- factors in the plain form

-- the orders, the lists of both sides with their values, and d
pub record FactorLists : Type 0 where
  pub r : List ℕ
  pub c : List ℕ
  pub lower-starts : List ℕ
  pub lower-index : List ℕ
  pub lower-values : List Float
  pub upper-starts : List ℕ
  pub upper-index : List ℕ
  pub upper-values : List Float
  pub d : List Float

abbrev pub factor_lists : List ℕ → List ℕ → List ℕ → List ℕ → List Float → List ℕ → List ℕ → List Float → List Float → FactorLists
factor_lists r c ls li lv us ui uv d =
    record {
      r = r;
      c = c;
      lower-starts = ls;
      lower-index = li;
      lower-values = lv;
      upper-starts = us;
      upper-index = ui;
      upper-values = uv;
      d = d;
    }

abbrev pub lower_of : FactorLists → SideBuffers
lower_of l = side_buffers l.lower-starts [] l.lower-index l.lower-values

abbrev pub upper_of : FactorLists → SideBuffers
upper_of l = side_buffers l.upper-starts [] l.upper-index l.upper-values

-- "Stores may be longer than the lists": the lists without the unused slots
unfoldable pub cut : Counts → FactorLists → FactorLists
cut k l =
    factor_lists l.r l.c l.lower-starts (take k.lower l.lower-index) (take k.lower l.lower-values)
    l.upper-starts (take k.upper l.upper-index) (take k.upper l.upper-values) l.d

-- stores as long as those of l that hold the lists of m, and zeros
unfoldable pub held : FactorLists → FactorLists → FactorLists
held l m =
    factor_lists m.r m.c m.lower-starts (padded 0 (length l.lower-index) m.lower-index) (padded nought (length l.lower-values) m.lower-values)
    m.upper-starts (padded 0 (length l.upper-index) m.upper-index) (padded nought (length l.upper-values) m.upper-values) m.d

-- ---- the file of factors

-- "n, lower, upper in 4 bytes, products in 8,
abbrev pub head_parts : ℕ → Counts → List Part
head_parts n k = part 4 (n ∷ k.lower ∷ k.upper ∷ []) ∷ part 8 (k.products ∷ []) ∷ []

-- then lower starts and upper starts (4), lower and upper indices (2),
abbrev pub list_parts : List ℕ → List ℕ → List ℕ → List ℕ → List Part
list_parts ls us li ui = part 4 ls ∷ part 4 us ∷ part 2 li ∷ part 2 ui ∷ []

-- L, d, u (8), r and c (2)"
abbrev pub value_parts : List Float → List Float → List Float → List ℕ → List ℕ → List Part
value_parts lv d uv r c = part 8 (bits_of lv) ∷ part 8 (bits_of d) ∷ part 8 (bits_of uv) ∷ part 2 r ∷ part 2 c ∷ []

abbrev pub parts_of : ℕ → Counts → FactorLists → List Part
parts_of n k l =
    head_parts n k ++ list_parts l.lower-starts l.upper-starts l.lower-index l.upper-index
    ++ value_parts l.lower-values l.d l.upper-values l.r l.c

unfoldable pub written : ℕ → Counts → FactorLists → List ℕ
written n k l = file_of (stream (parts_of n k l))

-- the payload bytes that n places with so many lower and upper entries take, and the file's length
abbrev pub size_of : ℕ → ℕ → ℕ → ℕ
size_of n lower upper = 28 + 20 * n + 10 * lower + 10 * upper

abbrev pub file_length : ℕ → ℕ → ℕ → ℕ
file_length n lower upper = 512 * blocks_for (size_of n lower upper)

-- ---- the factors of a file

abbrev pub n_of : List ℕ → ℕ
n_of file = le 4 (payload file) 0

abbrev pub counts_in : List ℕ → Counts
counts_in file = record { lower = le 4 (payload file) 4; upper = le 4 (payload file) 8; products = le 8 (payload file) 12 }

abbrev pub sizes_in : List ℕ → FactorSizes
sizes_in file = record { n = n_of file; lower = (counts_in file).lower; upper = (counts_in file).upper }

-- where the parts begin; the lower starts at 20
abbrev pub upper_starts_at : ℕ → ℕ
upper_starts_at n = 24 + 4 * n

abbrev pub lower_index_at : ℕ → ℕ
lower_index_at n = 28 + 8 * n

abbrev pub upper_index_at : ℕ → ℕ → ℕ
upper_index_at n lower = lower_index_at n + 2 * lower

abbrev pub lower_values_at : ℕ → ℕ → ℕ → ℕ
lower_values_at n lower upper = upper_index_at n lower + 2 * upper

abbrev pub d_at : ℕ → ℕ → ℕ → ℕ
d_at n lower upper = lower_values_at n lower upper + 8 * lower

abbrev pub upper_values_at : ℕ → ℕ → ℕ → ℕ
upper_values_at n lower upper = d_at n lower upper + 8 * n

abbrev pub r_at : ℕ → ℕ → ℕ → ℕ
r_at n lower upper = upper_values_at n lower upper + 8 * upper

abbrev pub c_at : ℕ → ℕ → ℕ → ℕ
c_at n lower upper = r_at n lower upper + 2 * n

unfoldable pub lists_at : List ℕ → ℕ → ℕ → ℕ → FactorLists
lists_at file n lower upper =
    factor_lists (fields_at 2 file (r_at n lower upper) n) (fields_at 2 file (c_at n lower upper) n)
    (fields_at 4 file 20 (n + 1)) (fields_at 2 file (lower_index_at n) lower) (floats_at file (lower_values_at n lower upper) lower)
    (fields_at 4 file (upper_starts_at n) (n + 1)) (fields_at 2 file (upper_index_at n lower) upper) (floats_at file (upper_values_at n lower upper) upper)
    (floats_at file (d_at n lower upper) n)

-- what a file holds
unfoldable pub factors_at : List ℕ → FactorLists
factors_at file = lists_at file (n_of file) (counts_in file).lower (counts_in file).upper

-- ---- the questions

-- 20, "the length or closing zeros disagree with n, lower and upper"
unfoldable pub ask_head : List ℕ → ℕ → ℕ → ℕ → Asked
ask_head file n lower upper = and_then (holds (rows_within n) Rows) (holds (ends_at file (size_of n lower upper)) FactorShape)

-- 16, 17, 1 and 20
unfoldable pub ask_file : List ℕ → Asked
ask_file file = and_then (ask_blocks file) (ask_head file (n_of file) (counts_in file).lower (counts_in file).upper)

-- "Stores may be longer than the lists; shorter gets 2": starts, index and values of a side with so many entries
abbrev pub side_fits : ℕ → ℕ → ℕ → ℕ → ℕ → Bool
side_fits n entries s i v = eqb s (n + 1) && leb entries i && leb i max_slots && leb entries v && leb v max_slots

-- of the lengths of r, c, lower starts, index and values, upper ones, and d
abbrev pub lengths_fit : ℕ → ℕ → ℕ → ℕ → ℕ → ℕ → ℕ → ℕ → ℕ → ℕ → ℕ → ℕ → Bool
lengths_fit n lower upper r c ls li lv us ui uv d = eqb r n && eqb c n && eqb d n && side_fits n lower ls li lv && side_fits n upper us ui uv

abbrev pub lists_fit : ℕ → ℕ → ℕ → FactorLists → Bool
lists_fit n lower upper l =
    lengths_fit n lower upper (length l.r) (length l.c) (length l.lower-starts) (length l.lower-index) (length l.lower-values)
    (length l.upper-starts) (length l.upper-index) (length l.upper-values) (length l.d)

-- "For 15 the stores end at lower and upper; starts that end elsewhere are 15 at n − 1": of lists without unused slots
abbrev pub starts_end : ℕ → ℕ → ℕ → FactorLists → Bool
starts_end n lower upper l = eqb (get_or l.lower-starts n 0) lower && eqb (get_or l.upper-starts n 0) upper

unfoldable pub ask15 : ℕ → ℕ → ℕ → FactorLists → Asked
ask15 n lower upper l =
    and_then (ask_factors Plain n (presented (lower_of l) (upper_of l) l.d)) (holds (starts_end n lower upper l) (BadFactors (spot (n - 1))))

-- "the sum over the lists": each lower entry (i, k) is a filled row below k in column k, and counts the length of T(k)
unfoldable pub products_of : List ℕ → List ℕ → ℕ
products_of index starts = total (map (length_in starts) index)

-- 5, 15 and 21, "products disagrees with the sum over the lists"
unfoldable pub ask_contents : ℕ → Counts → FactorLists → Asked
ask_contents n k l =
    and_then (ask5 n l.r l.c)
    (and_then (ask15 n k.lower k.upper l)
    (holds (eqb k.products (products_of l.lower-index l.upper-starts)) Products))

-- "Reading puts 16, 17, 1, then 20, 2, 5, 15 and 21", where 2 answers whether the lengths fit
unfoldable pub ask_through : List ℕ → Bool → Asked
ask_through file fit = and_then (ask_file file) (and_then (holds fit Lengths) (ask_contents (n_of file) (counts_in file) (factors_at file)))

abbrev pub ask_read : List ℕ → FactorLists → Asked
ask_read file l = ask_through file (lists_fit (n_of file) (counts_in file).lower (counts_in file).upper l)

-- "writing puts 1, 2, 5, 15 and 21": 2 of the file's own length too
unfoldable pub ask_lengths : ℕ → ℕ → ℕ → ℕ → Bool → Asked
ask_lengths n lower upper len fit =
    and_then (holds (rows_within n) Rows) (holds (fit && eqb len (file_length n lower upper)) Lengths)

unfoldable pub ask_write : ℕ → Counts → FactorLists → ℕ → Asked
ask_write n k l len = and_then (ask_lengths n k.lower k.upper len (lists_fit n k.lower k.upper l)) (ask_contents n k (cut k l))

-- ---- the outcomes of `factor_file_shape`, `read_factors` and `write_factors`

abbrev pub shaped : Asked → FactorSizes → Kept
shaped (Ok _) s = Ok s
shaped (Err q) s = Err q

unfoldable pub opened : List ℕ → Kept
opened file = shaped (ask_file file) (sizes_in file)

-- the counts, once the questions are passed
abbrev pub counted : Asked → Counts → Answer
counted (Ok _) k = Ok k
counted (Err q) k = Err q

-- "A refused read changes no buffer"
unfoldable pub read_outcome : List ℕ → FactorLists → Left Answer FactorLists
read_outcome file l = or_untouched Err (ask_read file l) (Ok (counts_in file)) (held l (factors_at file)) l

unfoldable pub write_outcome : ℕ → Counts → FactorLists → List ℕ → Left Asked (List ℕ)
write_outcome n k l file = or_untouched Err (ask_write n k l (length file)) Pass (written n k (cut k l)) file
