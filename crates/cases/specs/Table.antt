-- The boundary graphs of the paper, systems under floors and systems with repeated columns as one table: an input, a form, the slots of its stores, and what must come out. Definitions only.
use Rattle.std.specs.Prelude.{List, [], ◌∷◌, ◌++◌, map, ℕ, ◌+◌, ◌*◌, length, replicate, Float}
use Rattle.std.specs.Float.{nan, binary64}
use Rattle.std.specs.Float.Ieee.{of_bits, to_bits}
use Rattle.base.specs.Answers.{number_of_answer, place_of_answer, counts_of, Answer}
use Rattle.base.specs.declared.Form.{Form}
use Rattle.base.specs.declared.Form.TheVariants.{Plain, Shared, ByRow}
use Rattle.matrix.specs.Input.{Input, input_of, with_floor}
use Rattle.outcome.specs.Buffers.{SideBuffers, side_buffers, no_side, Buffers, all_buffers, Outcome}
use Rattle.outcome.specs.Solve.{solve}

-- ---- buffers that hold anything

-- slots of the lower index and value store, and of the upper ones
pub record Slots : Type 0 where
  pub li : ℕ
  pub lv : ℕ
  pub ui : ℕ
  pub uv : ℕ

abbrev pub slots : ℕ → ℕ → ℕ → ℕ → Slots
slots li lv ui uv = record { li = li; lv = lv; ui = ui; uv = uv }

abbrev pub dirty_side : ℕ → ℕ → ℕ → ℕ → SideBuffers
dirty_side n runs index values = side_buffers (replicate (n + 1) 77) (replicate runs 78) (replicate index 79) (replicate values nan)

abbrev pub dirty_with : ℕ → SideBuffers → SideBuffers → Buffers
dirty_with n l u = all_buffers l u (replicate n nan) (replicate n (of_bits binary64 1)) (replicate (3 * n) nan) (replicate (8 * n + 8) 80)

abbrev pub dirty : Form → ℕ → Slots → Buffers
dirty Plain n z = dirty_with n (dirty_side n 0 z.li z.lv) (dirty_side n 0 z.ui z.uv)
dirty Shared n z = dirty_with n (dirty_side n n z.li z.lv) (dirty_side n n z.ui z.uv)
dirty ByRow n z = dirty_with n no_side (dirty_side n n z.ui z.uv)

-- ---- what is seen of an outcome: number, place, counts, the bits of x and d, the index stores

pub record Seen : Type 0 where
  pub number : ℕ
  pub place : ℕ
  pub counts : List ℕ
  pub x : List ℕ
  pub d : List ℕ
  pub lower : List ℕ
  pub upper : List ℕ

unfoldable pub seen : Outcome Answer → Seen
seen o =
    record {
      number = number_of_answer o.answer;
      place = place_of_answer o.answer;
      counts = (counts_of o.answer).lower ∷ (counts_of o.answer).upper ∷ (counts_of o.answer).products ∷ [];
      x = map (to_bits binary64) o.buffers.x;
      d = map (to_bits binary64) o.buffers.d;
      lower = o.buffers.lower.index;
      upper = o.buffers.upper.index;
    }

-- a refusal after the questions before 9: x as it was, all else zero
abbrev pub refused_at : Form → ℕ → Slots → ℕ → ℕ → Seen
refused_at ByRow n z q k = record { number = q; place = k; counts = 0 ∷ 0 ∷ 0 ∷ []; x = replicate n 1; d = replicate n 0; lower = []; upper = replicate z.ui 0 }
refused_at Plain n z q k = record { number = q; place = k; counts = 0 ∷ 0 ∷ 0 ∷ []; x = replicate n 1; d = replicate n 0; lower = replicate z.li 0; upper = replicate z.ui 0 }
refused_at Shared n z q k = record { number = q; place = k; counts = 0 ∷ 0 ∷ 0 ∷ []; x = replicate n 1; d = replicate n 0; lower = replicate z.li 0; upper = replicate z.ui 0 }

-- a refusal before 9: all but scratch as it was
abbrev pub untouched_at : Form → ℕ → Slots → ℕ → ℕ → Seen
untouched_at ByRow n z q k = record { number = q; place = k; counts = 0 ∷ 0 ∷ 0 ∷ []; x = replicate n 1; d = replicate n 0x7ff8000000000000; lower = []; upper = replicate z.ui 79 }
untouched_at Plain n z q k = record { number = q; place = k; counts = 0 ∷ 0 ∷ 0 ∷ []; x = replicate n 1; d = replicate n 0x7ff8000000000000; lower = replicate z.li 79; upper = replicate z.ui 79 }
untouched_at Shared n z q k = record { number = q; place = k; counts = 0 ∷ 0 ∷ 0 ∷ []; x = replicate n 1; d = replicate n 0x7ff8000000000000; lower = replicate z.li 79; upper = replicate z.ui 79 }

-- counts, x, d and the index stores; the row form keeps only x
abbrev pub solved_as : Form → ℕ → Slots → List ℕ → List ℕ → List ℕ → List ℕ → List ℕ → Seen
solved_as ByRow n z c x d l u = record { number = 0; place = 0; counts = c; x = x; d = replicate n 0; lower = []; upper = replicate z.ui 0 }
solved_as Plain n z c x d l u = record { number = 0; place = 0; counts = c; x = x; d = d; lower = l; upper = u }
solved_as Shared n z c x d l u = record { number = 0; place = 0; counts = c; x = x; d = d; lower = l; upper = u }

pub record Case : Type 0 where
  pub form : Form
  pub input : Input
  pub stores : Slots
  pub expected : Seen

unfoldable pub outcome_of : Case → Seen
outcome_of c = seen (solve c.form c.input (dirty c.form c.input.n c.stores))

-- the lower store of a form: rows in the plain form, columns in the shared form
abbrev pub lower_of : Form → List ℕ → List ℕ → List ℕ
lower_of Plain rows columns = rows
lower_of Shared rows columns = columns
lower_of ByRow rows columns = []

-- one refusal in the three forms, and one solution
abbrev pub refusals : Input → Slots → ℕ → ℕ → List Case
refusals i z q k = map (λ f. record { form = f; input = i; stores = z; expected = refused_at f i.n z q k }) (Plain ∷ Shared ∷ ByRow ∷ [])

abbrev pub early : Input → Slots → ℕ → ℕ → List Case
early i z q k = map (λ f. record { form = f; input = i; stores = z; expected = untouched_at f i.n z q k }) (Plain ∷ Shared ∷ ByRow ∷ [])

abbrev pub solutions : Input → Slots → List ℕ → List ℕ → List ℕ → List ℕ → List ℕ → List ℕ → List Case
solutions i z c x d rows columns u = map (λ f. record { form = f; input = i; stores = z; expected = solved_as f i.n z c x d (lower_of f rows columns) u }) (Plain ∷ Shared ∷ ByRow ∷ [])

-- ---- the graphs; values as bits, orders 0, 1, .. unless said

unfoldable pub floats : List ℕ → List Float
floats = map (of_bits binary64)

unfoldable pub graph : ℕ → List ℕ → List ℕ → List ℕ → List ℕ → List ℕ → List ℕ → Input
graph n s j v r c b = input_of n s j (floats v) r c (floats b)

-- rows (2, 4), (1, 4), b = (10, 9)
unfoldable pub two : Input
two = graph 2 (0 ∷ 2 ∷ 4 ∷ []) (0 ∷ 1 ∷ 0 ∷ 1 ∷ []) (0x4000000000000000 ∷ 0x4010000000000000 ∷ 0x3ff0000000000000 ∷ 0x4010000000000000 ∷ []) (0 ∷ 1 ∷ []) (0 ∷ 1 ∷ []) (0x4024000000000000 ∷ 0x4022000000000000 ∷ [])

-- n = 1, b = 1
unfoldable pub single : ℕ → Input
single v = graph 1 (0 ∷ 1 ∷ []) (0 ∷ []) (v ∷ []) (0 ∷ []) (0 ∷ []) (0x3ff0000000000000 ∷ [])

-- the same under a floor
unfoldable pub under : ℕ → ℕ → Input
under f v = with_floor (of_bits binary64 f) (single v)

-- n = 1, b = 1, several values at (0, 0)
unfoldable pub several : List ℕ → Input
several v = graph 1 (0 ∷ length v ∷ []) (replicate (length v) 0) v (0 ∷ []) (0 ∷ []) (0x3ff0000000000000 ∷ [])

-- rows (1, 1 − 1), (1, 1), b = (1, 3): the two values at (0, 1) add up to +0
unfoldable pub cancelled : Input
cancelled =
    graph 2 (0 ∷ 3 ∷ 5 ∷ []) (1 ∷ 0 ∷ 1 ∷ 0 ∷ 1 ∷ []) (0x3ff0000000000000 ∷ 0x3ff0000000000000 ∷ 0xbff0000000000000 ∷ 0x3ff0000000000000 ∷ 0x3ff0000000000000 ∷ [])
    (0 ∷ 1 ∷ []) (0 ∷ 1 ∷ []) (0x3ff0000000000000 ∷ 0x4008000000000000 ∷ [])

-- a diagonal of ones with these values at (0, 1), b = (−0, 1): x(0) is +0 where they come to −0, and −0 where they come to +0
unfoldable pub aside : List ℕ → Input
aside v =
    graph 2 (0 ∷ (length v + 1) ∷ (length v + 2) ∷ []) (0 ∷ (replicate (length v) 1 ++ (1 ∷ []))) (0x3ff0000000000000 ∷ (v ++ (0x3ff0000000000000 ∷ [])))
    (0 ∷ 1 ∷ []) (0 ∷ 1 ∷ []) (0x8000000000000000 ∷ 0x3ff0000000000000 ∷ [])

-- (0, 0) = v; the two values at (1, 1) add up to infinity
unfoldable pub behind : ℕ → Input
behind v = graph 2 (0 ∷ 1 ∷ 3 ∷ []) (0 ∷ 1 ∷ 1 ∷ []) (v ∷ 0x7fefffffffffffff ∷ 0x7fefffffffffffff ∷ []) (0 ∷ 1 ∷ []) (0 ∷ 1 ∷ []) (0x3ff0000000000000 ∷ 0x3ff0000000000000 ∷ [])

-- entries (0, 1), (1, 0), all 1, b = (2, 1)
unfoldable pub swapped : List ℕ → Input
swapped r = graph 2 (0 ∷ 1 ∷ 2 ∷ []) (1 ∷ 0 ∷ []) (0x3ff0000000000000 ∷ 0x3ff0000000000000 ∷ []) r (0 ∷ 1 ∷ []) (0x4000000000000000 ∷ 0x3ff0000000000000 ∷ [])

-- entries (0, 0), (0, 1), (1, 0), all 1, b = (3, 1)
unfoldable pub cornerless : Input
cornerless = graph 2 (0 ∷ 2 ∷ 3 ∷ []) (0 ∷ 1 ∷ 0 ∷ []) (0x3ff0000000000000 ∷ 0x3ff0000000000000 ∷ 0x3ff0000000000000 ∷ []) (0 ∷ 1 ∷ []) (0 ∷ 1 ∷ []) (0x4008000000000000 ∷ 0x3ff0000000000000 ∷ [])

-- the same with (1, 1) = 1
unfoldable pub ones : Input
ones = graph 2 (0 ∷ 2 ∷ 4 ∷ []) (0 ∷ 1 ∷ 0 ∷ 1 ∷ []) (0x3ff0000000000000 ∷ 0x3ff0000000000000 ∷ 0x3ff0000000000000 ∷ 0x3ff0000000000000 ∷ []) (0 ∷ 1 ∷ []) (0 ∷ 1 ∷ []) (0x4008000000000000 ∷ 0x3ff0000000000000 ∷ [])

-- row 0 full, column 0 full, diagonal full, n = 3: diagonal 2, else 1, b = (2, 1, 1)
unfoldable pub arrow : Input
arrow =
    graph 3 (0 ∷ 3 ∷ 5 ∷ 7 ∷ []) (0 ∷ 1 ∷ 2 ∷ 0 ∷ 1 ∷ 0 ∷ 2 ∷ [])
    (0x4000000000000000 ∷ 0x3ff0000000000000 ∷ 0x3ff0000000000000 ∷ 0x3ff0000000000000 ∷ 0x4000000000000000 ∷ 0x3ff0000000000000 ∷ 0x4000000000000000 ∷ [])
    (0 ∷ 1 ∷ 2 ∷ []) (0 ∷ 1 ∷ 2 ∷ []) (0x4000000000000000 ∷ 0x3ff0000000000000 ∷ 0x3ff0000000000000 ∷ [])

-- what the arrow comes to: d = 1/2, 2/3, 3/4 rounded, x = (1, 0, 0)
abbrev pub arrow_solved : Form → Slots → List ℕ → List ℕ → Case
arrow_solved f z l u =
    record {
      form = f;
      input = arrow;
      stores = z;
      expected = solved_as f 3 z (3 ∷ 3 ∷ 5 ∷ []) (0x3ff0000000000000 ∷ 0 ∷ 0 ∷ []) (0x3fe0000000000000 ∷ 0x3fe5555555555555 ∷ 0x3fe8000000000000 ∷ []) l u;
    }

abbrev pub arrow_refused : Form → Slots → ℕ → ℕ → Case
arrow_refused f z q k = record { form = f; input = arrow; stores = z; expected = refused_at f 3 z q k }

-- the table: every graph marked P that a solve decides, then systems under floors, and some with a column several times in a row
unfoldable pub boundary : List Case
boundary =
    solutions two (slots 1 1 1 1) (1 ∷ 1 ∷ 1 ∷ []) (0x3ff0000000000000 ∷ 0x4000000000000000 ∷ []) (0x3fe0000000000000 ∷ 0x3fe0000000000000 ∷ []) (0 ∷ []) (1 ∷ []) (1 ∷ [])
    ++ refusals (single 0x8000000000000000) (slots 0 0 0 0) 12 0
    ++ solutions (single 0x0008000000000000) (slots 0 0 0 0) (0 ∷ 0 ∷ 0 ∷ []) (0x7fe0000000000000 ∷ []) (0x7fe0000000000000 ∷ []) [] [] []
    ++ refusals (single 0x0004000000000000) (slots 0 0 0 0) 13 0
    ++ refusals (swapped (0 ∷ 1 ∷ [])) (slots 1 1 1 1) 9 0
    ++ solutions (swapped (1 ∷ 0 ∷ [])) (slots 0 0 0 0) (0 ∷ 0 ∷ 0 ∷ []) (0x3ff0000000000000 ∷ 0x4000000000000000 ∷ []) (0x3ff0000000000000 ∷ 0x3ff0000000000000 ∷ []) [] [] []
    ++ solutions cornerless (slots 1 1 1 1) (1 ∷ 1 ∷ 1 ∷ []) (0x3ff0000000000000 ∷ 0x4000000000000000 ∷ []) (0x3ff0000000000000 ∷ 0xbff0000000000000 ∷ []) (0 ∷ []) (1 ∷ []) (1 ∷ [])
    ++ refusals ones (slots 1 1 1 1) 12 1
    ++ (arrow_solved Plain (slots 3 3 3 3) (0 ∷ 0 ∷ 1 ∷ []) (1 ∷ 2 ∷ 2 ∷ [])
    ∷ arrow_solved Shared (slots 2 3 2 3) (1 ∷ 2 ∷ []) (1 ∷ 2 ∷ [])
    ∷ arrow_solved ByRow (slots 0 0 2 3) [] []
    ∷ arrow_refused Plain (slots 3 3 2 3) 11 1
    ∷ arrow_refused Plain (slots 3 3 3 2) 11 1
    ∷ arrow_refused Plain (slots 2 3 3 3) 10 2
    ∷ arrow_refused Shared (slots 2 3 1 3) 11 0
    ∷ arrow_refused Shared (slots 3 2 3 3) 10 1
    ∷ arrow_refused ByRow (slots 0 0 3 2) 11 1
    ∷ [])
    -- a value of 2 and of −2 under the floor 2, of 2 under the floor just below it, −0 under −0; a floor of −1, of infinity, of no number, of −infinity; of 2 under the least floor above zero
    ++ refusals (under 0x4000000000000000 0x4000000000000000) (slots 0 0 0 0) 12 0
    ++ refusals (under 0x4000000000000000 0xc000000000000000) (slots 0 0 0 0) 12 0
    ++ solutions (under 0x3fffffffffffffff 0x4000000000000000) (slots 0 0 0 0) (0 ∷ 0 ∷ 0 ∷ []) (0x3fe0000000000000 ∷ []) (0x3fe0000000000000 ∷ []) [] [] []
    ++ refusals (under 0x8000000000000000 0x8000000000000000) (slots 0 0 0 0) 12 0
    ++ early (under 0xbff0000000000000 0x4000000000000000) (slots 2 2 2 2) 19 0
    ++ early (under 0x7ff0000000000000 0x4000000000000000) (slots 2 2 2 2) 19 0
    ++ early (under 0x7ff8000000000000 0x4000000000000000) (slots 2 2 2 2) 19 0
    ++ early (under 0xfff0000000000000 0x4000000000000000) (slots 2 2 2 2) 19 0
    ++ solutions (under 0x0000000000000001 0x4000000000000000) (slots 0 0 0 0) (0 ∷ 0 ∷ 0 ∷ []) (0x3fe0000000000000 ∷ []) (0x3fe0000000000000 ∷ []) [] [] []
    -- the arrow's second pivot, 3/2 after step 2, under the floor 3/2
    ++ refusals (with_floor (of_bits binary64 0x3ff8000000000000) arrow) (slots 3 3 3 3) 12 1
    -- a column several times in a row: 1 + 1; 1 + 2^−53 + 2^−53, and from the other end; 1 − 1 and −0 − 0, which keep their position;
    -- the greatest number twice, then taken off; a position whose sum is zero; −0 alone, which stays, and +0 − 0; a sum that is not finite behind another refusal, and by itself
    ++ solutions (several (0x3ff0000000000000 ∷ 0x3ff0000000000000 ∷ [])) (slots 0 0 0 0) (0 ∷ 0 ∷ 0 ∷ []) (0x3fe0000000000000 ∷ []) (0x3fe0000000000000 ∷ []) [] [] []
    ++ solutions (several (0x3ff0000000000000 ∷ 0x3ca0000000000000 ∷ 0x3ca0000000000000 ∷ [])) (slots 0 0 0 0) (0 ∷ 0 ∷ 0 ∷ []) (0x3ff0000000000000 ∷ []) (0x3ff0000000000000 ∷ []) [] [] []
    ++ solutions (several (0x3ca0000000000000 ∷ 0x3ca0000000000000 ∷ 0x3ff0000000000000 ∷ [])) (slots 0 0 0 0) (0 ∷ 0 ∷ 0 ∷ []) (0x3feffffffffffffe ∷ []) (0x3feffffffffffffe ∷ []) [] [] []
    ++ refusals (several (0x3ff0000000000000 ∷ 0xbff0000000000000 ∷ [])) (slots 0 0 0 0) 12 0
    ++ refusals (several (0x8000000000000000 ∷ 0x8000000000000000 ∷ [])) (slots 0 0 0 0) 12 0
    ++ refusals (several (0x7fefffffffffffff ∷ 0x7fefffffffffffff ∷ 0xffefffffffffffff ∷ [])) (slots 0 0 0 0) 13 0
    ++ solutions cancelled (slots 1 1 1 1) (1 ∷ 1 ∷ 1 ∷ []) (0x3ff0000000000000 ∷ 0x4000000000000000 ∷ []) (0x3ff0000000000000 ∷ 0x3ff0000000000000 ∷ []) (0 ∷ []) (1 ∷ []) (1 ∷ [])
    ++ solutions (aside (0x8000000000000000 ∷ [])) (slots 0 0 1 1) (0 ∷ 1 ∷ 0 ∷ []) (0 ∷ 0x3ff0000000000000 ∷ []) (0x3ff0000000000000 ∷ 0x3ff0000000000000 ∷ []) [] [] (1 ∷ [])
    ++ solutions (aside (0 ∷ 0x8000000000000000 ∷ [])) (slots 0 0 1 1) (0 ∷ 1 ∷ 0 ∷ []) (0x8000000000000000 ∷ 0x3ff0000000000000 ∷ []) (0x3ff0000000000000 ∷ 0x3ff0000000000000 ∷ []) [] [] (1 ∷ [])
    ++ refusals (behind 0) (slots 0 0 0 0) 12 0
    ++ refusals (behind 0x3ff0000000000000) (slots 0 0 0 0) 13 1
