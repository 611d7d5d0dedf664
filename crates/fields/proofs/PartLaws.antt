-- Parts of a file: what is read of a stream is its parts, and the stream of what is read is the bytes read.
use mathlib.Core.Path.{◌≡◌, refl, ap, ap₂, ◌∙◌}
use mathlib.Core.List.{List, [], ◌∷◌, ◌++◌, append-nil, append_assoc}
use Prim.Native.Nat.{ℕ, zero, suc, ◌+◌, ◌*◌, ◌^◌, ◌<◌, ◌≤◌}
use native.Mathlib.Nat.{mul-zero, mul-suc, mul-le-mul_left}
use native.Mathlib.Omega.{arith}
use lib.ListN.{length, get_or, length-append, get_or-append}
use lib.Seq.{ext_get_or}
use Rattle.base.specs.Lists.{table}
use Rattle.base.specs.TableLaws.{length-table, get_or-table, table-ext, table-add}
use Rattle.fields.specs.Numbers.{fields, Part, part, stream, Span, spans_of, extent}
use Rattle.fields.specs.Payload.{place, payload, payloads, field_at, fields_at, parts_at}
use Rattle.fields.proofs.NumberLaws.{get_or-after, le_bytes, bytes_le, le-lt, fields-append, length_fields, get_or-fields}

pub length-fields_at : (w : ℕ) (file : List ℕ) (at n : ℕ) → length (fields_at w file at n) ≡ n
unfolding fields_at
length-fields_at w file at n = length-table (field_at w file at) n

-- ---- lengths

pub length-stream : (ps : List Part) → length (stream ps) ≡ extent (spans_of ps)
unfolding stream extent
length-stream [] = refl
length-stream (p ∷ ps) = rw (length-append, length_fields, length-stream ps)

pub stream-append : (ps qs : List Part) → stream (ps ++ qs) ≡ stream ps ++ stream qs
unfolding stream
stream-append [] qs = refl
stream-append (p ∷ ps) qs = rw (stream-append ps qs, append_assoc)

-- ---- reading a stream

-- every number fits its width
abbrev pub Fits : ℕ → List ℕ → Type 0
Fits w xs = (k : ℕ) → k < length xs → get_or xs k 0 < 256 ^ w

abbrev pub AllFit : List Part → Type 0
AllFit [] = Unit {0}
AllFit (p ∷ ps) = Fits p.width p.numbers × AllFit ps

-- numbers whose bytes stand from at on are read
fields_back : (w : ℕ) (file : List ℕ) (at : ℕ) (xs : List ℕ) → Fits w xs
    → ((j : ℕ) → j < w * length xs → payload file (at + j) ≡ get_or (fields w xs) j 0) → fields_at w file at (length xs) ≡ xs
unfolding fields_at
fields_back w file at xs small same =
    ext_get_or 0 (table (field_at w file at) (length xs)) xs (length-table (field_at w file at) (length xs))
    (λ k l. let l' : k < length xs = rw length-table at l in
    get_or-table (field_at w file at) (length xs) 0 k l' ∙ le_bytes w (payload file) (at + w * k) (get_or xs k 0)
    (λ i b. let up : w * suc k ≤ w * length xs = mul-le-mul_left w l' in
    let e2 : at + w * k + i ≡ at + (w * k + i) = omega arith in
    rw e2 (same (w * k + i) (omega (arith, rw mul-suc at up)) ∙ get_or-fields w xs k i l' b)) (small k l'))

pub parts-back : (file : List ℕ) (at : ℕ) (ps : List Part) → AllFit ps
    → ((j : ℕ) → j < length (stream ps) → payload file (at + j) ≡ get_or (stream ps) j 0) → parts_at file at (spans_of ps) ≡ ps
unfolding parts_at stream
parts-back file at [] fit same = refl
parts-back file at (p ∷ ps) fit same =
    let f : List ℕ = fields p.width p.numbers in
    let m : ℕ = p.width * length p.numbers in
    let lf : length f ≡ m = length_fields p.width p.numbers in
    let ls : length (f ++ stream ps) ≡ m + length (stream ps) = rw (length-append, lf) in
    let here : fields_at p.width file at (length p.numbers) ≡ p.numbers =
    fields_back p.width file at p.numbers fit.0 (λ j l. same j (rw ls (omega arith)) ∙ get_or-append f (stream ps) 0 j (rw lf l)) in
    let next : parts_at file (at + m) (spans_of ps) ≡ ps =
    parts-back file (at + m) ps fit.1 (λ j l. let e : at + m + j ≡ at + (m + j) = omega arith in
    rw e (same (m + j) (rw ls (omega arith)) ∙ get_or-after f (stream ps) m j lf)) in
    ap₂ (λ (x : List ℕ) (y : List Part). part p.width x ∷ y) here next

-- ---- writing what was read

-- len payload bytes from at on
seg : List ℕ → ℕ → ℕ → List ℕ
seg file at len = table (λ j. payload file (at + j)) len

seg-join : (file : List ℕ) (at a b : ℕ) → seg file at a ++ seg file (at + a) b ≡ seg file at (a + b)
unfolding seg
seg-join file at a b =
    rw table-add (ap (λ (l : List ℕ). table (λ j. payload file (at + j)) a ++ l)
    (table-ext (λ j. payload file (at + a + j)) (λ j. payload file (at + (a + j))) b (λ j l. ap (payload file) (omega arith))))

module _ (file : List ℕ) (small : (i : ℕ) → get_or file i 0 < 256) where
  fields-of : (w at c : ℕ) → fields w (fields_at w file at c) ≡ seg file at (w * c)
  unfolding fields_at table fields seg
  fields-of w at zero = rw mul-zero
  fields-of w at (suc c) =
      rw (fields-append, append-nil, fields-of w at c, mul-suc, bytes_le w (payload file) (at + w * c) (λ i. small (place i)))
      (seg-join file at (w * c) w)

  stream-seg : (at : ℕ) (ss : List Span) → stream (parts_at file at ss) ≡ seg file at (extent ss)
  unfolding stream parts_at extent seg table
  stream-seg at [] = refl
  stream-seg at (s ∷ ss) =
      rw (fields-of s.width at s.count, stream-seg (at + s.width * s.count) ss) (seg-join file at (s.width * s.count) (extent ss))

  pub stream-of-parts : (ss : List Span) → stream (parts_at file 0 ss) ≡ payloads file (extent ss)
  unfolding seg
  stream-of-parts ss = stream-seg 0 ss ∙ table-ext (λ j. payload file (0 + j)) (payload file) (extent ss) (λ j l. ap (payload file) (omega arith))

  pub fields_fit : (w at c : ℕ) → Fits w (fields_at w file at c)
  unfolding fields_at
  fields_fit w at c k h = rw (get_or-table (field_at w file at) c 0 k (rw length-table at h)) (le-lt (payload file) (λ i. small (place i)) w (at + w * k))
