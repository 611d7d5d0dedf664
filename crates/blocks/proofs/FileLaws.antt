-- The file of a stream passes its questions and holds the stream; a file that passes them is the file of its payloads.
use Rattle.std.specs.Prelude.{Some, None, Err}
use mathlib.Core.Path.{◌≡◌, refl, sym, ap, ◌∙◌}
use mathlib.Core.Bool.{true, false, not, ◌&&◌}
use mathlib.Core.List.{List, [], ◌∷◌, ◌++◌, append-nil}
use Prim.Native.Nat.{ℕ, zero, suc, ◌+◌, ◌-◌, ◌*◌, ◌/◌, ◌%◌, ◌^◌, ◌<◌, ◌≤◌}
use native.Mathlib.Nat.{not-suc-le-zero}
use native.Mathlib.Omega.{arith}
use native.Mathlib.Decide.{dec_lt}
use borrow.Author.Tests.{eq-eqb, eqb-true, ltb-true, leb-true, lt-ltb, le-leb, not-true, not-false}
use lib.Dec.{eqb, ltb, leb}
use lib.ListN.{length, get_or, take, drop, replicate, length-append, length-take, get_or-append, get_or-eq_default, drop_of_length-le}
use lib.Seq.{get_or-take, get_or-drop, ext_get_or}
use Rattle.base.specs.Lists.{joined, padded}
use Rattle.base.specs.First.{first}
use Rattle.base.specs.FirstLaws.{first-none, first-all, first_found, both-pass, holds-pass, absent-pass}
use Rattle.base.specs.TableLaws.{length-table, get_or-table, joined-ext}
use Rattle.base.specs.ZerosLaws.{padded-length}
use Rattle.base.specs.Tests.{and_cases}
use Rattle.base.specs.Answers.{holds, absent, Pass, Found}
use Rattle.base.specs.declared.Refusal.TheVariants.{FileLength, Block}
use Rattle.fields.specs.Numbers.{le, bytes}
use Rattle.fields.specs.Payload.{place, room, payload, payloads, zero_from}
use Rattle.fields.proofs.NumberLaws.{get_or-after, length-bytes, le_bytes, byte_le}
use Rattle.fields.proofs.ZeroLaws.{zero-bytes, zero-yes}
use Rattle.blocks.specs.Blocks.{byte_from, check_a, check_b, right_block, wrong_block, first_wrong, whole_blocks, ask_blocks, seal_block, payload_in, blocks_for, file_of, ends_at, payload_of, sealed}
use Rattle.blocks.proofs.CheckLaws.{checks-ext, check_a-lt, check_b-lt}
use Rattle.blocks.proofs.SealLaws.{length-seal_block, length-payload, sealed_at}

-- ---- blocks one after another

module _ (f : ℕ → List ℕ) (long : (k : ℕ) → length (f k) ≡ 512) where
  length-joined : (n : ℕ) → length (joined f n) ≡ 512 * n
  unfolding joined
  length-joined zero = refl
  length-joined (suc n) = simp (length-append, length-joined n, long n) (omega arith)

  get_or-joined : (n k j : ℕ) → k < n → j < 512 → get_or (joined f n) (512 * k + j) 0 ≡ get_or (f k) j 0
  unfolding joined
  get_or-joined zero k j a b = absurd (not-suc-le-zero a)
  get_or-joined (suc n) k j a b = elim (dec_lt k n) [
    | yes lt ↦ get_or-append (joined f n) (f n) 0 (512 * k + j) (rw (length-joined n) (omega arith)) ∙ get_or-joined n k j lt b
    | no q ↦ let e : k ≡ n = omega arith in rw e (get_or-after (joined f n) (f n) (512 * n) j (length-joined n))
  ]

-- ---- zeros after a list change no entry

zeros-at : (z i : ℕ) → ◌≡◌ {A = ℕ} (get_or (replicate z 0) i 0) 0
zeros-at zero i = refl
zeros-at (suc z) zero = refl
zeros-at (suc z) (suc i) = zeros-at z i

get_or-zeros : (s : List ℕ) (z i : ℕ) → get_or (s ++ replicate z 0) i 0 ≡ get_or s i 0
get_or-zeros [] z i = zeros-at z i
get_or-zeros (x ∷ s) z zero = refl
get_or-zeros (x ∷ s) z (suc i) = get_or-zeros s z i

get_or-padded : (size : ℕ) (s : List ℕ) (i : ℕ) → get_or (padded 0 size s) i 0 ≡ get_or s i 0
unfolding padded
get_or-padded size s i = get_or-zeros s (size - length s) i

-- ---- the payload of a block, of a stream and of a file

length-payload_in : (s : List ℕ) (k : ℕ) → length (payload_in s k) ≡ 504
length-payload_in s k = padded-length 0 504 (take 504 (drop (504 * k) s)) (rw length-take (omega arith))

payload_in-at : (s : List ℕ) (k j : ℕ) → j < 504 → get_or (payload_in s k) j 0 ≡ get_or s (504 * k + j) 0
payload_in-at s k j h = get_or-padded 504 (take 504 (drop (504 * k) s)) j ∙ get_or-take 504 (drop (504 * k) s) j 0 h ∙ get_or-drop (504 * k) s j 0

payload_of-at : (l : List ℕ) (k j : ℕ) → j < 504 → get_or (payload_of l k) j 0 ≡ payload l (504 * k + j)
payload_of-at l k j h =
    let p : place (504 * k + j) ≡ 512 * k + j = omega arith in
    get_or-take 504 (drop (512 * k) l) j 0 h ∙ get_or-drop (512 * k) l j 0 ∙ ap (λ (i : ℕ). get_or l i 0) (sym p)

-- ---- a file whose payload is a stream and zeros is sealed to the stream's file

pub finished : (file₀ file₁ : List ℕ) (size : ℕ) → length file₀ ≡ 512 * blocks_for size → length file₁ ≡ length file₀
    → payloads file₁ (room file₀) ≡ padded 0 (room file₀) (payloads file₀ size) → sealed file₁ ≡ file_of (payloads file₀ size)
unfolding sealed file_of
finished file₀ file₁ size e l j =
    let s : List ℕ = payloads file₀ size in
    let ls : length s ≡ size = length-table (payload file₀) size in
    let b : length file₁ / 512 ≡ blocks_for size = omega arith in
    let at : (i : ℕ) → i < room file₀ → payload file₁ i ≡ get_or s i 0 = λ i h.
    sym (get_or-table (payload file₁) (room file₀) 0 i h) ∙ (ap (λ (x : List ℕ). get_or x i 0) j ∙ get_or-padded (room file₀) s i) in
    rw (b, ls, drop_of_length-le file₁ {i = 512 * blocks_for size} (omega arith), append-nil)
    (joined-ext (sealed_at file₁) (λ k. seal_block k (payload_in s k)) (blocks_for size) (λ k h.
    let lp : length (payload_of file₁ k) ≡ 504 = length-payload file₁ k (omega arith) in
    ap (seal_block k) (ext_get_or 0 (payload_of file₁ k) (payload_in s k) (lp ∙ sym (length-payload_in s k))
    (λ i q. let q' : i < 504 = rw lp at q in payload_of-at file₁ k i q' ∙ at (504 * k + i) (omega arith) ∙ sym (payload_in-at s k i q')))))

-- ---- the file of a stream

module _ (s : List ℕ) where
  abbrev blocks : ℕ
  blocks = blocks_for (length s)

  length-block : (k : ℕ) → length (seal_block k (payload_in s k)) ≡ 512
  length-block k = length-seal_block k (payload_in s k) (length-payload_in s k)

  pub length-file_of : length (file_of s) ≡ 512 * blocks
  unfolding file_of
  length-file_of = length-joined (λ k. seal_block k (payload_in s k)) length-block blocks

  byte_of : (k j : ℕ) → k < blocks → j < 512 → byte_from (file_of s) (512 * k) j ≡ get_or (seal_block k (payload_in s k)) j 0
  unfolding file_of
  byte_of k j a b = get_or-joined (λ k. seal_block k (payload_in s k)) length-block blocks k j a b

  -- the payload is the stream, zeros past its end
  pub payload-file_of : (i : ℕ) → i < 504 * blocks → payload (file_of s) i ≡ get_or s i 0
  unfolding seal_block
  payload-file_of i h =
      let k : ℕ = i / 504 in
      let j : ℕ = i % 504 in
      let e : i / 504 * 512 + i % 504 ≡ 512 * k + j = omega arith in
      let e2 : 504 * k + j ≡ i = omega arith in
      let p : List ℕ = payload_in s k in
      let lp : length p ≡ 504 = length-payload_in s k in
      let body : List ℕ = p ++ bytes 4 k in
      rw e (byte_of k j (omega arith) (omega arith)
      ∙ get_or-append body _ 0 j (simp (length-append, lp) (omega arith))
      ∙ get_or-append p (bytes 4 k) 0 j (rw lp (omega arith))
      ∙ payload_in-at s k j (omega arith)
      ∙ ap (λ (x : ℕ). get_or s x 0) e2)

  -- number and checks of every block are right
  right-file_of : blocks ≤ 2 ^ 32 → (k : ℕ) → k < blocks → right_block (file_of s) k ≡ true
  unfolding right_block seal_block
  right-file_of few k h =
      let f : ℕ → ℕ = byte_from (file_of s) (512 * k) in
      let p : List ℕ = payload_in s k in
      let lp : length p ≡ 504 = length-payload_in s k in
      let body : List ℕ = p ++ bytes 4 k in
      let lb : length body ≡ 508 = simp (length-append, lp, length-bytes) in
      let a : ℕ = check_a (λ i. get_or body i 0) in
      let b : ℕ = check_b (λ i. get_or body i 0) in
      let at : (j : ℕ) → j < 512 → f j ≡ get_or (body ++ (bytes 2 a ++ bytes 2 b)) j 0 = λ j l. byte_of k j h l in
      let ext = checks-ext f (λ i. get_or body i 0) (λ j l. at j (omega arith) ∙ get_or-append body (bytes 2 a ++ bytes 2 b) 0 j (rw lb l)) in
      let r₁ : le 4 f 504 ≡ k = le_bytes 4 f 504 k
      (λ i l. at (504 + i) (omega arith) ∙ get_or-append body (bytes 2 a ++ bytes 2 b) 0 (504 + i) (rw lb (omega arith)) ∙ get_or-after p (bytes 4 k) 504 i lp) (omega arith) in
      let r₂ : le 2 f 508 ≡ a = le_bytes 2 f 508 a
      (λ i l. at (508 + i) (omega arith) ∙ get_or-after body (bytes 2 a ++ bytes 2 b) 508 i lb ∙ get_or-append (bytes 2 a) (bytes 2 b) 0 i (rw length-bytes l)) (omega (arith, check_a-lt (λ i. get_or body i 0))) in
      let r₃ : le 2 f 510 ≡ b = le_bytes 2 f 510 b
      (λ i l. let e : 510 + i ≡ 508 + (2 + i) = omega arith in
      at (510 + i) (omega arith) ∙ rw e (get_or-after body (bytes 2 a ++ bytes 2 b) 508 (2 + i) lb) ∙ get_or-after (bytes 2 a) (bytes 2 b) 2 i (length-bytes 2 a)) (omega (arith, check_b-lt (λ i. get_or body i 0))) in
      rw (eq-eqb (le 4 f 504) k r₁, eq-eqb (le 2 f 508) (check_a f) (r₂ ∙ sym ext.0), eq-eqb (le 2 f 510) (check_b f) (r₃ ∙ sym ext.1))

  pub file_of-asked : 0 < length s → blocks ≤ 2 ^ 32 → ask_blocks (file_of s) ≡ Pass
  unfolding ask_blocks wrong_block
  file_of-asked some few =
      let n : length (file_of s) / 512 ≡ blocks = omega (arith, length-file_of) in
      let len = length-file_of in
      let none : first (wrong_block (file_of s)) (length (file_of s) / 512) ≡ None =
      rw n (first-all (wrong_block (file_of s)) blocks (λ k h. ap not (right-file_of few k h))) in
      rw (lt-ltb 0 (length (file_of s)) (omega arith), eq-eqb (length (file_of s) % 512) 0 (omega arith), le-leb (length (file_of s)) 2199023255552 (omega arith), none)

  pub file_of-ends : ends_at (file_of s) (length s) ≡ true
  file_of-ends =
      let len = length-file_of in
      rw (
        eq-eqb (length (file_of s) / 512) blocks (omega arith),
        zero-yes (file_of s) (length s) (λ i a l. payload-file_of i (omega arith) ∙ get_or-eq_default s 0 a),
      )

-- ---- a file that passes its questions

whole_parts : (len : ℕ) → whole_blocks len ≡ true → (0 < len) × (len % 512 ≡ 0) × (len ≤ 2 ^ 41)
whole_parts len w =
    let u = and_cases (ltb 0 len && eqb (len % 512) 0) (leb len 2199023255552) w in
    let v = and_cases (ltb 0 len) (eqb (len % 512) 0) u.0 in
    (ltb-true 0 len v.0, eqb-true (len % 512) 0 v.1, leb-true len 2199023255552 u.1)

pub asked-whole : (file : List ℕ) → ask_blocks file ≡ Pass → (0 < length file) × (length file % 512 ≡ 0) × (length file ≤ 2 ^ 41)
unfolding ask_blocks
asked-whole file p =
    whole_parts (length file) (holds-pass (whole_blocks (length file)) FileLength (both-pass (holds (whole_blocks (length file)) FileLength) (absent (first_wrong file) Block) p).0)

-- the ways to ask
module _ (file : List ℕ) where
  pub asked-16 : not (whole_blocks (length file)) ≡ true → Err FileLength ≡ ask_blocks file
  unfolding ask_blocks
  asked-16 w = rw (not-true (whole_blocks (length file)) w)

  module _ (f : Found) (w : not (whole_blocks (length file)) ≡ false) (e : f ≡ first_wrong file) where
    -- 2^41 bytes are 2^32 blocks
    pub block-fits : (k : ℕ) → f ≡ Some k → k < 2 ^ 32
    block-fits k a =
        let whole = whole_parts (length file) (not-false (whole_blocks (length file)) w) in
        let l = (first_found (wrong_block file) (length file / 512) k (sym e ∙ a)).0 in
        omega arith

    pub asked-17 : (k : ℕ) → f ≡ Some k → Err (Block k) ≡ ask_blocks file
    unfolding ask_blocks
    asked-17 k a = rw (not-false (whole_blocks (length file)) w, ← e, a)

    pub asked-pass : f ≡ None → Pass ≡ ask_blocks file
    unfolding ask_blocks
    asked-pass a = rw (not-false (whole_blocks (length file)) w, ← e, a)

asked-right : (file : List ℕ) → ask_blocks file ≡ Pass → (k : ℕ) → k < length file / 512 → right_block file k ≡ true
unfolding ask_blocks wrong_block
asked-right file p k h =
    not-false (right_block file k) (first-none (wrong_block file) (length file / 512)
    (absent-pass (first_wrong file) Block (both-pass (holds (whole_blocks (length file)) FileLength) (absent (first_wrong file) Block) p).1) k h)

-- a block that is right is the sealed block of its payload
block_back : (file : List ℕ) (k : ℕ) (p : List ℕ) → ((i : ℕ) → get_or file i 0 < 256) → length p ≡ 504 → ((j : ℕ) → j < 504 → get_or p j 0 ≡ byte_from file (512 * k) j)
    → right_block file k ≡ true → (j : ℕ) → j < 512 → get_or (seal_block k p) j 0 ≡ byte_from file (512 * k) j
unfolding seal_block right_block
block_back file k p small lp same t j h =
    let f : ℕ → ℕ = byte_from file (512 * k) in
    let fs : (i : ℕ) → f i < 256 = λ i. small (512 * k + i) in
    let u = and_cases (eqb (le 4 f 504) k && eqb (le 2 f 508) (check_a f)) (eqb (le 2 f 510) (check_b f)) t in
    let v = and_cases (eqb (le 4 f 504) k) (eqb (le 2 f 508) (check_a f)) u.0 in
    let number : le 4 f 504 ≡ k = eqb-true (le 4 f 504) k v.0 in
    let body : List ℕ = p ++ bytes 4 k in
    let lb : length body ≡ 508 = simp (length-append, lp, length-bytes) in
    let in_body : (i : ℕ) → i < 508 → get_or body i 0 ≡ f i = λ i l. elim (dec_lt i 504) [
      | yes x ↦ get_or-append p (bytes 4 k) 0 i (rw lp x) ∙ same i x
      | no x ↦ let e : i ≡ 504 + (i - 504) = omega arith in
          rw e (get_or-after p (bytes 4 k) 504 (i - 504) lp ∙ rw number at (byte_le 4 f 504 fs (i - 504) (omega arith)))
    ] in
    let ext = checks-ext (λ i. get_or body i 0) f in_body in
    let a : ℕ = check_a (λ i. get_or body i 0) in
    let b : ℕ = check_b (λ i. get_or body i 0) in
    let ea : le 2 f 508 ≡ a = eqb-true (le 2 f 508) (check_a f) v.1 ∙ sym ext.0 in
    let eb : le 2 f 510 ≡ b = eqb-true (le 2 f 510) (check_b f) u.1 ∙ sym ext.1 in
    elim (dec_lt j 508) [
      | yes x ↦ get_or-append body (bytes 2 a ++ bytes 2 b) 0 j (rw lb x) ∙ in_body j x
      | no x ↦ elim (dec_lt j 510) [
        | yes y ↦ let e : j ≡ 508 + (j - 508) = omega arith in
            rw e (get_or-after body (bytes 2 a ++ bytes 2 b) 508 (j - 508) lb
            ∙ get_or-append (bytes 2 a) (bytes 2 b) 0 (j - 508) (rw length-bytes (omega arith)) ∙ rw ea at (byte_le 2 f 508 fs (j - 508) (omega arith)))
        | no y ↦ let e : j ≡ 508 + (2 + (j - 510)) = omega arith in
            let e2 : 508 + (2 + (j - 510)) ≡ 510 + (j - 510) = omega arith in
            rw e (get_or-after body (bytes 2 a ++ bytes 2 b) 508 (2 + (j - 510)) lb
            ∙ get_or-after (bytes 2 a) (bytes 2 b) 2 (j - 510) (length-bytes 2 a) ∙ rw (← e2, eb) at (byte_le 2 f 510 fs (j - 510) (omega arith)))
      ]
    ]

-- a file that passes 16 and 17 and ends after size payload bytes is the file of these bytes
pub file-back : (file : List ℕ) (size : ℕ) → ((i : ℕ) → get_or file i 0 < 256) → ask_blocks file ≡ Pass → ends_at file size ≡ true → file_of (payloads file size) ≡ file
file-back file size small p ends =
    let s : List ℕ = payloads file size in
    let ls : length s ≡ size = length-table (payload file) size in
    let u = and_cases (eqb (length file / 512) (blocks_for size)) (zero_from file size) ends in
    let n : length file / 512 ≡ blocks_for size = eqb-true (length file / 512) (blocks_for size) u.0 in
    let whole = asked-whole file p in
    let len : length file ≡ 512 * blocks_for size = omega arith in
    let lf : length (file_of s) ≡ 512 * blocks_for size = rw (length-file_of s, ls) in
    let same : (i : ℕ) → i < room file → get_or s i 0 ≡ payload file i = λ i l. elim (dec_lt i size) [
      | yes x ↦ get_or-table (payload file) size 0 i x
      | no x ↦ get_or-eq_default s 0 (rw ls (omega arith)) ∙ sym (zero-bytes file size u.1 i (omega arith) l)
    ] in
    ext_get_or 0 (file_of s) file (lf ∙ sym len) (λ i l.
    let k : ℕ = i / 512 in
    let j : ℕ = i % 512 in
    let q : i ≡ 512 * k + j = omega arith in
    let hk : k < blocks_for size = omega (arith, rw lf at l) in
    rw q (byte_of s k j (rw ls hk) (omega arith)
    ∙ block_back file k (payload_in s k) small (length-payload_in s k)
    (λ j l. let r : place (504 * k + j) ≡ 512 * k + j = omega arith in
    payload_in-at s k j l ∙ same (504 * k + j) (omega arith) ∙ ap (λ (i : ℕ). get_or file i 0) r)
    (asked-right file p k (omega arith)) j (omega arith)))
