-- "Blocks of 512 bytes: payload 504, block number from 0 in 4, check A in 2, check B in 2." Definitions only.
use Rattle.std.specs.Prelude.{Bool, not, ◌&&◌, List, ◌++◌, ℕ, ◌+◌, ◌-◌, ◌*◌, ◌/◌, ◌%◌, length, get_or, take, drop, eqb, leb, ltb}
use Rattle.base.specs.Lists.{sum, joined, padded}
use Rattle.base.specs.First.{first}
use Rattle.base.specs.Answers.{holds, absent, and_then, Found, Asked}
use Rattle.base.specs.declared.Refusal.TheVariants.{FileLength, Block}
use Rattle.fields.specs.Numbers.{le, bytes}
use Rattle.fields.specs.Payload.{zero_from}

-- the bytes of a file from a place on
abbrev pub byte_from : List ℕ → ℕ → ℕ → ℕ
byte_from file from i = get_or file (from + i) 0

-- "A = sum of bytes 0 to 507; B = sum of (508 − i) times byte i over the same; both modulo 65,521": f i is byte i of the block
unfoldable pub check_a : (ℕ → ℕ) → ℕ
check_a f = sum 508 f % 65521

unfoldable pub check_b : (ℕ → ℕ) → ℕ
check_b f = sum 508 (λ i. (508 - i) * f i) % 65521

-- "Number and both checks of every block right?"
abbrev pub right_at : (ℕ → ℕ) → ℕ → Bool
right_at f k = eqb (le 4 f 504) k && eqb (le 2 f 508) (check_a f) && eqb (le 2 f 510) (check_b f)

unfoldable pub right_block : List ℕ → ℕ → Bool
right_block file k = right_at (byte_from file (512 * k)) k

unfoldable pub wrong_block : List ℕ → ℕ → Bool
wrong_block file k = not (right_block file k)

-- "first block at fault"
abbrev pub first_wrong : List ℕ → Found
first_wrong file = first (wrong_block file) (length file / 512)

-- "Length a positive multiple of 512, at most 2^41?"
abbrev pub whole_blocks : ℕ → Bool
whole_blocks len = ltb 0 len && eqb (len % 512) 0 && leb len 2199023255552

-- 16 and 17
unfoldable pub ask_blocks : List ℕ → Asked
ask_blocks file = and_then (holds (whole_blocks (length file)) FileLength) (absent (first_wrong file) Block)

-- ---- the file of a stream of payload bytes

-- the block of a payload: its number, and the checks of both
unfoldable pub seal_block : ℕ → List ℕ → List ℕ
seal_block k p =
    let body = p ++ bytes 4 k in
    body ++ (bytes 2 (check_a (λ i. get_or body i 0)) ++ bytes 2 (check_b (λ i. get_or body i 0)))

-- block k's part of a stream, "then zeros to the block's end"
abbrev pub payload_in : List ℕ → ℕ → List ℕ
payload_in s k = padded 0 504 (take 504 (drop (504 * k) s))

abbrev pub blocks_for : ℕ → ℕ
blocks_for size = (size + 503) / 504

unfoldable pub file_of : List ℕ → List ℕ
file_of s = joined (λ k. seal_block k (payload_in s k)) (blocks_for (length s))

-- "the block count and closing zeros as n and e demand"
abbrev pub ends_at : List ℕ → ℕ → Bool
ends_at file size = eqb (length file / 512) (blocks_for size) && zero_from file size

-- ---- a file whose blocks get their numbers and checks

-- the payload of block k of a file
abbrev pub payload_of : List ℕ → ℕ → List ℕ
payload_of file k = take 504 (drop (512 * k) file)

-- every whole block sealed, and what is past them
unfoldable pub sealed : List ℕ → List ℕ
sealed file = joined (λ k. seal_block k (payload_of file k)) (length file / 512) ++ drop (512 * (length file / 512)) file
