-- Bytes written into a lent buffer from a place on, as far as it goes, and the place after them.
use Rattle.std.specs.Prelude.{◌≡◌, List, [], ◌∷◌, ◌++◌, ℕ, suc, ◌+◌, length, set}
use Rattle.std.proofs.Common.{◌∙◌, add-zero, arith, length-append}
use Rattle.std.proofs.lemmas.List.Edits.{sets}

-- no place that is written to lies farther: places and what is added to them stay within 64 bits
abbrev pub farthest : ℕ
farthest = 1099511627776

pub record Written (bytes out : List ℕ) (at : ℕ) (out' : List ℕ) (r : ℕ) : Type 0 where
  pub exit : out' ≡ sets out at bytes
  pub next : r ≡ at + length bytes

pub sets-append : (l : List ℕ) (i : ℕ) (vs ws : List ℕ) → sets (sets l i vs) (i + length vs) ws ≡ sets l i (vs ++ ws)
sets-append l i [] ws = rw add-zero
sets-append l i (v ∷ vs) ws =
    let e : i + suc (length vs) ≡ suc i + length vs = omega arith in
    rw e (sets-append (set l i v) (suc i) vs ws)

-- one piece after another
pub then-written : (a b o : List ℕ) (at : ℕ) (p : List ℕ) (x : ℕ) (q : List ℕ) (y : ℕ) → Written a o at p x → Written b p x q y → Written (a ++ b) o at q y
then-written a b o at p x q y h g =
    record {
      exit = g.exit ∙ rw (h.exit, h.next) (sets-append o at a b);
      next = omega (arith, h.next, g.next, length-append a b);
    }
