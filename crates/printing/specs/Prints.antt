-- A printer before and after it printed some bytes.
use Rattle.std.specs.Prelude.{◌≡◌, List, [], ◌++◌, ℕ}
use Rattle.std.proofs.Common.{refl, sym, add-zero, ◌∙◌}
use Rattle.printing.specs.declared.Printer.{Printer}
use Rattle.printing.specs.Written.{Written, then-written}

-- the bytes stand in the same buffer, behind what it held
pub record Prints (bytes : List ℕ) (p q : Printer) : Type 0 where
  pub same : q.out.ghost_name ≡ p.out.ghost_name
  pub written : Written bytes p.out.now p.at q.out.now q.at

pub prints-none : (p : Printer) → Prints [] p p
prints-none p = record { same = refl; written = record { exit = refl; next = sym (add-zero p.at) } }

-- one piece after another
pub then-prints : {a b : List ℕ} {p q r : Printer} → Prints a p q → Prints b q r → Prints (a ++ b) p r
then-prints h g = record { same = g.same ∙ h.same; written = then-written _ _ _ _ _ _ _ _ h.written g.written }

-- a buffer o that a printer wrote from its start, and what it became
pub from-start : {bytes o o' : List ℕ} {p q : Printer} → Prints bytes p q → (p.out.now ≡ o) × (p.at ≡ 0) → o' ≡ q.out.now → Written bytes o 0 o' q.at
from-start h s e = rw (e, ← s.0, ← s.1) h.written
