use mathlib.Core.Path.{◌≡◌}
use borrow.Author.Tests.{ltb-true, ltb-false}
use lib.Dec.{ltb}
use Prim.Native.Nat.{ℕ, ◌+◌, ◌*◌, ◌/◌, ◌<◌}
use Rattle.base.specs.Tests.{by-test}
use Rattle.printing.specs.Print.{digit}
use native.Mathlib.Omega.{arith}
use Rattle.printing.proofs.digit_of.Goals as goal

by-arithmetic : (d : ℕ) → d < 16 → 48 + d + 7 * ((d + 6) / 16) ≡ digit d
unfolding digit
by-arithmetic d h =
    by-test (ltb d 10) (λ t. let l = ltb-true d 10 t in rw t (omega arith)) (λ t. let l = ltb-false d 10 t in rw t (omega arith))

pub returns : goal.returns
returns c = by-arithmetic c.args.d c.requires
