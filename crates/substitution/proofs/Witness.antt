-- What the functions require is met by computed values: one place with empty lists, in the shared form, as question 15 passes it.
use mathlib.Core.Path.{refl}
use mathlib.Core.List.{[], ◌∷◌}
use Prim.Native.Nat.{zero, suc}
use native.Mathlib.Omega.{arith}
use Rattle.base.specs.declared.Form.TheVariants.{Shared}
use Rattle.outcome.specs.Buffers.{side_buffers}
use Rattle.factors.specs.PresentedLaws.{lower-sound, upper-sound}
use Rattle.factors.proofs.Witness.{starts, runs, d, shared, passed}
use Rattle.substitution.specs.Sweep.{Ready, Solvable}

pub ready : Ready Shared 1 starts runs [] 0 1 3
ready = record { few = omega arith; sound = lower-sound Shared 1 starts runs [] [] starts runs [] [] d passed shared.lower; reciprocals = refl; scratch = refl }

pub solvable : Solvable Shared 1 (0 ∷ []) d (side_buffers starts runs [] []) (side_buffers starts runs [] []) 1 3
solvable = record {
  ready = ready;
  lower-runs = tt;
  upper-runs = tt;
  upper = (upper-sound Shared 1 starts runs [] [] starts runs [] [] d passed shared.upper).shape;
  right = record { few = omega arith; row-order = refl; rows = elim [ zero ↦ (λ h. omega arith) | suc p ↦ (λ h. absurd (omega arith)) ] };
  fine = elim [ zero ↦ (λ h. refl) | suc p ↦ (λ h. absurd (omega arith)) ];
}
