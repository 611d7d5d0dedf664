-- The two statements over what the call answers. Definitions only.
use Rattle.std.specs.Prelude.{◌+◌, ◌*◌, ◌^◌, ◌≤◌, ◌≡◌, List, length, Float}
use Rattle.base.specs.declared.OwnNumber.{OwnNumber}
use Rattle.matrix.specs.Input.{Input}
use Rattle.rounding.specs.Values.{Within, fine, over, ulps, unit}
use Rattle.residual.specs.Residual.{Entry, exact_from, sum_from}
use Rattle.residual.specs.Answer.{number_of_checked, residual_in, width_in, right_of, entries_of, checked}
use Rattle.residual.specs.declared.Checked.{Checked}

-- of the residual r and the width w of a row, in units of 2^-2148. A width below zero would keep nothing: `over` counts none of it
pub record Kept (b : Float) (l : List Entry) (r w : Float) : Type 0 where
  -- "The exact residual of the stored entries lies within the width of the returned one."
  pub near : Within (exact_from (fine b) l) (fine r) 1 (over w * unit)
  -- "the width is at most (2q + 10)·S/2^53 + (2q + 4)/2^1074"
  pub most : ulps w * unit * 2 ^ 53 ≤ (2 * length l + 10) * sum_from (ulps b * unit) l + (2 * length l + 4) * (unit * 2 ^ 53)

-- both statements, of an answer that is a pair
unfoldable pub KeptBy : Input → List Float → OwnNumber → Checked → Type 0
KeptBy i x k a = number_of_checked a ≡ 0 → Kept (right_of i k) (entries_of i x k) (residual_in a) (width_in a)

-- what the call answers, and that both statements hold of every pair that it gives
pub record Promised (i : Input) (x : List Float) (k : OwnNumber) (a : Checked) : Type 0 where
  pub is : a ≡ checked i x k
  pub kept : KeptBy i x k a
