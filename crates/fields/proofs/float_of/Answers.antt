use mathlib.Core.Path.{sym}
use lib.Ieee.{div, of_bits}
use Rattle.fields.proofs.FloatLaws.{above-nan, not-above}
use Rattle.fields.proofs.float_of.Goals as goal

pub float_from_bits-result : goal.float_from_bits-result
float_from_bits-result c = rw (not-above _ c.if-n-gt9218868437227405312.false) tt

pub returns-then-n-gt9218868437227405312 : goal.returns-then-n-gt9218868437227405312
unfolding div of_bits
returns-then-n-gt9218868437227405312 c = sym (above-nan _ c.if-n-gt9218868437227405312.true)
