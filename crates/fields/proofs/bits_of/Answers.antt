use mathlib.Core.Path.{sym, ap, ◌∙◌}
use lib.Ieee.{binary64, to_bits}
use Rattle.fields.proofs.FloatLaws.{ne-nan, no_nan, to_bits_nan}
use Rattle.fields.proofs.bits_of.Goals as goal

pub returns-then-x : goal.returns-then-x
returns-then-x c = sym (ap (to_bits binary64) (ne-nan _ c.if-x.true) ∙ to_bits_nan)

pub float_to_bits-result : goal.float_to_bits-result
float_to_bits-result c = no_nan _ c.if-x.false
