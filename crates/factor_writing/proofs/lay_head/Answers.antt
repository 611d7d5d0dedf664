use native.Mathlib.Omega.{arith}
use Rattle.factor_writing.proofs.WriteLaws.{laid-head, none-laid}
use Rattle.factor_writing.proofs.lay_head.Goals as goal

pub returns : goal.returns
returns c =
    (omega arith, laid-head _ _ _ _ _ _ _ _ _ (none-laid c.args.file.now) c.put_number-at.ensures.1 c.put_number-at-2.ensures.1 c.put_number-at-3.ensures.1 c.put_number.ensures.1)
