use Rattle.printing.specs.Prints.{then-prints}
use Rattle.printing.specs.Print.{hexadecimal, bits_end}
use Rattle.printing.proofs.Laws.{digits-length}
use native.Mathlib.Omega.{arith}
use Rattle.printing.proofs.Printer.bits.Goals as goal

pub text-requires-2 : goal.text-requires-2
text-requires-2 c = (omega (arith, c.text.ensures.written.next, c.digits.ensures.written.next, digits-length 16 16 c.args.bits, c.requires), omega arith)

pub returns : goal.returns
unfolding bits_end hexadecimal
returns c = then-prints (then-prints c.text.ensures c.digits.ensures) c.text-2.ensures
