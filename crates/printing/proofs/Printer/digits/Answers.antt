use Rattle.std.proofs.Common.{refl, ◌∙◌, arith}
use native.Mathlib.Nat.{mod-lt}
use Rattle.printing.proofs.Laws.{digits-turn, digits-none, digits-length}
use Rattle.printing.proofs.Printer.digits.Goals as goal

pub digit_of-requires : goal.digit_of-requires
digit_of-requires c =
    let p = c.requires in
    omega (arith, p, mod-lt c.loop-i.rest {m = c.args.base} (omega (arith, p)))

pub loop-i-preserved : goal.loop-i-preserved
loop-i-preserved c =
    rw (c.put.ensures, c.digit_of.ensures) (digits-turn c.loop-i.out _ _ c.loop-i.i c.loop-i.rest (omega arith)) ∙ c.loop-i.invariant

pub returns : goal.returns
returns c = record { same = refl; written = record { exit = digits-none _ _ _ _ c.loop-i.i (omega arith) ∙ c.loop-i.invariant; next = rw digits-length } }
