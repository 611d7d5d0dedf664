use mathlib.Core.Bool.{true, false}
use native.Mathlib.Omega.{arith}
use Rattle.base.specs.FirstLaws.{passed-on}
use Rattle.outcome.proofs.Making.{made-few, made-stop, made-on}
use Rattle.residual.specs.Answer.{ask_sizes}
use Rattle.residual.proofs.Asking.{e-first}
use Rattle.residual.proofs.ask_sizes.Goals as goal

pub returns-in_err-new : goal.returns-in_err-new
unfolding ask_sizes
returns-in_err-new c =
    let a = c.args in
    rw (passed-on _ _ c.from_residual.ensures.1) (made-stop _ _ _ _ c.new.ensures _ c.in_err-new.was _ (e-first a.n a.starts a.columns a.values a.b a.x))

pub overflow_add-n : goal.overflow_add-n
overflow_add-n c = let l = made-few _ _ _ _ c.new.ensures c.in_ok-new.was in omega (arith, l)

pub returns-then-starts-n : goal.returns-then-starts-n
unfolding ask_sizes
returns-then-starts-n c =
    let a = c.args in
    made-on _ _ _ _ c.new.ensures _ c.in_ok-new.was _ true (e-first a.n a.starts a.columns a.values a.b a.x) c.if-starts-n.true

pub returns : goal.returns
unfolding ask_sizes
returns c =
    let a = c.args in
    made-on _ _ _ _ c.new.ensures _ c.in_ok-new.was _ false (e-first a.n a.starts a.columns a.values a.b a.x) c.if-starts-n.false
