use Rattle.numeric.proofs.Turns.{scratch-turn, scratch-stop, back_end}
use lib.Seq.{take-set-le}
use Prim.Native.Nat.{◌-◌, ◌+◌}
use mathlib.Core.Path.{refl, sym, ◌∙◌}
use native.Mathlib.Omega.{arith}
use Rattle.base.specs.Scratch.{z_from}
use Rattle.numeric.proofs.back_steps.Goals as goal

pub returns-then-not-is_finite : goal.returns-then-not-is_finite
returns-then-not-is_finite c =
    let l = c.loop-k in
    let a = c.args in (
      sym (scratch-stop a.n l.k (l.k - 1) a.starts.now a.runs.now a.upper.now a.u.now a.f.now l.f c.back_at-t.result
          (omega arith) (omega arith) l.invariant.1 (c.requires.2 (l.k - 1) (omega arith)) c.back_at-t.ensures (sym c.is_finite.ensures ∙ c.if-not-is_finite.true)) ∙ l.invariant.2,
      l.invariant.1,
    )

pub loop-k-preserved : goal.loop-k-preserved
loop-k-preserved c =
    let l = c.loop-k in
    let a = c.args in (
      refl,
      take-set-le (z_from a.n) l.f (z_from a.n + (l.k - 1)) c.back_at-t.result (omega arith) ∙ l.invariant.1,
      scratch-turn a.n l.k (l.k - 1) a.starts.now a.runs.now a.upper.now a.u.now a.f.now l.f c.back_at-t.result
          (omega arith) (omega arith) l.invariant.1 (c.requires.2 (l.k - 1) (omega arith)) c.back_at-t.ensures (sym c.is_finite.ensures ∙ c.if-not-is_finite.false) ∙ l.invariant.2,
    )

pub returns : goal.returns
returns c =
    let l = c.loop-k in
    (sym (back_end _ l.k _ (omega arith)) ∙ l.invariant.2, l.invariant.1)
