use native.Mathlib.Omega.{arith}
use Rattle.factor_contents.proofs.JudgingLaws.{good-falls, good-outside, within, good-aside, good-values}
use Rattle.factor_contents.proofs.side_good.Goals as goal

pub returns-then-hi-lo : goal.returns-then-hi-lo
returns-then-hi-lo c =
    good-falls _ _ _ _ _ _ _ _ _ _ _ (omega arith) c.start_at-begin.ensures.0 c.start_at-lo.ensures.0 c.start_at-hi.ensures.0 c.if-hi-lo.true

pub returns-then-k-begin : goal.returns-then-k-begin
returns-then-k-begin c =
    good-outside _ _ _ _ _ _ _ _ _ _ _ (omega arith) c.start_at-begin.ensures.0 c.start_at-lo.ensures.0 c.start_at-hi.ensures.0 c.if-hi-lo.false c.if-k-begin.true

pub on_side-requires : goal.on_side-requires
on_side-requires c =
    let a = c.args in
    let h = within a.k c.start_at-begin.result a.entries c.start_at-hi.result c.if-k-begin.false in
    (omega arith, omega arith)

pub finite_at-requires : goal.finite_at-requires
finite_at-requires c =
    let a = c.args in
    let h = within a.k c.start_at-begin.result a.entries c.start_at-hi.result c.if-k-begin.false in
    omega arith

pub returns-then-on_side : goal.returns-then-on_side
returns-then-on_side c =
    good-values _ _ _ _ _ _ _ _ _ _ _ (omega arith) c.start_at-begin.ensures.0 c.start_at-lo.ensures.0 c.start_at-hi.ensures.0
    c.if-hi-lo.false c.if-k-begin.false _ c.on_side.ensures _ c.finite_at.ensures c.if-on_side.true

pub returns : goal.returns
returns c =
    good-aside _ _ _ _ _ _ _ _ _ _ _ (omega arith) c.start_at-begin.ensures.0 c.start_at-lo.ensures.0 c.start_at-hi.ensures.0
    c.if-hi-lo.false c.if-k-begin.false _ c.on_side.ensures c.if-on_side.false
