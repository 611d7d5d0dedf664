use Rattle.marks.specs.MergeLaws.{going_start, going-past, parts-kept}
use Rattle.std.specs.Prelude.{min}
use mathlib.Core.Path.{◌≡◌}
use Prim.Native.Nat.{◌+◌, ◌*◌, ◌/◌, ◌≤◌}
use native.Mathlib.Omega.{arith}
use Rattle.marks.proofs.merge_lower.Goals as goal
use Rattle.marks.proofs.merge_lower.Goals.{then-marks-n, else-marks-n}

pub loop-b-init : goal.loop-b-init
loop-b-init c =
    let q : min c.args.k 0 ≡ 0 = omega arith in
    rw q (going_start _ _ _ _ c.requires.blocks)

pub merge_block-count-requires-clause-parts : goal.merge_block-count-requires-clause-parts
merge_block-count-requires-clause-parts c =
    let s = c.args in
    let q = c.requires.bounds in
    let few : c.min-end.result ≤ s.k = omega arith in
    let small : c.min-end.result ≤ s.n = omega (arith, q.0) in
    parts-kept s.n c.min-end.result s.cuts s.runs.now s.index.now s.marks.now c.loop-b.marks q.1 small c.loop-b.invariant.cuts s.k few c.requires.parts

pub loop-b-preserved : goal.loop-b-preserved
loop-b-preserved c =
    let s = c.args in
    let b = c.loop-b.b in
    let now : min s.k (b * 64) ≡ b * 64 = omega arith in
    let g = rw now at c.loop-b.invariant in
    elim c.if-marks-n.branch [
      | then-marks-n w ↦ (let stop : w.min-end.result ≡ min s.k ((b + 1) * 64) = omega arith in
          rw (w.marks-is, w.count-is, ← stop) (w.merge_block-count.ensures s.marks.now g))
      | else-marks-n w ↦ rw (w.marks-is, w.count-is) (going-past _ _ _ _ _ (b * 64) _ s.k _ c.requires.bounds.0 (record {
        above = omega arith;
        within = omega arith;
        none = λ i x y e. let q : i / 64 ≡ b = omega arith in w.if-marks-n.false (rw q at e);
      }) g)
    ]
