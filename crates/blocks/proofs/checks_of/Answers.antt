use Rattle.std.proofs.Common.{◌≡◌, ◌+◌, ◌<◌, arith}
use Rattle.blocks.specs.Blocks.{byte_from}
use Rattle.blocks.proofs.CheckLaws.{run-start, run_more, run_end, length-summed, summed-byte}
use Rattle.blocks.proofs.checks_of.Goals as goal

-- the byte of this turn
byte : (c : goal.After-from-a) → (c.loop-x.x-index < 508) × (c.from-a.result ≡ byte_from c.args.file.now c.args.from c.loop-x.x-index) × (c.from-a.result < 256)
byte c =
    let i : c.loop-x.x-index < 508 = rw (length-summed c.args.file.now c.args.from c.requires) at c.loop-x-test.true in
    let e = summed-byte c.args.file.now c.args.from c.loop-x.x-index c.from-a.result i c.from-a.ensures in
    (i, e, omega (arith, e, c.type_inv.file (c.args.from + c.loop-x.x-index)))

pub loop-x-init : goal.loop-x-init
loop-x-init c = run-start _

pub overflow_add-a : goal.overflow_add-a
overflow_add-a c = omega (arith, (byte c).0, (byte c).2, c.loop-x.invariant.a_small)

pub overflow_add-b : goal.overflow_add-b
overflow_add-b c = omega (arith, (byte c).0, (byte c).2, c.loop-x.invariant.a_small, c.loop-x.invariant.b-small)

pub loop-x-preserved : goal.loop-x-preserved
loop-x-preserved c = run_more _ _ _ _ _ (byte c).0 (byte c).1 (byte c).2 c.loop-x.invariant

pub returns : goal.returns
returns c = run_end _ _ _ _ (omega (arith, length-summed c.args.file.now c.args.from c.requires)) c.loop-x.invariant
