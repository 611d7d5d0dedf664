use Rattle.numeric.specs.StoreLaws.{ready}
use lib.Seq.{length-take-le}
use native.Mathlib.Omega.{arith}
use Rattle.numeric.proofs.subtract_row.Goals as goal

pub axpy-requires : goal.axpy-requires
axpy-requires c =
    let a = c.args in
    let s = c.requires in
    let r = ready a.n a.i a.starts.now a.runs.now a.upper.now a.u.now _ _ s.2 s.0 c.list_at-above.ensures c.values_at-us.ensures in
    (r.0, rw (length-take-le a.n a.f.now (omega (arith, s.1))) r.1)
