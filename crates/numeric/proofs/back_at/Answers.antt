use Rattle.numeric.proofs.Turns.{tail-length}
use Rattle.numeric.specs.StoreLaws.{ready}
use Rattle.numeric.proofs.back_at.Goals as goal

pub subtract_products-requires : goal.subtract_products-requires
subtract_products-requires c =
    let a = c.args in
    let r = ready a.n a.k a.starts.now a.runs.now a.upper.now a.u.now _ _ c.requires.2 c.requires.0 c.list_at-above.ensures c.values_at-us.ensures in
    (r.0, rw (tail-length a.f.now a.n c.requires.1) r.1)
