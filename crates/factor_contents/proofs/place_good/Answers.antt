use native.Mathlib.Omega.{arith}
use Rattle.factor_contents.proofs.JudgingLaws.{place_is, pivot-is}
use Rattle.factor_contents.proofs.place_good.Goals as goal

pub side_good-below-requires : goal.side_good-below-requires
side_good-below-requires c =
    let h = c.requires in
    let o = c.offsets_of-at.ensures in
    (h.0, record { few = h.1.few; starts-in = omega (arith, h.1.inside); index_in = omega (arith, h.1.inside, o.1); values-in = omega (arith, h.1.inside, o.3) })

pub side_good-above-requires : goal.side_good-above-requires
side_good-above-requires c =
    let h = c.requires in
    let o = c.offsets_of-at.ensures in
    (h.0, record { few = h.1.few; starts-in = omega (arith, h.1.inside, o.0); index_in = omega (arith, h.1.inside, o.2); values-in = omega (arith, h.1.inside, o.5) })

pub number_at-requires : goal.number_at-requires
number_at-requires c =
    let h = c.requires in
    (omega arith, omega (arith, h.0, h.1.inside, c.offsets_of-at.ensures.4))

pub returns : goal.returns
returns c =
    let o = c.offsets_of-at.ensures in
    place_is _ _ _ _ _ _ _ _ _ _ _ _ _ _ o.0 o.1 o.2 o.3 o.4 o.5 c.side_good-below.ensures c.side_good-above.ensures
    (pivot-is _ _ _ _ _ _ _ (omega arith) c.number_at.ensures.0 c.float_of-x.ensures c.is_finite-pivot.ensures)
