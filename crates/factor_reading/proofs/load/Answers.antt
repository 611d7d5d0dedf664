use native.Mathlib.Omega.{arith}
use Rattle.factor_reading.proofs.ReadLaws.{loaded}
use Rattle.factor_reading.proofs.load.Goals as goal

pub load_side-requires : goal.load_side-requires
load_side-requires c =
    let o = c.offsets_of-at.ensures in
    let h = c.requires in
    (omega (arith, h.0.inside, h.1.lower-starts-size), omega (arith, h.0.inside, o.1), omega (arith, h.0.inside, o.3), h.1.lower-index-size, h.1.lower-values-size)

pub load_side-requires-2 : goal.load_side-requires-2
load_side-requires-2 c =
    let o = c.offsets_of-at.ensures in
    let h = c.requires in
    (omega (arith, h.0.inside, h.1.upper-starts-size, o.0), omega (arith, h.0.inside, o.2), omega (arith, h.0.inside, o.5), h.1.upper-index-size, h.1.upper-values-size)

pub load_rest-requires : goal.load_rest-requires
load_rest-requires c =
    let o = c.offsets_of-at.ensures in
    let h = c.requires in
    (omega (arith, h.0.inside, h.1.d-size, o.4), omega (arith, h.0.inside, h.1.r-size, o.6, o.7), omega (arith, h.0.inside, h.1.c-size, o.6, o.7))

pub returns : goal.returns
returns c =
    let o = c.offsets_of-at.ensures in
    let h = c.requires in
    let a = c.load_side.ensures in
    let b = c.load_side-2.ensures in
    let f = c.load_rest.ensures in
    loaded _ _ _ _ _ _ _ _ _ _ _ _ o.0 o.1 o.2 o.3 o.4 o.5 o.6 o.7 _ _ _ _ _ _ _ _ _ _ h.1 a.0 a.1 a.2 b.0 b.1 b.2 f.0 f.1 f.2
