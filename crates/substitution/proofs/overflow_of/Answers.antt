use Prim.Native.Nat.{◌<◌}
use native.Mathlib.Omega.{arith}
use borrow.Author.Rules.{rules}
use Rattle.substitution.specs.EndLaws.{stop-below, asked-as}
use Rattle.substitution.proofs.overflow_of.Goals as goal

pub map_err-requires : goal.map_err-requires
map_err-requires c = λ k e.
    let b : k < 4294967296 = omega (arith, c.requires.0, stop-below c.args.n k c.args.a e c.requires.1) in
    search rules

pub returns : goal.returns
returns c = asked-as c.args.a c.map_err.result (λ k q h. search rules) c.map_err.ensures.cases c.map_err.ensures.variant
