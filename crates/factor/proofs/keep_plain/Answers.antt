use Rattle.factor.proofs.Parts.{keep-ready}
use mathlib.Core.Path.{sym, ◌∙◌, ap₂}
use lib.Seq.{length-take-le, sets}
use Rattle.numeric.specs.Stores.{gathered}
use Prim.Native.Nat.{ℕ}
use lib.ListN.{length, take}
use mathlib.Core.List.{List}
use Rattle.factor.proofs.keep_plain.Goals as goal

pub slice_bounds-keep_by_rows-end : goal.slice_bounds-keep_by_rows-end
slice_bounds-keep_by_rows-end c =
    sym (length-take-le c.args.n c.args.work.now c.requires.1.row)

pub keep_by_rows-requires : goal.keep_by_rows-requires
keep_by_rows-requires c =
    let a = c.args in
    keep-ready a.n a.k.0 a.below a.lower_starts.now (length a.lower_values.now) a.work.now a.marks.now c.slot-from.result c.lower_part-lower.result.now
    c.slot-from.ensures.0 c.lower_part-lower.ensures c.requires.0 c.requires.1

pub returns : goal.returns
returns c =
    let a = c.args in
    c.keep_by_rows.ensures
    ∙ ap₂ (λ (m : ℕ) (l : List ℕ). sets a.lower_values.now m (gathered l (take a.n a.work.now))) c.slot-from.ensures.0 c.lower_part-lower.ensures
