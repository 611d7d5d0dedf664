use Prim.Native.Nat.{◌*◌}
use lib.Seq.{sets}
use lib.ListN.{length}
use mathlib.Core.Path.{◌∙◌, ap}
use native.Mathlib.Omega.{arith}
use Rattle.factor.proofs.lower_plain.Goals as goal

pub copy_list-requires : goal.copy_list-requires
copy_list-requires c =
    omega (arith, c.requires.1.room, ap length c.list_at-list.ensures)

pub returns : goal.returns
returns c =
    let l = c.list_at-list.ensures in
    (ap length l, c.copy_list.ensures ∙ ap (sets c.args.marks.now (5 * c.args.n)) l)
