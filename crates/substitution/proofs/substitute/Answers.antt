use lib.ListN.{drop}
use Rattle.base.specs.Scratch.{z_from}
use Rattle.substitution.specs.EndLaws.{asked-13}
use Rattle.substitution.proofs.substitute.Goals as goal

pub overflow_of-requires : goal.overflow_of-requires
overflow_of-requires c =
    (c.requires.ready.few, c.solve_rows-a.ensures.1)

pub returns : goal.returns
returns c =
    asked-13 _ (drop (z_from c.args.n) c.solve_rows-a.new.work) c.solve_rows-a.result c.overflow_of.result c.solve_rows-a.ensures.0 c.overflow_of.ensures
