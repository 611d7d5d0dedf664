use Rattle.symbolic.proofs.Starts.{begun-of, columns-begun}
use Rattle.columns.proofs.Stored.{given-sound}
use Rattle.matrix.specs.Input.{Input, lent_pattern}
use Rattle.symbolic.proofs.begin_columns.Goals as goal
use Rattle.symbolic.proofs.begin_columns.Goals.{Start}

abbrev given : Start → Input
given s = lent_pattern s.args.input

pub start_columns-requires : goal.start_columns-requires
start_columns-requires c =
    let b = begun-of (given (goal.at.start_columns-requires c).Start) _ _ c.requires c.begin_marks.ensures in
    given-sound (given (goal.at.start_columns-requires c).Start) _ b.sound b.inverse b.space

pub returns : goal.returns
returns c = columns-begun (given (goal.at.returns c).Start) _ _ _ c.requires c.begin_marks.ensures c.start_columns.ensures
