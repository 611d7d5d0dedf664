use Rattle.factor_contents.proofs.lengths_fit.Goals as goal

pub returns : goal.returns
returns c = rw (← c.side_fits-below.ensures, ← c.side_fits-above.ensures)
