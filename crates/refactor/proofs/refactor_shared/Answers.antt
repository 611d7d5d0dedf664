use Rattle.refactor.proofs.refactor_shared.Goals as goal

pub refactor_in-requires : goal.refactor_in-requires
refactor_in-requires c = (tt, tt)

pub shape_of-lower_values : goal.shape_of-lower_values
shape_of-lower_values c = c.refactor_in.auto.lower_values

pub shape_of-upper_values : goal.shape_of-upper_values
shape_of-upper_values c = c.refactor_in.auto.upper_values

pub shape_of-d : goal.shape_of-d
shape_of-d c = c.refactor_in.auto.d

pub shape_of-x : goal.shape_of-x
shape_of-x c = c.refactor_in.auto.x

pub shape_of-work : goal.shape_of-work
shape_of-work c = c.refactor_in.auto.work

pub shape_of-marks : goal.shape_of-marks
shape_of-marks c = c.refactor_in.auto.marks

pub returns : goal.returns
returns c = c.refactor_in.ensures
