use Rattle.capi.proofs.lp_factor_shape.Goals as goal

pub returns : goal.returns
returns c = rw (← c.factor_file_shape-a.ensures) c.put_kept.ensures
