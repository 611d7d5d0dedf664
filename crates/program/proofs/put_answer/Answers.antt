use Rattle.program.proofs.Laws.{done-lines, refused-lines}
use Rattle.program.proofs.put_answer.Goals as goal

pub returns-in-Ok : goal.returns-in-Ok
returns-in-Ok c = done-lines _ _ _ _ c.requires.0 c.in-Ok.is c.requires.2 c.counts.ensures c.put_values.ensures

pub returns-in-Err : goal.returns-in-Err
returns-in-Err c = refused-lines _ _ _ _ _ _ c.requires.0 c.in-Err.is c.number.ensures c.place.ensures c.refused.ensures
