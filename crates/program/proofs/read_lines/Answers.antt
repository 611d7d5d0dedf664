use Rattle.program.proofs.Laws.{read-input, read-lines}
use Rattle.program.proofs.read_lines.Goals as goal

pub returns : goal.returns
returns c = read-lines _ _ (read-input _ _ _ _ _ _ _ _ _ _ c.requires.2 c.read_matrix.ensures) c.solve_lines.ensures
