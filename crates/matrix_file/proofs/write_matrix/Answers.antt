use mathlib.Core.Path.{sym, ◌∙◌}
use Rattle.base.specs.FirstLaws.{passed-on}
use Rattle.matrix_file.specs.MatrixFile.{ask_write}
use Rattle.matrix_file.proofs.CallLaws.{write-stop, write_done}
use Rattle.matrix_file.proofs.write_matrix.Goals as goal

pub store-requires : goal.store-requires
unfolding ask_write
store-requires c = sym c.ask_write.ensures ∙ c.in_ok-ask_write.was

pub returns-in_err-ask_write : goal.returns-in_err-ask_write
unfolding ask_write
returns-in_err-ask_write c = rw (passed-on _ _ c.from_residual.ensures.1) (write-stop _ _ _ c.ask_write.ensures _ c.in_err-ask_write.was)

pub returns : goal.returns
unfolding ask_write
returns c = write_done _ _ _ c.ask_write.ensures _ c.in_ok-ask_write.was c.store.ensures
