use borrow.Author.Rules.{rules}
use Rattle.printing.specs.Prints.{from-start}
use Rattle.program.proofs.solve_file.Goals as goal

pub returns : goal.returns
returns c = (from-start c.put_file.ensures.prints c.new-printer.ensures.start (search rules), c.put_file.ensures.most)
