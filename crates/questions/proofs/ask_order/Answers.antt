use Rattle.questions.specs.MarkingLaws.{unmarked-blank}
use Rattle.questions.specs.AskLaws.{found_below, order-stop, order-pass}
use native.Mathlib.Omega.{arith}
use borrow.Author.Rules.{rules}
use Rattle.questions.proofs.ask_order.Goals as goal

pub first_fault-requires : goal.first_fault-requires
first_fault-requires c = unmarked-blank _ _ _ (search rules) c.clear.ensures

pub overflow_add-result : goal.overflow_add-result
overflow_add-result c = omega (arith, found_below _ _ _ _ c.first_fault.ensures c.in-Some.is, c.requires)

pub overflow_cast-result : goal.overflow_cast-result
overflow_cast-result c = omega (arith, found_below _ _ _ _ c.first_fault.ensures c.in-Some.is, c.requires)

pub returns-in-Some : goal.returns-in-Some
returns-in-Some c = order-stop _ _ _ _ _ c.requires.size c.first_fault.ensures c.in-Some.is

pub returns-in-None : goal.returns-in-None
returns-in-None c = order-pass _ _ _ _ c.requires.size c.first_fault.ensures c.in-None.is
