use Rattle.symbolic.proofs.Keeping.{adding-countable, products-next, products-small}
use mathlib.Core.Path.{refl}
use native.Mathlib.Omega.{arith}
use Rattle.symbolic.proofs.add_products.Goals as goal

pub row_products-requires : goal.row_products-requires
row_products-requires c = adding-countable c.requires.adding _ refl

pub overflow_add-result : goal.overflow_add-result
overflow_add-result c = omega (arith, products-small c.requires.adding _ c.row_products.ensures)

pub returns : goal.returns
returns c = λ P k runs index a. products-next a _ c.row_products.ensures
