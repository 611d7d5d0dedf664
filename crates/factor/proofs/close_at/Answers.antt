use Rattle.numeric.specs.Rows.{Shut}
use Rattle.numeric.specs.Stores.{Closable}
use Rattle.base.specs.Lists.{list_at}
use Prim.Native.Nat.{ℕ}
use lib.ListN.{length}
use mathlib.Core.List.{List}
use mathlib.Core.Path.{sym, subst}
use Rattle.factor.proofs.close_at.Goals as goal

pub close_row-requires : goal.close_row-requires
close_row-requires c =
    let a = c.args in
    subst (λ (l : List ℕ). Closable a.n a.k.0 (length a.work.now) l a.lists.upper_starts.now a.lists.upper_runs.now a.lists.upper_index.now (length a.d.now))
    (sym c.lower_part-lower.ensures) c.requires.1

pub returns : goal.returns
returns c =
    let a = c.args in
    subst (λ (l : List ℕ). Shut a.n a.k.0 l (list_at a.lists.upper_starts.now a.lists.upper_runs.now a.lists.upper_index.now a.k.0) a.work.now c.close_row.new.f
    a.d.now c.close_row.new.d a.t) c.lower_part-lower.ensures c.close_row.ensures
