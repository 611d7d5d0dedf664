use Rattle.factor.specs.EndLaws.{form-start, back-ready, going_end}
use Rattle.factor.specs.TurnLaws.{came-on, came-end}
use Rattle.factor.specs.Factoring.{Factorable, Going, lent_lists, written}
use Rattle.matrix.specs.Input.{lent_by}
use mathlib.Core.Path.{refl}
use mathlib.Core.List.{List}
use Prim.Native.Nat.{ℕ}
use Rattle.factor.proofs.factor.Goals as goal
use Rattle.factor.proofs.factor.Goals.{After-clear_for_rows}

-- no row is done yet
begun : (q : After-clear_for_rows) (o : List ℕ)
    → Factorable q.args.form (lent_by q.args.input o) (lent_lists q.args.lists) (written q.args.lower_values.now q.args.upper_values.now q.args.d.now q.args.work.now q.args.marks.now)
    → Going q.args.form (lent_by q.args.input o) (lent_lists q.args.lists) 0
    (written q.clear_for_rows.new.lower_values q.clear_for_rows.new.upper_values q.args.d.now q.clear_for_rows.new.work q.clear_for_rows.new.marks)
begun q o F =
    let e = q.clear_for_rows in
    form-start q.args.form _ F (record { lower-size = e.auto.lower_values; upper-size = e.auto.upper_values; d-size = refl; work-size = e.auto.work; marks-size = e.auto.marks })
    e.ensures.0 e.ensures.1 e.ensures.2 e.ensures.3

pub clear_for_rows-requires : goal.clear_for_rows-requires
clear_for_rows-requires c = let F = c.requires.1 in record { small = F.lent.lent.orders.few; long = F.slots }

pub eliminate_rows-requires : goal.eliminate_rows-requires
eliminate_rows-requires c = (c.requires.0, begun (goal.at.eliminate_rows-requires c).After-clear_for_rows c.requires.0 c.requires.1)

pub returns-in_err-eliminate_rows : goal.returns-in_err-eliminate_rows
returns-in_err-eliminate_rows c o F =
    let e = c.from_residual in
    came-end _ _ _ _ _ c.in_err-eliminate_rows.field-0.0 _ _ _ _ e.result e.ensures.0 e.ensures.1 (c.in_err-eliminate_rows.ensures o (begun (goal.at.returns-in_err-eliminate_rows c).After-clear_for_rows o F))

pub solve_back-requires : goal.solve_back-requires
solve_back-requires c =
    back-ready (came-on (c.in_ok-eliminate_rows.ensures c.requires.0 (begun (goal.at.solve_back-requires c).After-clear_for_rows c.requires.0 c.requires.1)))

pub returns : goal.returns
returns c o F =
    going_end (came-on (c.in_ok-eliminate_rows.ensures o (begun (goal.at.returns c).After-clear_for_rows o F))) _ c.solve_back.result c.solve_back.ensures
