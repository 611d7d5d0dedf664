use Rattle.factor.specs.Factoring.{CameTo}
use Rattle.factor.specs.TurnLaws.{fault-is, zero-met, overflow-met}
use Rattle.factor.specs.FormLaws.{row-ready, keep-asked, close-asked, row_more}
use mathlib.Core.Path.{◌∙◌}
use Rattle.numeric.specs.declared.RowFault.TheVariants.{Zero, Overflow}
use Rattle.factor.proofs.eliminate_row.Goals as goal

pub reduce_at-row-requires : goal.reduce_at-row-requires
reduce_at-row-requires c = (c.requires.1.0, row-ready c.args.form c.requires.1.1 c.requires.0)

pub keep_at-requires : goal.keep_at-requires
keep_at-requires c =
    let q = c.reduce_at-row in
    keep-asked c.args.form c.requires.1.1 c.requires.0 q.new.marks q.result.below q.ensures.0 q.auto.marks q.new.work q.auto.work

pub close_at-requires : goal.close_at-requires
close_at-requires c =
    let q = c.reduce_at-row in
    let e = c.keep_at in
    close-asked c.args.form c.requires.1.1 c.requires.0 q.new.marks q.result.below q.ensures.0 q.auto.marks q.new.work q.auto.work e.ensures e.auto.marks

pub returns-in-Ok : goal.returns-in-Ok
unfolding CameTo
returns-in-Ok c o G =
    let q = c.reduce_at-row in
    let e = c.keep_at in
    let k = c.close_at in
    row_more c.args.form G c.requires.0 q.new.marks q.result.below q.ensures.0 q.auto.marks q.new.work q.auto.work e.ensures e.auto.marks
    q.new.upper_values k.new.d k.new.work
    (record {
      lower-size = e.auto.lower_values;
      upper-size = q.auto.upper_values;
      d-size = k.auto.d;
      work-size = k.auto.work ∙ q.auto.work;
      marks-size = e.auto.marks ∙ q.auto.marks;
    })
    c.in-Ok.t q.result.sums c.in-Ok.is (q.ensures.1 o G.rows (row-ready c.args.form G c.requires.0) G.held) k.ensures

pub returns-in-Err-Zero : goal.returns-in-Err-Zero
unfolding CameTo
returns-in-Err-Zero c o G =
    let q = c.reduce_at-row in
    zero-met G c.requires.0 q.result.sums (fault-is q.result.sums c.in-Err-Zero.field-0 Zero c.in-Err-Zero.is (rw c.in-Err-Zero.is at c.in-Err-Zero.field-0-is)) (q.ensures.1 o G.rows (row-ready c.args.form G c.requires.0) G.held)

pub returns-in-Err-Overflow : goal.returns-in-Err-Overflow
unfolding CameTo
returns-in-Err-Overflow c o G =
    let q = c.reduce_at-row in
    overflow-met G c.requires.0 q.result.sums (fault-is q.result.sums c.in-Err-Overflow.field-0 Overflow c.in-Err-Overflow.is (rw c.in-Err-Overflow.is at c.in-Err-Overflow.field-0-is)) (q.ensures.1 o G.rows (row-ready c.args.form G c.requires.0) G.held)
