use mathlib.Core.Path.{◌≡◌, refl, sym, ◌∙◌}
use mathlib.Core.List.{[], ◌++◌}
use native.Mathlib.Omega.{arith}
use lib.ListN.{length, drop}
use lib.Seq.{length-take-le, length_front}
use Rattle.base.specs.Scratch.{z_from}
use Rattle.matrix.specs.Input.{input_of}
use Rattle.arithmetic.specs.Again.{Factors}
use Rattle.outcome.specs.Buffers.{SideBuffers, side_buffers}
use Rattle.outcome.specs.Resolve.{factors_of}
use Rattle.factors.specs.Presented.{presented}
use Rattle.substitution.specs.Sweep.{Tied, Sweep}
use Rattle.substitution.specs.EndLaws.{tied, begun, ends-early, ys-fine, ends, ends-below}
use Rattle.substitution.proofs.solve_rows.Goals as goal
use Rattle.substitution.proofs.solve_rows.Goals.{After-clear, After-load_right}

abbrev lower : After-load_right → SideBuffers
lower r = let a = r.args in side_buffers a.lower_starts.now a.lower_runs.now a.lower_index.now a.lower_values.now

abbrev upper : After-load_right → SideBuffers
upper r = let a = r.args in side_buffers a.upper_starts.now a.upper_runs.now a.upper_index.now a.upper_values.now

-- cleared scratch has as many slots
whole : (c : After-clear) → length c.clear.new.s ≡ length c.args.work.now
whole c = c.clear.auto.s

pub slice_bounds-load_right-end-2 : goal.slice_bounds-load_right-end-2
slice_bounds-load_right-end-2 c =
    sym (length-take-le c.args.n c.clear.new.s (omega (arith, whole (goal.at.slice_bounds-load_right-end-2 c).After-clear, c.requires.ready.scratch)))

pub load_right-requires : goal.load_right-requires
load_right-requires c =
    (c.requires.right, length-take-le c.args.n c.clear.new.s (omega (arith, whole (goal.at.load_right-requires c).After-clear, c.requires.ready.scratch)))

-- scratch with the sums has as many slots, too
loaded : (c : After-load_right) → length (c.load_right.new.sums ++ drop c.args.n c.clear.new.s) ≡ length c.args.work.now
loaded c = length_front c.clear.new.s c.load_right.new.sums c.args.n c.load_right.auto.sums ∙ c.clear.auto.s

pub substitute_rows-requires : goal.substitute_rows-requires
substitute_rows-requires c =
    let h = c.requires.ready in
    record { few = h.few; sound = h.sound; reciprocals = h.reciprocals; scratch = loaded (goal.at.substitute_rows-requires c).After-load_right ∙ h.scratch }

-- what the sweep starts from, for the factors that are given
abbrev Given : After-load_right → Factors
Given r = let a = r.args in factors_of a.form (input_of a.n [] [] [] a.r.now [] a.b.now) (presented (lower r) (upper r) a.d.now)

ties : (r : After-load_right) → Tied r.args.form r.args.n (Given r) (lower r) r.args.d.now
ties r = let a = r.args in tied a.form a.n a.r.now a.b.now (lower r) (upper r) a.d.now (length a.work.now) r.requires

starts : (r : After-load_right) → Sweep r.args.form r.args.n (Given r) (lower r) 0 (r.load_right.new.sums ++ drop r.args.n r.clear.new.s)
starts r = let a = r.args in begun a.form a.n a.r.now a.b.now (lower r) (upper r) a.d.now (length a.work.now) r.requires a.work.now _ _ refl r.clear.ensures r.load_right.ensures

pub returns-in_err-substitute_rows : goal.returns-in_err-substitute_rows
returns-in_err-substitute_rows c =
    let a = c.args in
    let r = (goal.at.returns-in_err-substitute_rows c).After-load_right in
    let e = c.from_residual in
    ends-early a.form a.n a.r.now a.b.now (lower r) (upper r) a.d.now (length a.work.now) c.requires c.substitute_rows.new.work c.in_err-substitute_rows.field-0.0 (drop (z_from a.n) c.substitute_rows.new.work) e.result e.ensures.0 e.ensures.1
    (c.in_err-substitute_rows.ensures (Given r) (ties r) (starts r))

pub back_steps-requires : goal.back_steps-requires
back_steps-requires c =
    let a = c.args in
    let r = (goal.at.back_steps-requires c).After-load_right in (
      c.substitute_rows.auto.work ∙ loaded r ∙ c.requires.ready.scratch,
      c.requires.upper,
      ys-fine a.form a.n a.r.now a.b.now (lower r) (upper r) a.d.now (length a.work.now) c.requires _ (c.in_ok-substitute_rows.ensures (Given r) (ties r) (starts r)),
    )

pub returns : goal.returns
returns c =
    let a = c.args in
    let r = (goal.at.returns c).After-load_right in
    let S = c.in_ok-substitute_rows.ensures (Given r) (ties r) (starts r) in (
      ends a.form a.n a.r.now a.b.now (lower r) (upper r) a.d.now (length a.work.now) c.requires _ S c.back_steps.result (drop (z_from a.n) c.back_steps.new.f) c.back_steps.ensures.0,
      ends-below a.form a.n a.r.now a.b.now (lower r) (upper r) a.d.now (length a.work.now) c.requires _ S c.back_steps.result (drop (z_from a.n) c.back_steps.new.f) c.back_steps.ensures.0,
    )

pub shape_of-work : goal.shape_of-work
shape_of-work c =
    c.back_steps.auto.f ∙ c.substitute_rows.auto.work ∙ loaded (goal.at.shape_of-work c).After-load_right
