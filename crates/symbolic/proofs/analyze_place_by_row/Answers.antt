use Rattle.symbolic.proofs.Sharing.{upper-stop, upper-adding, upper-next, row-due, row_counts, row_small}
use Rattle.symbolic.proofs.Asking.{fits-row}
use Rattle.symbolic.proofs.Keeping.{told}
use Rattle.symbolic.specs.Places.{SideNext, SideEnds, Adding}
use Rattle.symbolic.specs.Pass.{At}
use Rattle.base.specs.declared.Form.TheVariants.{ByRow}
use Rattle.base.specs.declared.Side.TheVariants.{Upper}
use Rattle.storing.specs.declared.Way.TheVariants.{Sharing}
use Rattle.matrix.specs.Input.{stored, pattern_by}
use mathlib.Core.Path.{◌≡◌, refl}
use Rattle.symbolic.specs.declared.SidePlace.{SidePlace}
use Rattle.std.specs.Prelude.{Ok}
use mathlib.Core.List.{List, []}
use Prim.Native.Nat.{ℕ, ◌+◌}
use native.Mathlib.Omega.{arith}
use native.Mathlib.Numerals.{add-one}
use Rattle.symbolic.proofs.analyze_place_by_row.Goals as goal
use Rattle.symbolic.proofs.analyze_place_by_row.Goals.{After-place_side-side}

pub place_side-side-requires : goal.place_side-side-requires
place_side-side-requires c = let d = c.requires in record { order = d.order; store = d.up; due = row-due _ _ _ _ _ _ _ _ _ _ _ d.at d.place }

-- what the side tells
ends : (p : After-place_side-side) (c low up : List ℕ) → let a = p.args in
    let r = p.place_side-side in
    At ByRow (pattern_by a.input c) low 0 up a.upper_values a.k.0 [] [] [] a.upper_starts.now a.upper_runs.now a.upper_index.now a.marks.now a.g
    →
    SideEnds Sharing Upper (pattern_by a.input c) up a.upper_values a.k.0 (a.k.0 + 1) r.new.side_starts r.new.side_runs r.new.side_index a.marks.now r.new.marks r.result
ends p c low up h = p.place_side-side.ensures c up (row-due _ _ _ _ _ _ _ _ _ _ _ h p.requires.place)

pub returns-in-Err : goal.returns-in-Err
returns-in-Err c =
    λ o low up h.
    rw c.refusal.ensures (upper-stop ByRow refl _ _ _ _ _ _ _ _ _ _ _ _ _ _ h c.requires.place (fits-row _ _ _ _) _
    (told (SideEnds Sharing Upper _ _ _ _ _ _ _ _ _ _) c.in-Err.is (ends (goal.at.returns-in-Err c).After-place_side-side o low up h)))

next : (p : After-place_side-side) (s : SidePlace) → p.place_side-side.result ≡ Ok s → (c low up : List ℕ) → let a = p.args in
    let r = p.place_side-side in
    At ByRow (pattern_by a.input c) low 0 up a.upper_values a.k.0 [] [] [] a.upper_starts.now a.upper_runs.now a.upper_index.now a.marks.now a.g
    →
    SideNext Sharing Upper (pattern_by a.input c) up a.upper_values a.k.0 (a.k.0 + 1) r.new.side_starts r.new.side_runs r.new.side_index a.marks.now r.new.marks s
next p s is c low up h = told (SideEnds Sharing Upper _ _ _ _ _ _ _ _ _ _) is (ends p c low up h)

adding : (p : After-place_side-side) (s : SidePlace) → p.place_side-side.result ≡ Ok s → (c low up : List ℕ) → let a = p.args in
    let r = p.place_side-side in
    At ByRow (pattern_by a.input c) low 0 up a.upper_values a.k.0 [] [] [] a.upper_starts.now a.upper_runs.now a.upper_index.now a.marks.now a.g
    →
    Adding (stored (pattern_by a.input c)) a.input.n a.k.0 r.new.side_starts r.new.side_runs r.new.side_index r.new.marks s.below a.g.products
adding p s is c low up h = upper-adding ByRow refl _ _ _ _ _ _ _ _ _ _ _ _ _ _ h p.requires.place (fits-row _ _ _ _) _ _ h.begun _ _ _ _ _ (next p s is c low up h)

pub add_products-products-requires : goal.add_products-products-requires
add_products-products-requires c =
    let d = c.requires in
    record { pattern = _; place = _; runs = _; index = _; adding = adding (goal.at.add_products-products-requires c).After-place_side-side _ c.in-Ok.is d.order d.low d.up d.at }

pub overflow_add-lower : goal.overflow_add-lower
overflow_add-lower c =
    let d = c.requires in
    omega (arith, row_small _ _ _ _ _ _ _ _ _ _ _ d.at d.place _ (next (goal.at.overflow_add-lower c).After-place_side-side _ c.in-Ok.is d.order d.low d.up d.at).size)

pub returns : goal.returns
returns c =
    λ o low up h.
    let x = next (goal.at.returns c).After-place_side-side _ c.in-Ok.is o low up h in
    upper-next ByRow refl _ _ _ _ _ _ _ _ _ _ _ _ _ _ h c.requires.place (fits-row _ _ _ _) _ _ h.begun _ _ _ _ _ x [] [] [] _ _ _
    (c.add_products-products.ensures _ _ _ _ (adding (goal.at.returns c).After-place_side-side _ c.in-Ok.is o low up h)) (add-one _) (row_counts _ _ _ _ _ _ _ _ _ _ _ h c.requires.place _ x.size)
