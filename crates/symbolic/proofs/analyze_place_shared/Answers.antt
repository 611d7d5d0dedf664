use Rattle.symbolic.proofs.Sharing.{upper-stop, upper-adding, upper-next, lower-due, lower-stop, lower-begun, lower-fits, shared_due, shared-lower}
use Rattle.symbolic.proofs.Keeping.{told}
use Rattle.symbolic.specs.Places.{SideNext, SideEnds, Adding}
use Rattle.symbolic.specs.Pass.{At}
use Rattle.base.specs.declared.Form.TheVariants.{Shared}
use Rattle.base.specs.declared.Side.TheVariants.{Lower, Upper}
use Rattle.storing.specs.declared.Way.TheVariants.{Sharing}
use Rattle.matrix.specs.Input.{stored, pattern_by}
use mathlib.Core.Path.{◌≡◌, refl}
use Rattle.symbolic.specs.declared.SidePlace.{SidePlace}
use Rattle.std.specs.Prelude.{Ok}
use mathlib.Core.List.{List}
use Prim.Native.Nat.{ℕ, ◌+◌}
use native.Mathlib.Omega.{arith}
use Rattle.symbolic.proofs.analyze_place_shared.Goals as goal
use Rattle.symbolic.proofs.analyze_place_shared.Goals.{After-place_side-low, After-place_side-up}

pub place_side-low-requires : goal.place_side-low-requires
place_side-low-requires c = let d = c.requires in record { order = d.order; store = d.low; due = lower-due _ _ _ _ _ _ _ _ _ _ _ _ _ _ d.at d.place }

-- what the lower side tells
lowers : (p : After-place_side-low) (c low up : List ℕ) → let a = p.args in
    let r = p.place_side-low in
    At Shared (pattern_by a.input c) low a.lower_values up a.upper_values a.k.0 a.lower_starts.now a.lower_runs.now a.lower_index.now a.upper_starts.now a.upper_runs.now a.upper_index.now a.marks.now a.g
    →
    SideEnds Sharing Lower (pattern_by a.input c) low a.lower_values a.k.0 (a.k.0 + a.k.0 + 1) r.new.side_starts r.new.side_runs r.new.side_index a.marks.now r.new.marks r.result
lowers p c low up h = p.place_side-low.ensures c low (lower-due _ _ _ _ _ _ _ _ _ _ _ _ _ _ h p.requires.place)

pub returns-in-Err : goal.returns-in-Err
returns-in-Err c =
    λ o low up h.
    rw c.refusal.ensures (lower-stop _ _ _ _ _ _ _ _ _ _ _ _ _ _ h c.requires.place _
    (told (SideEnds Sharing Lower _ _ _ _ _ _ _ _ _ _) c.in-Err.is (lowers (goal.at.returns-in-Err c).After-place_side-low o low up h)))

below : (p : After-place_side-low) (s : SidePlace) → p.place_side-low.result ≡ Ok s → (c low up : List ℕ) → let a = p.args in
    let r = p.place_side-low in
    At Shared (pattern_by a.input c) low a.lower_values up a.upper_values a.k.0 a.lower_starts.now a.lower_runs.now a.lower_index.now a.upper_starts.now a.upper_runs.now a.upper_index.now a.marks.now a.g
    →
    SideNext Sharing Lower (pattern_by a.input c) low a.lower_values a.k.0 (a.k.0 + a.k.0 + 1) r.new.side_starts r.new.side_runs r.new.side_index a.marks.now r.new.marks s
below p s is c low up h = told (SideEnds Sharing Lower _ _ _ _ _ _ _ _ _ _) is (lowers p c low up h)

pub place_side-up-requires : goal.place_side-up-requires
place_side-up-requires c =
    let d = c.requires in
    record { order = d.order; store = d.up; due = shared_due _ _ _ _ _ _ _ _ _ _ _ _ _ _ d.at d.place _ _ _ _ _ (below (goal.at.place_side-up-requires c).After-place_side-low _ c.in-Ok.is d.order d.low d.up d.at) }

-- what the lower side has told, once the upper side is placed
settled : (w : After-place_side-up) (c low up : List ℕ) → let a = w.args in
    let r = w.place_side-low in
    At Shared (pattern_by a.input c) low a.lower_values up a.upper_values a.k.0 a.lower_starts.now a.lower_runs.now a.lower_index.now a.upper_starts.now a.upper_runs.now a.upper_index.now a.marks.now a.g
    →
    SideNext Sharing Lower (pattern_by a.input c) low a.lower_values a.k.0 (a.k.0 + a.k.0 + 1) r.new.side_starts r.new.side_runs r.new.side_index a.marks.now r.new.marks w.in-Ok.l
settled w c low up h = told (SideEnds Sharing Lower _ _ _ _ _ _ _ _ _ _) w.in-Ok.is (w.place_side-low.ensures c low (lower-due _ _ _ _ _ _ _ _ _ _ _ _ _ _ h w.requires.place))

-- what the upper side tells
uppers : (w : After-place_side-up) (c low up : List ℕ) → let a = w.args in
    let r = w.place_side-up in
    At Shared (pattern_by a.input c) low a.lower_values up a.upper_values a.k.0 a.lower_starts.now a.lower_runs.now a.lower_index.now a.upper_starts.now a.upper_runs.now a.upper_index.now a.marks.now a.g
    →
    SideEnds Sharing Upper (pattern_by a.input c) up a.upper_values a.k.0 (a.k.0 + a.k.0 + 1 + 1) r.new.side_starts r.new.side_runs r.new.side_index w.place_side-low.new.marks r.new.marks r.result
uppers w c low up h = w.place_side-up.ensures c up (shared_due _ _ _ _ _ _ _ _ _ _ _ _ _ _ h w.requires.place _ _ _ _ _ (settled w c low up h))

pub returns-in-Err-up : goal.returns-in-Err-up
returns-in-Err-up c =
    λ o low up h.
    rw c.refusal-in-Err-up.ensures (upper-stop Shared refl _ _ _ _ _ _ _ _ _ _ _ _ _ _ h c.requires.place (lower-fits _ _ _ _ _ _ _ _ _ _ _ _ _ _ h c.requires.place _ _ _ _ _ (below (goal.at.returns-in-Err-up c).After-place_side-low _ c.in-Ok.is o low up h)) _
    (told (SideEnds Sharing Upper _ _ _ _ _ _ _ _ _ _) c.in-Err-up.is (uppers (goal.at.returns-in-Err-up c).After-place_side-up o low up h)))

above : (w : After-place_side-up) (u : SidePlace) → w.place_side-up.result ≡ Ok u → (c low up : List ℕ) → let a = w.args in
    let r = w.place_side-up in
    At Shared (pattern_by a.input c) low a.lower_values up a.upper_values a.k.0 a.lower_starts.now a.lower_runs.now a.lower_index.now a.upper_starts.now a.upper_runs.now a.upper_index.now a.marks.now a.g
    →
    SideNext Sharing Upper (pattern_by a.input c) up a.upper_values a.k.0 (a.k.0 + a.k.0 + 1 + 1) r.new.side_starts r.new.side_runs r.new.side_index w.place_side-low.new.marks r.new.marks u
above w u is c low up h = told (SideEnds Sharing Upper _ _ _ _ _ _ _ _ _ _) is (uppers w c low up h)

adding : (w : After-place_side-up) (u : SidePlace) → w.place_side-up.result ≡ Ok u → (c low up : List ℕ) → let a = w.args in
    let r = w.place_side-up in
    At Shared (pattern_by a.input c) low a.lower_values up a.upper_values a.k.0 a.lower_starts.now a.lower_runs.now a.lower_index.now a.upper_starts.now a.upper_runs.now a.upper_index.now a.marks.now a.g
    →
    Adding (stored (pattern_by a.input c)) a.input.n a.k.0 r.new.side_starts r.new.side_runs r.new.side_index r.new.marks u.below a.g.products
adding w u is c low up h =
    let b = settled w c low up h in
    upper-adding Shared refl _ _ _ _ _ _ _ _ _ _ _ _ _ _ h w.requires.place (lower-fits _ _ _ _ _ _ _ _ _ _ _ _ _ _ h w.requires.place _ _ _ _ _ b) _ _
    (lower-begun _ _ _ _ _ _ _ _ _ _ _ _ _ _ h w.requires.place _ _ _ _ _ b) _ _ _ _ _ (above w u is c low up h)

pub add_products-products-requires : goal.add_products-products-requires
add_products-products-requires c =
    let d = c.requires in
    record { pattern = _; place = _; runs = _; index = _; adding = adding (goal.at.add_products-products-requires c).After-place_side-up _ c.in-Ok-up.is d.order d.low d.up d.at }

pub returns : goal.returns
returns c =
    λ o low up h.
    let b = below (goal.at.returns c).After-place_side-low _ c.in-Ok.is o low up h in
    let x = above (goal.at.returns c).After-place_side-up _ c.in-Ok-up.is o low up h in
    upper-next Shared refl _ _ _ _ _ _ _ _ _ _ _ _ _ _ h c.requires.place (lower-fits _ _ _ _ _ _ _ _ _ _ _ _ _ _ h c.requires.place _ _ _ _ _ b) _ _
    (lower-begun _ _ _ _ _ _ _ _ _ _ _ _ _ _ h c.requires.place _ _ _ _ _ b) _ _ _ _ _ x _ _ _ _ _ _
    (c.add_products-products.ensures _ _ _ _ (adding (goal.at.returns c).After-place_side-up _ c.in-Ok-up.is o low up h)) (omega arith) (shared-lower c.requires.place b x.apart)
