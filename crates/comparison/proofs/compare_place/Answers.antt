use Rattle.comparison.proofs.Places.{plain-due, plain-upper, plain-keep, plain-lower, plain-next, lower-due, shared-lower-other, upper-due, shared-upper-other, shared-next}
use Rattle.comparison.specs.Comparing.{LowerEnds, SideEndsIn}
use Rattle.symbolic.proofs.Keeping.{told}
use Rattle.base.specs.declared.Side.TheVariants.{Lower, Upper}
use Prim.Native.Nat.{◌+◌}
use Rattle.comparison.proofs.compare_place.Goals as goal

-- ---- the plain form

pub returns-in_err-u-in-OneAfterAnother : goal.returns-in_err-u-in-OneAfterAnother
returns-in_err-u-in-OneAfterAnother c =
    let a = c.args in
    let w = c.in-OneAfterAnother.is in
    λ o h.
    rw c.from_residual.ensures (plain-upper w h c.requires.place
    (told (SideEndsIn a.way Upper a.input o a.upper a.k.0 (a.k.0 + 1) a.marks.now c.compare_side.new.marks) c.in_err-u-in-OneAfterAnother.was (c.compare_side.ensures o (plain-due w h c.requires.place))))

pub returns-in_err-below-in-OneAfterAnother : goal.returns-in_err-below-in-OneAfterAnother
returns-in_err-below-in-OneAfterAnother c =
    let a = c.args in
    let w = c.in-OneAfterAnother.is in
    let p = c.requires.place in
    λ o h.
    let above = told (SideEndsIn a.way Upper a.input o a.upper a.k.0 (a.k.0 + 1) a.marks.now c.compare_side.new.marks) c.in_ok-u-in-OneAfterAnother.was (c.compare_side.ensures o (plain-due w h p)) in
    rw c.from_residual-in_err-below-in-OneAfterAnother.ensures (plain-lower w h p above (told (LowerEnds _ _ _ _ _) c.in_err-below-in-OneAfterAnother.was (c.compare_lower.ensures _ (plain-keep w h p above))))

pub returns-in_ok-below-in-OneAfterAnother : goal.returns-in_ok-below-in-OneAfterAnother
returns-in_ok-below-in-OneAfterAnother c =
    let a = c.args in
    let w = c.in-OneAfterAnother.is in
    let p = c.requires.place in
    λ o h.
    let above = told (SideEndsIn a.way Upper a.input o a.upper a.k.0 (a.k.0 + 1) a.marks.now c.compare_side.new.marks) c.in_ok-u-in-OneAfterAnother.was (c.compare_side.ensures o (plain-due w h p)) in
    plain-next w h p above _ (told (LowerEnds _ _ _ _ _) c.in_ok-below-in-OneAfterAnother.was (c.compare_lower.ensures _ (plain-keep w h p above)))

-- ---- the shared form

pub returns-in_err-l-in-Sharing : goal.returns-in_err-l-in-Sharing
returns-in_err-l-in-Sharing c =
    let a = c.args in
    let w = c.in-Sharing.is in
    λ o h.
    rw c.from_residual-in_err-l-in-Sharing.ensures (shared-lower-other w h c.requires.place
    (told (SideEndsIn a.way Lower a.input o a.lower a.k.0 (a.k.0 + a.k.0 + 1) a.marks.now c.compare_side-in-Sharing.new.marks) c.in_err-l-in-Sharing.was (c.compare_side-in-Sharing.ensures o (lower-due w h c.requires.place))))

pub compare_side-requires-in-Sharing-2 : goal.compare_side-requires-in-Sharing-2
compare_side-requires-in-Sharing-2 c =
    let a = c.args in
    let w = c.in-Sharing.is in
    let d = c.requires in
    record {
      order = d.order;
      due = upper-due w d.at d.place
          (told (SideEndsIn a.way Lower a.input d.order a.lower a.k.0 (a.k.0 + a.k.0 + 1) a.marks.now c.compare_side-in-Sharing.new.marks) c.in_ok-l-in-Sharing.was (c.compare_side-in-Sharing.ensures d.order (lower-due w d.at d.place)));
    }

pub returns-in_err-u-in-Sharing : goal.returns-in_err-u-in-Sharing
returns-in_err-u-in-Sharing c =
    let a = c.args in
    let w = c.in-Sharing.is in
    let p = c.requires.place in
    λ o h.
    let below = told (SideEndsIn a.way Lower a.input o a.lower a.k.0 (a.k.0 + a.k.0 + 1) a.marks.now c.compare_side-in-Sharing.new.marks) c.in_ok-l-in-Sharing.was (c.compare_side-in-Sharing.ensures o (lower-due w h p)) in
    rw c.from_residual-in_err-u-in-Sharing.ensures (shared-upper-other w h p below
    (told (SideEndsIn a.way Upper a.input o a.upper a.k.0 (a.k.0 + a.k.0 + 1 + 1) c.compare_side-in-Sharing.new.marks c.compare_side-in-Sharing-2.new.marks) c.in_err-u-in-Sharing.was (c.compare_side-in-Sharing-2.ensures o (upper-due w h p below))))

pub returns-in_ok-u-in-Sharing : goal.returns-in_ok-u-in-Sharing
returns-in_ok-u-in-Sharing c =
    let a = c.args in
    let w = c.in-Sharing.is in
    let p = c.requires.place in
    λ o h.
    let below = told (SideEndsIn a.way Lower a.input o a.lower a.k.0 (a.k.0 + a.k.0 + 1) a.marks.now c.compare_side-in-Sharing.new.marks) c.in_ok-l-in-Sharing.was (c.compare_side-in-Sharing.ensures o (lower-due w h p)) in
    shared-next w h p below
    (told (SideEndsIn a.way Upper a.input o a.upper a.k.0 (a.k.0 + a.k.0 + 1 + 1) c.compare_side-in-Sharing.new.marks c.compare_side-in-Sharing-2.new.marks) c.in_ok-u-in-Sharing.was (c.compare_side-in-Sharing-2.ensures o (upper-due w h p below)))
