use Rattle.symbolic.proofs.Plain.{plain-open, plain-null, plain-lower, plain-short, plain-adding, plain-keep, plain-full, plain-next}
use Rattle.symbolic.proofs.Keeping.{told}
use Rattle.symbolic.specs.Places.{OpenEnds, RowFound, LowerEnds, KeepEnds}
use Rattle.symbolic.specs.Pass.{At}
use Rattle.base.specs.declared.Form.TheVariants.{Plain}
use Rattle.base.specs.declared.Side.TheVariants.{Upper}
use Rattle.storing.specs.declared.Way.TheVariants.{OneAfterAnother}
use Rattle.matrix.specs.Input.{stored, pattern_by}
use Rattle.symbolic.specs.declared.OpenRow.{OpenRow}
use Rattle.std.specs.Prelude.{Some}
use mathlib.Core.Path.{◌≡◌}
use mathlib.Core.List.{List}
use Prim.Native.Nat.{ℕ, ◌+◌}
use Rattle.base.specs.Scratch.{upper_cuts}
use Rattle.symbolic.proofs.analyze_place_plain.Goals as goal
use Rattle.symbolic.proofs.analyze_place_plain.Goals.{After-append_lower-low, After-append_upper-up, After-open_place-opened}

pub open_place-opened-requires : goal.open_place-opened-requires
open_place-opened-requires c =
    record { order = c.requires.order; lists = _; due = plain-open _ _ _ _ _ _ _ _ _ _ _ _ c.requires.at c.requires.place }

-- what opening tells
opens : (p : After-open_place-opened) (c low up : List ℕ) → let a = p.args in
    At Plain (pattern_by a.input c) low a.lower_values up a.upper_values a.k.0 a.lower_starts.now a.lower_starts.now a.lower_index.now a.upper_starts.now a.upper_starts.now a.upper_index.now a.marks.now a.g
    →
    OpenEnds Upper (pattern_by a.input c) a.k.0 (a.k.0 + 1) a.marks.now p.open_place-opened.new.marks p.open_place-opened.result
opens p c low up h = p.open_place-opened.ensures c _ (plain-open _ _ _ _ _ _ _ _ _ _ _ _ h p.requires.place)

pub returns-in_default : goal.returns-in_default
returns-in_default c =
    λ o low up h. plain-null _ _ _ _ _ _ _ _ _ _ _ _ h c.requires.place (told (OpenEnds Upper _ _ _ _ _) c.in_default.is (opens (goal.at.returns-in_default c).After-open_place-opened o low up h))

found : (p : After-open_place-opened) (row : OpenRow) → p.open_place-opened.result ≡ Some row → (c low up : List ℕ) → let a = p.args in
    At Plain (pattern_by a.input c) low a.lower_values up a.upper_values a.k.0 a.lower_starts.now a.lower_starts.now a.lower_index.now a.upper_starts.now a.upper_starts.now a.upper_index.now a.marks.now a.g
    →
    RowFound Upper (pattern_by a.input c) a.k.0 (a.k.0 + 1) a.marks.now p.open_place-opened.new.marks row
found p row is c low up h = told (OpenEnds Upper _ _ _ _ _) is (opens p c low up h)

pub append_lower-low-requires : goal.append_lower-low-requires
append_lower-low-requires c =
    let d = c.requires in
    record { pattern = _; store = d.low; keep = plain-lower _ _ _ _ _ _ _ _ _ _ _ _ d.at d.place _ _ (found (goal.at.append_lower-low-requires c).After-open_place-opened _ c.in-Some.is d.order d.low d.up d.at) }

-- what keeping the lower row tells
lowers : (l : After-append_lower-low) (c low up : List ℕ) → let a = l.args in
    At Plain (pattern_by a.input c) low a.lower_values up a.upper_values a.k.0 a.lower_starts.now a.lower_starts.now a.lower_index.now a.upper_starts.now a.upper_starts.now a.upper_index.now a.marks.now a.g
    →
    LowerEnds (stored (pattern_by a.input c)) a.k.0 low a.lower_values l.append_lower-low.new.starts l.append_lower-low.new.index l.append_lower-low.result
lowers l c low up h = l.append_lower-low.ensures _ low (plain-lower _ _ _ _ _ _ _ _ _ _ _ _ h l.requires.place _ _ (told (OpenEnds Upper _ _ _ _ _) l.in-Some.is (l.open_place-opened.ensures c _ (plain-open _ _ _ _ _ _ _ _ _ _ _ _ h l.requires.place))))

pub returns-in_default-low : goal.returns-in_default-low
returns-in_default-low c =
    λ o low up h.
    plain-short _ _ _ _ _ _ _ _ _ _ _ _ h c.requires.place _ _ (found (goal.at.returns-in_default-low c).After-open_place-opened _ c.in-Some.is o low up h)
    (told (LowerEnds _ _ _ _ _ _) c.in_default-low.is (lowers (goal.at.returns-in_default-low c).After-append_lower-low o low up h))

pub add_products-products-requires : goal.add_products-products-requires
add_products-products-requires c =
    let d = c.requires in
    record {
      pattern = _;
      place = _;
      runs = _;
      index = _;
      adding = plain-adding _ _ _ _ _ _ _ _ _ _ _ _ d.at d.place _ _ (found (goal.at.add_products-products-requires c).After-open_place-opened _ c.in-Some.is d.order d.low d.up d.at);
    }

pub append_upper-up-requires : goal.append_upper-up-requires
append_upper-up-requires c =
    let d = c.requires in
    record { pattern = _; store = d.up; stamp = _; keep = plain-keep _ _ _ _ _ _ _ _ _ _ _ _ d.at d.place _ _ (found (goal.at.append_upper-up-requires c).After-open_place-opened _ c.in-Some.is d.order d.low d.up d.at) }

-- what keeping T(k) tells
uppers : (w : After-append_upper-up) (c low up : List ℕ) → let a = w.args in
    let r = w.append_upper-up in
    At Plain (pattern_by a.input c) low a.lower_values up a.upper_values a.k.0 a.lower_starts.now a.lower_starts.now a.lower_index.now a.upper_starts.now a.upper_starts.now a.upper_index.now a.marks.now a.g
    →
    KeepEnds OneAfterAnother (stored (pattern_by a.input c)) a.input.n a.k.0 (upper_cuts a.input.n) up a.upper_values r.new.starts r.new.starts r.new.index w.open_place-opened.new.marks r.new.marks r.result
uppers w c low up h =
    w.append_upper-up.ensures _ up _ (plain-keep _ _ _ _ _ _ _ _ _ _ _ _ h w.requires.place _ _ (told (OpenEnds Upper _ _ _ _ _) w.in-Some.is (w.open_place-opened.ensures c _ (plain-open _ _ _ _ _ _ _ _ _ _ _ _ h w.requires.place))))

pub returns-in_default-up : goal.returns-in_default-up
returns-in_default-up c =
    λ o low up h.
    plain-full _ _ _ _ _ _ _ _ _ _ _ _ h c.requires.place _ _ (found (goal.at.returns-in_default-up c).After-open_place-opened _ c.in-Some.is o low up h)
    (told (LowerEnds _ _ _ _ _ _) c.in-Some-low.is (lowers (goal.at.returns-in_default-up c).After-append_lower-low o low up h)).0
    (told (KeepEnds OneAfterAnother _ _ _ _ _ _ _ _ _ _ _) c.in_default-up.is (uppers (goal.at.returns-in_default-up c).After-append_upper-up o low up h))

pub returns : goal.returns
returns c =
    λ o low up h.
    let f = found (goal.at.returns c).After-open_place-opened _ c.in-Some.is o low up h in
    let d = told (LowerEnds _ _ _ _ _ _) c.in-Some-low.is (lowers (goal.at.returns c).After-append_lower-low o low up h) in
    plain-next _ _ _ _ _ _ _ _ _ _ _ _ h c.requires.place _ _ f d.0 _ _ _ d.1 c.append_lower-low.auto.starts
    _ (c.add_products-products.ensures _ _ _ _ (plain-adding _ _ _ _ _ _ _ _ _ _ _ _ h c.requires.place _ _ f)) _ _ _ _ c.append_upper-up.auto.marks
    (told (KeepEnds OneAfterAnother _ _ _ _ _ _ _ _ _ _ _) c.in-Some-up.is (uppers (goal.at.returns c).After-append_upper-up o low up h))
