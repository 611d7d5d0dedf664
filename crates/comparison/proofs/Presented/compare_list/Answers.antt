use Rattle.comparison.proofs.Lists.{row_by, list_same}
use Rattle.symbolic.proofs.Keeping.{told, keep_row, keep-list, keep-members, keep-turn, keep-ready, next-lists}
use Rattle.comparison.specs.Comparing.{KeepIn}
use Rattle.fill.specs.Fill.{Pattern, upper_row, lower_row}
use Rattle.storing.specs.Held.{Checked}
use Rattle.std.specs.Prelude.{Some}
use Rattle.storing.specs.declared.Extent.{Extent}
use mathlib.Core.Path.{◌≡◌}
use Prim.Native.Nat.{ℕ}
use Rattle.comparison.proofs.Presented.compare_list.Goals as goal
use Rattle.comparison.proofs.Presented.compare_list.Goals.{After-check_list}

pub check_list-requires : goal.check_list-requires
check_list-requires c = let h = c.requires.keep in keep-ready h _ _ (row_by c.args.way _ _ (keep_row h)) (keep-list h)

-- what comparing tells
step : (p : After-check_list) (P : Pattern) (t : ℕ) → let a = p.args in
    KeepIn a.way P a.n a.k.0 t a.cuts a.self a.marks.now a.row a.e
    →
    Checked a.way (upper_row P a.n) (lower_row P) a.self.values a.k.0 a.self.starts.now a.self.runs.now a.self.index.now p.check_list.result
step p P t h = let a = p.args in p.check_list.ensures.steps (upper_row P a.n) (lower_row P) a.n (keep-turn h _ _ (row_by a.way _ _ (keep_row h)) (keep-list h))

same : (p : After-check_list) (e : Extent) → p.check_list.result ≡ Some e → (P : Pattern) (t : ℕ) → let a = p.args in
    KeepIn a.way P a.n a.k.0 t a.cuts a.self a.marks.now a.row a.e
    →
    Checked a.way (upper_row P a.n) (lower_row P) a.self.values a.k.0 a.self.starts.now a.self.runs.now a.self.index.now (Some e)
same p e is P t h = told (Checked _ _ _ _ _ _ _ _) is (step p P t h)

pub renew_cuts-requires : goal.renew_cuts-requires
renew_cuts-requires c =
    let d = c.requires in
    let h = d.keep in
    record { lists = next-lists h _ _ _ _ (same (goal.at.renew_cuts-requires c).After-check_list _ c.in_ok-next.was d.pattern d.stamp h).1; bounds = (h.below, h.base, h.space); walk = record { stamp = d.stamp; list = keep-members h } }

pub returns : goal.returns
returns c = λ P t h. list_same h _ (same (goal.at.returns c).After-check_list _ c.in_ok-next.was P t h) _ (c.renew_cuts.ensures t (keep-members h))

pub returns-in_err-next : goal.returns-in_err-next
returns-in_err-next c = λ P t h.
    rw c.from_residual.ensures (told (Checked _ _ _ _ _ _ _ _) c.in_err-next.was (step (goal.at.returns-in_err-next c).After-check_list P t h))
