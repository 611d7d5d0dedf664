use Rattle.symbolic.proofs.Keeping.{keep_row, keep-list, keep-members, keep-turn, keep-ready, kept_next, next-lists, stepped-done, stepped-full}
use Rattle.symbolic.specs.Places.{Keep}
use Rattle.fill.specs.Fill.{Pattern, upper_row, lower_row}
use Rattle.storing.specs.Held.{Stepped}
use Rattle.storing.specs.declared.Way.TheVariants.{Sharing}
use mathlib.Core.List.{List}
use Prim.Native.Nat.{ℕ}
use Rattle.symbolic.proofs.share_list.Goals as goal
use Rattle.symbolic.proofs.share_list.Goals.{After-place_list}

pub place_list-requires : goal.place_list-requires
place_list-requires c =
    let h = c.requires.keep in
    keep-ready h _ _ (keep_row h) (keep-list h)

-- what placing tells
step : (p : After-place_list) (P : Pattern) (store : List ℕ) (t : ℕ) → let a = p.args in
    let r = p.place_list in
    Keep Sharing P a.n a.k.0 t a.cuts store a.values a.starts.now a.runs.now a.index.now a.marks.now a.row a.e →
    Stepped Sharing (upper_row P p.args.n) (lower_row P) p.args.values p.args.k.0 store r.new.starts r.new.runs r.new.index r.result
step p P store t h =
    p.place_list.ensures.steps (upper_row P p.args.n) (lower_row P) p.args.n store
    (keep-turn h _ _ (keep_row h) (keep-list h))

pub renew_cuts-requires : goal.renew_cuts-requires
renew_cuts-requires c =
    let h = c.requires.keep in
    let d = stepped-done _ _ _ _ _ _ _ _ _ _ _ c.in_ok-next.was (step (goal.at.renew_cuts-requires c).After-place_list c.requires.pattern c.requires.store c.requires.stamp h) in
    record { lists = next-lists h _ _ _ _ d.1; bounds = (h.below, h.base, h.space); walk = record { stamp = c.requires.stamp; list = keep-members h } }

pub returns : goal.returns
returns c =
    λ P store t h.
    let d = stepped-done _ _ _ _ _ _ _ _ _ _ _ c.in_ok-next.was (step (goal.at.returns c).After-place_list P store t h) in
    kept_next h _ _ _ _ d.1 d.0 c.place_list.auto.starts c.place_list.auto.runs _ (c.renew_cuts.ensures t (keep-members h))

pub returns-in_err-next : goal.returns-in_err-next
returns-in_err-next c =
    let a = c.args in
    let r = c.place_list.new in
    λ P store t h.
    rw c.from_residual.ensures (stepped-full Sharing (upper_row P a.n) (lower_row P) a.values a.k.0 store r.starts r.runs r.index _ c.in_err-next.was (step (goal.at.returns-in_err-next c).After-place_list P store t h))
