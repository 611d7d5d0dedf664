use mathlib.Core.Path.{ap, ◌∙◌}
use Rattle.std.specs.Prelude.{◌≡◌, ◌+◌, ◌&&◌, length, eqb}
use Rattle.lookup.specs.Lookup.{lists_of, run_starts}
use Rattle.lookup.proofs.StoredLaws.{and-asked, and-passed, sized-by}
use Rattle.lookup.proofs.StoredLists.fits.Goals.{then-rows_within, else-rows_within, then-self-n, else-self-n}
use Rattle.lookup.proofs.StoredLists.fits.Goals as goal

pub returns-then-self-run_starts : goal.returns-then-self-run_starts
returns-then-self-run_starts c =
    let l = c.args.self in
    let listed : c.if-rows_within.value ≡ (c.rows_within.result && eqb (length l.starts.now) (c.args.n + 1))
    = elim c.if-rows_within.branch [ then-rows_within w ↦ and-asked w.if-rows_within.true w.value-is | else-rows_within w ↦ and-passed _ w.if-rows_within.false w.value-is ] in
    let run : c.if-self-n.value ≡ (c.if-rows_within.value && eqb (length l.runs.now) (run_starts c.args.form c.args.n))
    = elim c.if-self-n.branch [ then-self-n w ↦ and-asked w.if-self-n.true (w.value-is ∙ ap (eqb (length l.runs.now)) w.run_starts.ensures) | else-self-n w ↦ and-passed _ w.if-self-n.false w.value-is ] in
    rw c.if-self-run_starts.true at (sized-by c.args.form c.args.n (lists_of l) _ _ _ c.rows_within.ensures listed run)

pub returns-else-self-run_starts : goal.returns-else-self-run_starts
returns-else-self-run_starts c =
    let l = c.args.self in
    let listed : c.if-rows_within.value ≡ (c.rows_within.result && eqb (length l.starts.now) (c.args.n + 1))
    = elim c.if-rows_within.branch [ then-rows_within w ↦ and-asked w.if-rows_within.true w.value-is | else-rows_within w ↦ and-passed _ w.if-rows_within.false w.value-is ] in
    let run : c.if-self-n.value ≡ (c.if-rows_within.value && eqb (length l.runs.now) (run_starts c.args.form c.args.n))
    = elim c.if-self-n.branch [ then-self-n w ↦ and-asked w.if-self-n.true (w.value-is ∙ ap (eqb (length l.runs.now)) w.run_starts.ensures) | else-self-n w ↦ and-passed _ w.if-self-n.false w.value-is ] in
    c.if-self-run_starts.false ∙ rw c.if-self-run_starts.false at (sized-by c.args.form c.args.n (lists_of l) _ _ _ c.rows_within.ensures listed run)
