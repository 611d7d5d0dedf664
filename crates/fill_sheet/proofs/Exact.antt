-- "Every line has its exact width for every accepted matrix."
use Rattle.base.specs.Answers.{Answer}
use Rattle.std.specs.Prelude.{Ok}
use Prim.Native.Nat.{◌*◌}
use mathlib.Core.Path.{◌≡◌, refl, ap}
use lib.ListN.{length}
use Rattle.base.specs.declared.Counts.{Counts}
use Rattle.base.specs.declared.Form.TheVariants.{Shared}
use Rattle.matrix.specs.Input.{Input}
use Rattle.outcome.specs.Buffers.{Outcome, sizes, ended}
use Rattle.outcome.specs.Structure.{structure}
use Rattle.lists.proofs.Handed.{structure-done, stop-done}
use Rattle.sheet.specs.Sheet.{pages_for, Lines}
use Rattle.sheet.proofs.Widths as widths
use Rattle.fill_sheet.specs.FillSheet.{fill_line, fill_sheet, ask_sheet, sheet_structure, SheetBuffers, sheet_outcome}
use Rattle.fill_sheet.proofs.Left.{line-exact, few}

-- the sheet that a done call leaves: 50 lines a page, each of its exact width
pub sheet-exact : (i : Input) (s : SheetBuffers) (c : Counts) → (sheet_outcome i s).answer ≡ Ok c → Lines (pages_for i.n * 50) (sheet_outcome i s).held.sheet
unfolding sheet_outcome sheet_structure fill_sheet
sheet-exact i s c e =
    let o : Outcome Answer = sheet_structure i s.stores (length s.sheet) in
    let p = stop-done (ask_sheet i (sizes s.stores) (length s.sheet)) s.stores o.buffers (structure Shared i s.stores) c (ap (λ (a : Answer). ended a o.buffers) e) in
    let D = structure-done Shared refl i s.stores o.buffers c p.1 in
    rw e (widths.sheet-exact i.n (fill_line i) (line-exact i s.stores o.buffers D) (few i s.stores o.buffers D))
