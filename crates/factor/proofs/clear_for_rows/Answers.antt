use mathlib.Core.Path.{◌∙◌, ap}
use Rattle.base.specs.Scratch.{cursors_from}
use Rattle.factor.specs.Factoring.{zeroed}
use Rattle.factor.proofs.clear_for_rows.Goals as goal

pub returns : goal.returns
returns c = (
  c.clear.ensures,
  c.clear-2.ensures,
  c.clear-3.ensures,
  c.clear_region-2.ensures ∙ ap (zeroed _ (cursors_from _)) c.clear_region.ensures,
)
