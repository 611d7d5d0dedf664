use mathlib.Core.Path.{sym}
use Rattle.base.specs.TableLaws.{length-table}
use Rattle.factor_reading.proofs.ReadLaws.{cleared-part, filled}
use Rattle.factor_reading.proofs.fill.Goals as goal

pub slice_bounds-read_as-end-2 : goal.slice_bounds-read_as-end-2
slice_bounds-read_as-end-2 g c = sym (cleared-part _ _ _ _ c.clear.ensures c.requires.1)

pub read_as-requires : goal.read_as-requires
read_as-requires g c = rw (cleared-part _ c.args.count _ _ c.clear.ensures c.requires.1) c.requires.0

pub returns : goal.returns
returns g c =
    filled _ (g.T.FieldAs.values_at c.args.file.now c.args.at) _ _ _ _ c.clear.ensures c.requires.1 (rw (g.met.T.FieldAs.reads_each c.args.file.now c.args.at c.args.count) (length-table _ c.args.count)) c.read_as.ensures.1
