use mathlib.Core.Path.{◌∙◌}
use Rattle.blocks.proofs.FileLaws.{finished}
use Rattle.blocks.proofs.finish.Goals as goal

pub returns : goal.returns
returns c =
    let zeroed = c.put_zeros in
    c.seal_all.ensures ∙ finished c.args.file.now zeroed.new.file _ c.requires zeroed.auto.file zeroed.ensures
