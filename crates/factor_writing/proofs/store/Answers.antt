use Rattle.factor_contents.specs.FactorFile.{factor_lists}
use Rattle.factor_writing.proofs.WriteLaws.{all_laid, head_in, lists-in, values-in, whole-file}
use Rattle.factor_writing.proofs.store.Goals as goal

pub lay_head-at-requires : goal.lay_head-at-requires
lay_head-at-requires c =
    let a = c.args in
    head_in _ _ _ (factor_lists a.r.now a.c.now a.lower_starts.now a.lower_index.now a.lower_values.now a.upper_starts.now a.upper_index.now a.upper_values.now a.d.now) a.file.now c.requires.0 c.requires.1

pub lay_lists-at-requires : goal.lay_lists-at-requires
lay_lists-at-requires c =
    let m = c.lay_head-at in
    let a = c.args in
    lists-in _ _ _ (factor_lists a.r.now a.c.now a.lower_starts.now a.lower_index.now a.lower_values.now a.upper_starts.now a.upper_index.now a.upper_values.now a.d.now) a.file.now c.requires.0 c.requires.1 m.new.file _ m.ensures.0 m.auto.file

pub lay_values-at-requires : goal.lay_values-at-requires
lay_values-at-requires c =
    let m = c.lay_head-at in
    let o = c.lay_lists-at in
    let a = c.args in
    values-in _ _ _ (factor_lists a.r.now a.c.now a.lower_starts.now a.lower_index.now a.lower_values.now a.upper_starts.now a.upper_index.now a.upper_values.now a.d.now) a.file.now c.requires.0 c.requires.1 m.new.file o.new.file _ _ m.ensures.0 m.auto.file o.ensures.0 o.auto.file

pub finish-requires : goal.finish-requires
finish-requires c =
    let m = c.lay_head-at in
    let o = c.lay_lists-at in
    let v = c.lay_values-at in
    let a = c.args in
    whole-file _ _ _ (factor_lists a.r.now a.c.now a.lower_starts.now a.lower_index.now a.lower_values.now a.upper_starts.now a.upper_index.now a.upper_values.now a.d.now) a.file.now c.requires.0 c.requires.1 m.new.file o.new.file _ _ m.ensures.0 m.auto.file o.ensures.0 o.auto.file
    v.new.file _ v.ensures.0 v.auto.file

pub returns : goal.returns
returns c =
    all_laid _ _ _ _ _ _ _ c.lay_head-at.ensures.1 c.lay_lists-at.ensures.1 c.lay_values-at.ensures.1 c.finish.ensures
