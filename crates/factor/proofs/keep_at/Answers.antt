use Rattle.factor.specs.Factoring.{KeepAsked}
use Rattle.factor.specs.FormLaws.{keep-as, kept-rows, kept-columns, kept-none}
use Rattle.base.specs.declared.Form.TheVariants.{Plain, Shared}
use lib.Seq.{length-take-le}
use mathlib.Core.Path.{sym}
use Rattle.factor.proofs.keep_at.Goals as goal

pub keep_plain-requires : goal.keep_plain-requires
unfolding KeepAsked
keep_plain-requires c = keep-as c.args.form Plain _ _ _ _ _ _ _ c.in-Plain.is c.requires

pub slice_bounds-keep_shared-end : goal.slice_bounds-keep_shared-end
unfolding KeepAsked
slice_bounds-keep_shared-end c =
    sym (length-take-le c.args.n c.args.work.now (keep-as c.args.form Shared _ _ _ _ _ _ _ c.in-Shared.is c.requires).0)

pub keep_shared-requires : goal.keep_shared-requires
unfolding KeepAsked
keep_shared-requires c =
    let K = keep-as c.args.form Shared _ _ _ _ _ _ _ c.in-Shared.is c.requires in
    (length-take-le c.args.n c.args.work.now K.0, K.1)

pub returns-in-Plain : goal.returns-in-Plain
returns-in-Plain c = kept-rows c.args.form _ _ _ _ _ _ _ _ c.in-Plain.is c.keep_plain.ensures

pub returns-in-Shared : goal.returns-in-Shared
returns-in-Shared c = kept-columns c.args.form _ _ _ _ _ _ _ _ _ c.in-Shared.is c.keep_shared.ensures

pub returns-in-ByRow : goal.returns-in-ByRow
returns-in-ByRow c = kept-none c.args.form _ _ _ _ _ _ _ c.in-ByRow.is
