use native.Mathlib.Omega.{arith}
use Rattle.base.specs.FirstLaws.{passed-on}
use Rattle.factor_writing.proofs.WriteLaws.{lists-asked, lists-stop, lists-done}
use Rattle.factor_writing.proofs.write_lists.Goals as goal

pub ask_contents-requires : goal.ask_contents-requires
ask_contents-requires c =
    let h = c.requires in
    let g = h.lists in (
      g.r-size,
      g.c-size,
      record {
        few = h.few;
        some = h.some;
        lower-few = omega (arith, g.lower-index-size, h.lower-few);
        upper-few = omega (arith, g.upper-index-size, h.upper-few);
        lower-starts = g.lower-starts-size;
        upper-starts = g.upper-starts-size;
        reciprocals = g.d-size;
      },
    )

pub store-requires : goal.store-requires
store-requires c = let h = c.requires in (h.file, h.lists)

pub returns-in_err-ask_contents : goal.returns-in_err-ask_contents
returns-in_err-ask_contents c = rw (passed-on _ _ c.from_residual.ensures.1) (lists-stop _ _ _ _ _ (lists-asked _ _ _ _ c.requires.lists c.ask_contents.ensures) _ c.in_err-ask_contents.was)

pub returns : goal.returns
returns c =
    lists-done _ _ _ _ _ (lists-asked _ _ _ _ c.requires.lists c.ask_contents.ensures) _ c.in_ok-ask_contents.was c.store.ensures
