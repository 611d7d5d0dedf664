use mathlib.Core.Path.{◌∙◌}
use borrow.Author.Rules.{rules}
use Rattle.printing.specs.Prints.{from-start}
use Rattle.base.specs.ZerosLaws.{blank-same}
use Rattle.sheet.proofs.CountLaws.{rows-printable}
use Rattle.sheet.proofs.print.Goals as goal

pub put_sheet-requires : goal.put_sheet-requires
put_sheet-requires c = (c.new-printer.ensures.start.1, rows-printable _ _ _ _ _ _ _ _ _ c.requires c.count_rows.ensures)

pub returns : goal.returns
returns c =
    record {
      lower = _;
      counted = c.count_rows.ensures;
      printed = (from-start c.put_sheet.ensures c.new-printer.ensures.start (search rules)).exit;
      cleared = c.clear.ensures ∙ blank-same _ _ _ c.count_rows.ensures.size;
    }

pub count_rows-requires : goal.count_rows-requires
count_rows-requires c = c.requires.countable
