-- Answers to the goals of `parts_make_the_layout` in `src/laws.rt`.
use Rattle.mpw_firm_spread.proofs.Made.{parts_make}
use Rattle.mpw_firm_spread.proofs.laws.parts_make_the_layout.Goals as goal

pub returns : goal.returns
returns c =
    parts_make c.each_column_has_its_list.ensures c.lists_make_the_layout.ensures
