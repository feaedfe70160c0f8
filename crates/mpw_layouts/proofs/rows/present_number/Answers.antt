-- Answers to the goals of `present_number` in `src/rows.rt`.
use Rattle.std.proofs.Common.{sym, ◌∙◌}
use Rattle.mpw_layouts.proofs.rows.present_number.Goals as goal

pub returns-in-Some-clause-within : goal.returns-in-Some-clause-within
returns-in-Some-clause-within c = (c.shelves_have_their_numbers.ensures.cells c.args.shelf.now
    c.args.cell.now c.in-Some.number (sym c.present.ensures ∙ c.in-Some.is)).within
