-- Answers to the goals of `whole_of` in `src/whole.rt`.
use Rattle.mpw_firm.proofs.ListedWholes.{listed_if}
use Rattle.mpw_firm.proofs.whole.whole_of.Goals as goal

pub returns-clause-listed : goal.returns-clause-listed
returns-clause-listed c =
    listed_if c.wholes_are_listed_as_checks.ensures _ _ c.make_whole.ensures.whole
