-- Answers to the goals of `wholes_are_listed_as_checks` in `src/laws.rt`.
use Rattle.mpw_firm.proofs.ListedWholes.{listed_as_checks}
use Rattle.mpw_firm.proofs.laws.wholes_are_listed_as_checks.Goals as goal

pub returns : goal.returns
returns c =
    listed_as_checks c.parts_make_the_layout.ensures c.layout_determines_markers.ensures
