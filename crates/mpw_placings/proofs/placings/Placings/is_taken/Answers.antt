-- Answers to the goals of `Placings::is_taken` in `src/placings.rt`.
use Rattle.std.proofs.Common.{◌∙◌, is_some, ap}
use Rattle.mpw_placings.proofs.Maps.{taken_is}
use Rattle.mpw_placings.proofs.placings.Placings.is_taken.Goals as goal

pub returns : goal.returns
returns c = c.is_some.ensures ∙ ap is_some c.root.ensures
    ∙ taken_is c.args.self.now c.args.cell.now c.args.label.now
