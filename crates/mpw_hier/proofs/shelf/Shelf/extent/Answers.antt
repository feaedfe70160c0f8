-- Answers to the goals of `Shelf::extent` in `src/shelf.rt`.
use Rattle.std.proofs.Common.{sym, ap, ◌∙◌}
use Rattle.mpw_hier.specs.Boxes.{extent_of}
use Rattle.mpw_hier.proofs.Tops.{no_items}
use Rattle.mpw_hier.proofs.shelf.Shelf.extent.Goals as goal

pub returns-in_err-size-clause-extent : goal.returns-in_err-size-clause-extent
unfolding extent_of
returns-in_err-size-clause-extent c = c.from_residual.ensures
    ∙ sym (ap extent_of (no_items c.args.self.now c.args.number c.in_err-size.ensures.none))
