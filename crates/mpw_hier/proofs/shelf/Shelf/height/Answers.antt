-- Answers to the goals of `Shelf::height` in `src/shelf.rt`.
use Rattle.std.proofs.Common.{sym}
use Rattle.mpw_hier.proofs.Tops.{no_levels}
use Rattle.mpw_hier.proofs.shelf.Shelf.height.Goals as goal

pub returns-in-None : goal.returns-in-None
returns-in-None c = sym (no_levels c.args.self.now c.args.number c.in-None.ensures.none)
