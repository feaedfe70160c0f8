-- Answers to the goals of `Shelf::count` in `src/shelf.rt`.
use Rattle.std.proofs.Common.{length, sym, ap}
use Rattle.mpw_hier.proofs.Tops.{no_items}
use Rattle.mpw_hier.proofs.shelf.Shelf.count.Goals as goal

pub returns-in-None-clause-count : goal.returns-in-None-clause-count
returns-in-None-clause-count c =
    sym (ap length (no_items c.args.self.now c.args.number c.in-None.ensures.none))
