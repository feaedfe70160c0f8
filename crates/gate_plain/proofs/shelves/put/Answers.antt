-- Answers to the goals of `put` in `src/shelves.rt`.
use Rattle.std.proofs.Common.{sym, ap, ◌∙◌}
use Rattle.mpw_hier.specs.Shelf.{bound_to}
use Rattle.gate_plain.proofs.shelves.put.Goals as goal

pub put-requires-clause-bound : goal.put-requires-clause-bound
put-requires-clause-bound c =
    ap (bound_to c.args.shelf.now) (sym c.as_slice.ensures) ∙ c.in_ok-bound.ensures.ok
