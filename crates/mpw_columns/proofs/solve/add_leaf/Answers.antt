-- Answers to the goals of `add_leaf` in `src/solve.rt`.
use Rattle.mpw_columns.proofs.Pieced.{found_pieces}
use Rattle.mpw_columns.proofs.Solving.{behind_others}
use Rattle.mpw_columns.specs.Internal.Pieces.{seen_layout}
use Rattle.mpw_columns.proofs.solve.add_leaf.Goals as goal

pub returns : goal.returns
returns c =
    let l = c.args.task.now.layout.now in
    let axis = c.args.task.now.axis in
    let found = c.in_ok-found.found.items in
    behind_others l axis c.args.core.now c.args.keys.now.items c.append.new.self.items found
    c.in_ok-append.ensures.items
    (found_pieces c.test_decides_pair_steps.ensures l.snapshot.now.deck.rules axis (seen_layout l axis)
    c.args.core.now found c.in_ok-found.ensures)
