-- Answers to the goals of `runs_in` in `src/solve.rt`.
use Rattle.std.proofs.lemmas.Result.{IfOk-weaker}
use Rattle.mpw_columns.specs.Internal.Pieces.{seen_layout}
use Rattle.mpw_columns.proofs.Pieced.{pieces_axis, pieces_sides, pieces_found}
use Rattle.mpw_columns.proofs.Solving.{only_pieces}
use Rattle.mpw_columns.proofs.solve.runs_in.Goals as goal

pub joined-requires-clause-axis : goal.joined-requires-clause-axis
joined-requires-clause-axis c =
    let l = c.args.task.now.layout.now in
    let axis = c.args.task.now.axis in
    pieces_axis l.snapshot.now.deck.rules axis (seen_layout l axis) c.args.core.now
    c.solve.new.solution.keys.items
    (only_pieces l axis c.args.core.now c.new.result.items c.solve.new.solution.keys.items
    c.new.ensures.items c.in_ok-solve.ensures.pieces)

pub joined-requires-clause-sides : goal.joined-requires-clause-sides
joined-requires-clause-sides c =
    let l = c.args.task.now.layout.now in
    let axis = c.args.task.now.axis in
    pieces_sides l.snapshot.now.deck.rules axis (seen_layout l axis) c.args.core.now
    c.solve.new.solution.keys.items
    (only_pieces l axis c.args.core.now c.new.result.items c.solve.new.solution.keys.items
    c.new.ensures.items c.in_ok-solve.ensures.pieces)

pub returns : goal.returns
returns c =
    let l = c.args.task.now.layout.now in
    let axis = c.args.task.now.axis in
    IfOk-weaker c.joined.result _ _ (λ v runs.
    pieces_found l.snapshot.now.deck.rules axis (seen_layout l axis) c.args.core.now
    c.solve.new.solution.keys.items v.items
    (only_pieces l axis c.args.core.now c.new.result.items c.solve.new.solution.keys.items
    c.new.ensures.items c.in_ok-solve.ensures.pieces) runs) c.joined.ensures.exact
