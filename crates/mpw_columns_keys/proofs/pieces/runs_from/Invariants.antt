-- The invariants of the loops of `runs_from` in `src/pieces.rt`.
use Rattle.mpw_columns_keys.proofs.Runs.{ComeTo}
use Rattle.mpw_columns_keys.proofs.pieces.runs_from.Given as goal

abbrev pub invariant-loop-piece : goal.invariant-loop-piece
invariant-loop-piece l = ComeTo l.fn.first l.rest l.runs.items l.run l.piece-index
