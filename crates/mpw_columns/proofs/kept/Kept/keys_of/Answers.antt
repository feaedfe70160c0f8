-- Answers to the goals of `Kept::keys_of` in `src/kept.rt`.
use Rattle.std.proofs.Common.{sym, subst, arith}
use Rattle.mpw_columns.specs.Internal.Pieces.{IsSolved}
use Rattle.mpw_columns.proofs.kept.Kept.keys_of.Goals as goal

pub keys_of-requires-clause-solved : goal.keys_of-requires-clause-solved
keys_of-requires-clause-solved c =
    let within = c.if-place-len.true in
    let long = c.len.ensures in
    subst (IsSolved c.args.task.now.layout.now c.args.task.now.axis) (sym c.index.ensures)
    (c.requires.solved _ _ (omega (arith, within, long)))
