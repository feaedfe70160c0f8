-- Answers to the goals of `instance` in `src/frame.rt`.
use Rattle.mpw_walk.proofs.Arrays.{within_first, within_column}
use Rattle.mpw_walk.proofs.frame.instance.Goals as goal

pub point_after-first-requires-clause-from : goal.point_after-first-requires-clause-from
point_after-first-requires-clause-from c =
    within_first c.args.reference.now c.args.row c.args.column c.requires.near c.requires.row
    c.requires.column

pub point_after-first-requires-clause-to : goal.point_after-first-requires-clause-to
point_after-first-requires-clause-to c =
    within_column c.args.reference.now c.args.row c.args.column c.requires.near c.requires.row
    c.requires.column

pub point_after-requires-clause-from : goal.point_after-requires-clause-from
point_after-requires-clause-from c =
    rw c.point_after-first.ensures (within_column c.args.reference.now c.args.row c.args.column
    c.requires.near c.requires.row c.requires.column)
