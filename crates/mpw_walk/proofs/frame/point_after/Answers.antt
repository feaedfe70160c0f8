-- Answers to the goals of `point_after` in `src/frame.rt`.
use Rattle.std.proofs.Common.{rules}
use Rattle.mpw_walk.proofs.frame.point_after.Goals as goal

pub coordinate_after-requires-clause-from : goal.coordinate_after-requires-clause-from
coordinate_after-requires-clause-from c = search rules

pub coordinate_after-requires-clause-to : goal.coordinate_after-requires-clause-to
coordinate_after-requires-clause-to c = search rules

pub coordinate_after-requires-2-clause-from : goal.coordinate_after-requires-2-clause-from
coordinate_after-requires-2-clause-from c = search rules

pub coordinate_after-requires-2-clause-to : goal.coordinate_after-requires-2-clause-to
coordinate_after-requires-2-clause-to c = search rules

pub returns : goal.returns
returns c = search rules
