-- Answers to the goals of `record_at` in `src/record.rt`.
use Rattle.std.proofs.Common.{sym, arith, length-take, length-drop}
use Rattle.mpw_records.proofs.Sizes.{least_from_none}
use Rattle.mpw_records.proofs.record.record_at.Goals as goal

pub returns-clause-sized : goal.returns-clause-sized
returns-clause-sized c =
    let h = least_from_none _ _ _ (sym c.in_default.ensures) in
    simp (length-take, length-drop) (omega (arith, h))
