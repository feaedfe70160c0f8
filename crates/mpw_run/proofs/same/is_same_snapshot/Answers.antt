-- Answers to the goals of `is_same_snapshot` in `src/same.rt`.
use Rattle.std.proofs.lemmas.Bool.Decides.{same_from_decides}
use Rattle.mpw_run.specs.Same.{same_snapshot}
use Rattle.mpw_run.proofs.same.is_same_snapshot.Goals as goal

pub returns : goal.returns
returns c =
    same_from_decides c.is_same.result (same_snapshot c.args.a.now c.args.b.now) c.is_same.ensures
    (c.tests_are_exact.ensures.snapshots c.args.a.now c.args.b.now)
