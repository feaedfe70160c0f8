-- The invariants of the loops of `add_keys` in `src/find.rt`.
use Rattle.std.proofs.Common.{◌≡◌, ◌++◌, map, take}
use Rattle.mpw_job.specs.Answers.{key_at}
use Rattle.mpw_work.proofs.find.add_keys.Given as goal

abbrev pub invariant-loop-run : goal.invariant-loop-run
invariant-loop-run l =
    l.keys.items ≡ l.initial.keys.items ++ map (key_at l.place) (take l.run-index l.runs)
