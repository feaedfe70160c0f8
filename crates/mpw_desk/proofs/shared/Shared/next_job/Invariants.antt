-- The invariants of the loops of `Shared::next_job` in `src/worker.rt`.
use Rattle.mpw_desk.specs.Passes.{Works}
use Rattle.mpw_desk.proofs.shared.Shared.next_job.Given as goal

abbrev pub invariant-loop : goal.invariant-loop
invariant-loop g l =
    (goal.iterator-loop g).can_next l.iterator' × (goal.iterator-loop g).is_finite l.iterator'
    × Works l.initial.pass l.pass
