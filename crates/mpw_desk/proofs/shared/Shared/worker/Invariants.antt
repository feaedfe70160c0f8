-- The invariants of the loops of `Shared::worker` in `src/worker.rt`.
use Rattle.mpw_desk.specs.Passes.{Works}
use Rattle.mpw_desk.proofs.shared.Shared.worker.Given as goal

abbrev pub invariant-loop : goal.invariant-loop
invariant-loop g l =
    (goal.iterator-loop g).can_next l.iterator' × (goal.iterator-loop g).is_finite l.iterator'
    × Works l.initial.pass l.pass
