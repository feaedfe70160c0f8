-- Answers to the goals of `missed_instances_show_nothing_met` in `src/laws.rt`.
use Rattle.mpw_walk.proofs.Missed.{roots_carry, instances_carry, roots_missed, instances_missed}
use Rattle.mpw_walk.proofs.Taken.{meeting}
use Rattle.mpw_walk.proofs.laws.missed_instances_show_nothing_met.Goals as goal

pub returns : goal.returns
returns c = record {
  points = meeting;
  carried_by_roots = roots_carry;
  carried_by_instances = instances_carry;
  missed_roots = roots_missed c.extents_are_walked.ensures;
  missed_instances = instances_missed c.extents_are_walked.ensures;
}
