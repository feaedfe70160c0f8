-- Answers to the goals of `every_state_keeps_separation` in `src/desk.rt`.
use Rattle.mpw_laws.proofs.desk.every_state_keeps_separation.Goals as goal

pub returns : goal.returns
returns c = λ officer digest calls.
    (c.every_state_keeps_its_tables.ensures officer digest calls).sound
