-- Answers to the goals of `open_desk` in `src/opening.rt`.
use Rattle.mpw_stored_desk.proofs.ServingLemmas.{idle_of}
use Rattle.mpw_stored_desk.proofs.opening.open_desk.Goals as goal

pub returns-in-Ok-clause-idle : goal.returns-in-Ok-clause-idle
returns-in-Ok-clause-idle c clean = idle_of _ (c.in-Ok.ensures.opened clean).0
