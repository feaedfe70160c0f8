-- Answers to the goals of `signers_stay_apart` in `src/waivers.rt`.
use Rattle.mpw_laws.proofs.Reached.{reached-size, reached-apart}
use Rattle.mpw_laws.proofs.waivers.signers_stay_apart.Goals as goal

pub returns : goal.returns
returns c = record { size = reached-size; apart = reached-apart }
