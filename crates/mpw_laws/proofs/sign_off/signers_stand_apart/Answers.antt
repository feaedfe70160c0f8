-- Answers to the goals of `signers_stand_apart` in `src/sign_off.rt`.
use Rattle.mpw_laws.proofs.Shown.{signers_apart}
use Rattle.mpw_laws.proofs.sign_off.signers_stand_apart.Goals as goal

pub returns : goal.returns
returns c = signers_apart c.places_are_of_their_keys.ensures c.signers_are_apart.ensures.apart
