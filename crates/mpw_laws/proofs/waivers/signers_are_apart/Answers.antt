-- Answers to the goals of `signers_are_apart` in `src/waivers.rt`.
use Rattle.mpw_laws.proofs.Signed.{signers_apart, apart_sign}
use Rattle.mpw_laws.proofs.waivers.signers_are_apart.Goals as goal

pub returns : goal.returns
returns c = record { apart = signers_apart; all = apart_sign }
