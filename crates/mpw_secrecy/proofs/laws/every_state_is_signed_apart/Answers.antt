-- Answers to the goals of `every_state_is_signed_apart` in `src/laws.rt`.
use Rattle.mpw_secrecy.proofs.Signers.{signers_apart}
use Rattle.mpw_secrecy.proofs.laws.every_state_is_signed_apart.Goals as goal

pub returns : goal.returns
returns c =
    signers_apart c.waivers_are_of_shown_markers.ensures.waived c.signers_stand_apart.ensures
