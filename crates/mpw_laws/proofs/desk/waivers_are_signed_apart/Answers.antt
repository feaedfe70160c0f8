-- Answers to the goals of `waivers_are_signed_apart` in `src/desk.rt`.
use Rattle.mpw_laws.proofs.WaiverLemmas.{asked-shown, signed-apart}
use Rattle.mpw_laws.proofs.desk.waivers_are_signed_apart.Goals as goal

pub returns : goal.returns
returns c = record {
  asked = asked-shown c.waivers_are_of_shown_markers.ensures.waived;
  signed = signed-apart c.signers_stand_apart.ensures;
}
