-- Answers to the goals of `waivers_are_of_shown_markers` in `src/sign_off.rt`.
use Rattle.mpw_laws.proofs.Listed.{told_are_shown}
use Rattle.mpw_laws.proofs.Shown.{asked_are_shown}
use Rattle.mpw_laws.proofs.sign_off.waivers_are_of_shown_markers.Goals as goal

pub returns : goal.returns
returns c = record {
  waived = asked_are_shown c.places_are_of_their_keys.ensures;
  signed = c.signers_stand_apart.ensures;
  told = told_are_shown;
}
