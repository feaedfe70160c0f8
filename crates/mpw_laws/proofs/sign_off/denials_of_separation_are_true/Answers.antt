-- Answers to the goals of `denials_of_separation_are_true` in `src/sign_off.rt`.
use Rattle.mpw_laws.proofs.SignOffDenials.{submitters_told, askers_told}
use Rattle.mpw_laws.proofs.sign_off.denials_of_separation_are_true.Goals as goal

pub returns : goal.returns
returns c = record {
  submitter = submitters_told c.places_are_of_their_keys.ensures
      c.denials_have_their_cause.ensures.submitter;
  asker = askers_told c.places_are_of_their_keys.ensures c.denials_have_their_cause.ensures.asker;
}
