-- Answers to the goals of `denials_to_sign_are_true` in `src/desk.rt`.
use Rattle.mpw_laws.proofs.WaiverLemmas.{asker-told, submitter-told}
use Rattle.mpw_laws.proofs.desk.denials_to_sign_are_true.Goals as goal

pub returns : goal.returns
returns c = let lacked = c.entering_is_by_the_need.ensures.lacks in
    record {
      submitter = submitter-told lacked c.denials_of_separation_are_true.ensures.submitter;
      asker = asker-told lacked c.denials_of_separation_are_true.ensures.asker;
    }
