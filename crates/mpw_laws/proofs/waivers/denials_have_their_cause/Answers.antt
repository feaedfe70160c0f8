-- Answers to the goals of `denials_have_their_cause` in `src/waivers.rt`.
use Rattle.mpw_laws.proofs.Signed.{submitter_least, asker_asked}
use Rattle.mpw_laws.proofs.waivers.denials_have_their_cause.Goals as goal

pub returns : goal.returns
returns c = record { submitter = submitter_least; asker = asker_asked }
