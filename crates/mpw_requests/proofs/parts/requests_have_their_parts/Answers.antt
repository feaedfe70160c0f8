-- Answers to the goals of `requests_have_their_parts` in `src/parts.rt`.
use Rattle.mpw_requests.proofs.PartLemmas.{have_their_parts}
use Rattle.mpw_requests.proofs.parts.requests_have_their_parts.Goals as goal

pub returns : goal.returns
returns c = have_their_parts
