-- Answers to the goals of `hidden_markers_leave_no_trace` in `src/listings.rt`.
use Rattle.mpw_laws.proofs.HiddenLemmas.{hidden_traceless}
use Rattle.mpw_laws.proofs.listings.hidden_markers_leave_no_trace.Goals as goal

pub returns : goal.returns
returns c = hidden_traceless
