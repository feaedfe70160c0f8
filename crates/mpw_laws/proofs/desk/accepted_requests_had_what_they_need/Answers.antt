-- Answers to the goals of `accepted_requests_had_what_they_need` in `src/desk.rt`.
use Rattle.mpw_requests.specs.Needs.{need_of}
use Rattle.mpw_laws.proofs.GuardLemmas.{guarded_ok}
use Rattle.mpw_laws.proofs.desk.accepted_requests_had_what_they_need.Goals as goal

pub returns : goal.returns
returns c = λ s connection request kept lines e.
    c.entering_is_by_the_need.ensures.has s.policy connection (need_of request)
    (guarded_ok s connection request kept lines e).has_entered
