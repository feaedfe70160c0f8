-- Answers to the goals of `Policy::session` in `src/policy.rt`.
use Rattle.mpw_rbac.proofs.policy.Policy.session.Goals as goal

pub returns : goal.returns
returns c = rw (← c.self.view_is) c.get.ensures
