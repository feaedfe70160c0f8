-- Answers to the goals of `Shared::pass` in `src/shared.rt`.
use Rattle.mpw_desk.proofs.shared.Shared.pass.Goals as goal

pub returns-clause-admits : goal.returns-clause-admits
returns-clause-admits g c = record {
  before = _;
  behind = _;
  goes = c.admit.ensures.goes;
  from = c.admit.ensures.from;
  admits = c.admit.ensures.admits;
}
