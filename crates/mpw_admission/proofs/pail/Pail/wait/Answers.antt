-- Answers to the goals of `Pail::wait` in `src/lines.rt`.
use Rattle.std.proofs.Common.{◌≡◌, rules}
use Rattle.mpw_admission.specs.Pail.{wait_of}
use Rattle.mpw_admission.proofs.Filling.{line_flows_in}
use Rattle.mpw_admission.proofs.pail.Pail.wait.Goals as goal

pub returns-clause-enough : goal.returns-clause-enough
returns-clause-enough c = λ past holds.
    let pail = c.args.self.now in
    let is : c.div_ceil.result ≡ wait_of pail c.args.now = search rules in
    rw is (search (rules, line_flows_in pail.level pail.rate pail.since pail.most c.args.now (search rules) past holds))
