-- Answers to the goals of `denied_only_for_the_least_broken_set` in `src/laws.rt`.
use Rattle.mpw_rbac_laws.proofs.DenialLemmas as denial
use Rattle.mpw_rbac_laws.proofs.laws.denied_only_for_the_least_broken_set.Goals as goal

pub returns : goal.returns
returns c = record {
  assign = denial.least-assign;
  inherit_static = denial.least-inherit_static;
  inherit_dynamic = denial.least-inherit_dynamic;
  activate = denial.least-activate;
  ssd = denial.least-ssd;
  dsd = denial.least-dsd;
}
