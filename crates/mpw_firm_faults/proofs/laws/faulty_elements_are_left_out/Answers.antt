-- Answers to the goals of `faulty_elements_are_left_out` in `src/laws.rt`.
use Rattle.mpw_firm_faults.proofs.LeftOut.{are_left_out, are_listed}
use Rattle.mpw_firm_faults.proofs.laws.faulty_elements_are_left_out.Goals as goal

pub returns-clause-listed : goal.returns-clause-listed
returns-clause-listed c = are_listed

pub returns-clause-left : goal.returns-clause-left
returns-clause-left c = are_left_out
