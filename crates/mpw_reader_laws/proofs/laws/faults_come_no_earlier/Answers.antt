-- Answers to the goals of `faults_come_no_earlier` in `src/laws.rt`.
use Rattle.mpw_reader_laws.proofs.Later as laws
use Rattle.mpw_reader_laws.proofs.laws.faults_come_no_earlier.Goals as goal

pub returns : goal.returns
returns c = laws.faults_come_no_earlier
