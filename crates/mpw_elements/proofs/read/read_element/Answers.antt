-- Answers to the goals of `read_element` in `src/read.rt`.
use Rattle.std.proofs.Common.{rules}
use Rattle.mpw_records.specs.Records.{raw}
use Rattle.mpw_elements.proofs.Sequences.{element_is}
use Rattle.mpw_elements.proofs.read.read_element.Goals as goal

pub returns-then-is_err-clause-read : goal.returns-then-is_err-clause-read
returns-then-is_err-clause-read c =
    rw (← element_is c.args.unit (raw c.args.first) c.args.records.now) (search rules)

pub returns-else-is_err-clause-read : goal.returns-else-is_err-clause-read
returns-else-is_err-clause-read c =
    rw (← element_is c.args.unit (raw c.args.first) c.args.records.now) (search rules)
