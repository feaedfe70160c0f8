-- Answers to the goals of `one_file` in `src/uses.rt`.
use Rattle.mpw_firm_outputs.specs.Apart.{one_file_text}
use Rattle.mpw_firm_outputs.proofs.uses.one_file.Goals as goal

pub returns : goal.returns
unfolding one_file_text
returns c = c.misuse.ensures (one_file_text c.args.out.now c.args.other.now) c.format.ensures.ok
