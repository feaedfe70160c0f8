-- Answers to the goals of `passes_receive_the_calls_of_their_lines` in `src/laws.rt`.
use Rattle.mpw_desk.proofs.Receiving.{receives-end, receives-lines}
use Rattle.mpw_desk.proofs.laws.passes_receive_the_calls_of_their_lines.Goals as goal

pub returns : goal.returns
returns c = record { lines = receives-lines; end = receives-end }
