-- Answers to the goals of `serve_unless_full` in `src/serving.rt`.
use Rattle.mpw_server.specs.declared.fault.ServiceFault.TheVariants.{FullStore}
use Rattle.mpw_server.proofs.serving.serve_unless_full.Goals as goal

pub returns-then-is_full : goal.returns-then-is_full
returns-then-is_full g c = c.store_of.ensures FullStore tt
