-- Answers to the goals of `optional_width` in `src/path.rt`.
use Rattle.mpw_elements.proofs.Shapes.{no_width}
use Rattle.mpw_elements.proofs.path.optional_width.Goals as goal

pub returns-then-not-is_kind-clause-even : goal.returns-then-not-is_kind-clause-even
returns-then-not-is_kind-clause-even c = no_width
