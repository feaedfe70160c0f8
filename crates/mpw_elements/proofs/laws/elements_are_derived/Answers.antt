-- Answers to the goals of `elements_are_derived` in `src/laws.rt`.
use Rattle.mpw_elements.proofs.DerivedElements as derived
use Rattle.mpw_elements.proofs.laws.elements_are_derived.Goals as goal

pub returns : goal.returns
returns c = derived.elements_are_derived
