-- The invariants of the loops of `elements_of` in `src/elements.rt`.
use Rattle.std.proofs.Common.{◌≡◌, ◌++◌, length}
use Rattle.mpw_firm_skipping.specs.Elements.{elements_in, elements_of}
use Rattle.mpw_firm_skipping.proofs.elements.elements_of.Given as goal

-- with those in the remaining records these are all
abbrev pub invariant-loop-found : goal.invariant-loop-found
invariant-loop-found l = l.spans.items ++ elements_in l.opened l.finds ≡ elements_of l.text

abbrev pub decreases-loop-found : goal.decreases-loop-found
decreases-loop-found l = length l.finds
