-- The invariants of the loops of `read_elements` in `src/read.rt`.
use Rattle.std.proofs.Common.{◌≤◌, length, All}
use Rattle.mpw_structures.specs.Element.{IsElement}
use Rattle.mpw_library.specs.Grammar.{all_elements}
use Rattle.mpw_library.proofs.Loops.{ElementsTo}
use Rattle.mpw_library.proofs.read.read_elements.Given as goal

-- the elements so far, and those to come
abbrev pub invariant-loop-elements : goal.invariant-loop-elements
invariant-loop-elements l = record {
  same : ElementsTo l.unit l.elements.items l.records
      (all_elements l.unit l.initial.records);
  rest : length l.records ≤ length l.initial.records;
  shape : All IsElement l.elements.items;
}

abbrev pub decreases-loop-elements : goal.decreases-loop-elements
decreases-loop-elements l = length l.records
