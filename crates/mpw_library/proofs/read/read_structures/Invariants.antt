-- The invariants of the loops of `read_structures` in `src/read.rt`.
use Rattle.std.proofs.Common.{length}
use Rattle.mpw_structures.specs.Library.{IsLibrary}
use Rattle.mpw_library.specs.Grammar.{all_structures}
use Rattle.mpw_library.proofs.Loops.{StructuresTo}
use Rattle.mpw_library.proofs.read.read_structures.Given as goal

-- the structures so far, and those to come
abbrev pub invariant-loop-structures : goal.invariant-loop-structures
invariant-loop-structures l = record {
  same : StructuresTo l.unit l.structures l.records
      (all_structures l.unit l.initial.records);
  shape : IsLibrary l.structures;
}

abbrev pub decreases-loop-structures : goal.decreases-loop-structures
decreases-loop-structures l = length l.records
