-- The invariants of the loops of `first_operation` in `src/words.rt`.
use Rattle.std.proofs.Common.{◌≡◌, drop}
use Rattle.mpw_requests.specs.Words.{operation_text, first_of}
use Rattle.mpw_requests.proofs.words.first_operation.Given as goal

abbrev pub invariant-loop-operation : goal.invariant-loop-operation
invariant-loop-operation l = first_of operation_text l.fn.word l.fn.operations
    ≡ first_of operation_text l.fn.word (drop l.operation-index l.fn.operations)
