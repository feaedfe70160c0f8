-- The invariants of the loops of `first_orient` in `src/words.rt`.
use Rattle.std.proofs.Common.{◌≡◌, drop}
use Rattle.mpw_requests.specs.Words.{orient_text, first_of}
use Rattle.mpw_requests.proofs.words.first_orient.Given as goal

abbrev pub invariant-loop-orient : goal.invariant-loop-orient
invariant-loop-orient l = first_of orient_text l.fn.word l.fn.orients
    ≡ first_of orient_text l.fn.word (drop l.orient-index l.fn.orients)
