-- The invariants of the loops of `seen_by` in `src/seen.rt`.
use Rattle.std.proofs.Common.{◌≡◌, take}
use Rattle.mpw_access.specs.Seen.{seen_by}
use Rattle.mpw_access.proofs.seen.seen_by.Given as goal

abbrev pub invariant-loop-submission : goal.invariant-loop-submission
invariant-loop-submission l =
    l.seen.items ≡ seen_by l.fn.policy l.fn.connection (take l.submission-index l.fn.submissions)
