-- The invariants of the loops of `follow_on` in `src/whole.rt`.
use Rattle.std.proofs.Common.{◌≤◌, take}
use Rattle.mpw_firm_parts.specs.Stitching.{FollowOn}
use Rattle.mpw_firm_parts.proofs.whole.follow_on.Given as goal

-- the parts so far follow on one another within the whole
abbrev pub invariant-loop-part : goal.invariant-loop-part
invariant-loop-part l =
    FollowOn 0 (take l.part-index l.fn.parts) l.reached × (l.reached ≤ l.fn.columns)
