-- The invariants of the loops of `left_lines` in `src/told_faults.rt`.
use Rattle.std.proofs.Common.{◌≡◌, take}
use Rattle.std.specs.String.{string_bytes}
use Rattle.mpw_firm_sources.specs.FaultLines.{left_lines}
use Rattle.mpw_firm_sources.proofs.told_faults.left_lines.Given as goal

abbrev pub invariant-loop-found : goal.invariant-loop-found
invariant-loop-found l =
    (l.below ≡ l.initial.below)
    × (string_bytes l.text
    ≡ left_lines l.file l.source l.below.lifts l.below.top.now (take l.found-index l.faults))
