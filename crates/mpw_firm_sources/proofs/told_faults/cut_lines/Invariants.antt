-- The invariants of the loops of `cut_lines` in `src/told_faults.rt`.
use Rattle.std.proofs.Common.{◌≡◌, take}
use Rattle.std.specs.String.{string_bytes}
use Rattle.mpw_firm_sources.specs.FaultLines.{cut_lines}
use Rattle.mpw_firm_sources.proofs.told_faults.cut_lines.Given as goal

abbrev pub invariant-loop-found : goal.invariant-loop-found
invariant-loop-found l =
    string_bytes l.text ≡ cut_lines l.file l.source (take l.found-index l.faults)
