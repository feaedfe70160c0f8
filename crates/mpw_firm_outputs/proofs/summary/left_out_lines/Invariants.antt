-- The invariants of the loops of `left_out_lines` in `src/summary.rt`.
use Rattle.std.proofs.Common.{◌≡◌, take}
use Rattle.std.specs.List.{flat_map, enumerate_from}
use Rattle.std.specs.String.{string_bytes}
use Rattle.mpw_firm_outputs.specs.LeftOut.{left_out_row}
use Rattle.mpw_firm_outputs.proofs.summary.left_out_lines.Given as goal

abbrev pub invariant-loop-place : goal.invariant-loop-place
invariant-loop-place l = string_bytes l.text
    ≡ flat_map (left_out_row l.counts l.most) (take l.place (enumerate_from 0 l.rules))
