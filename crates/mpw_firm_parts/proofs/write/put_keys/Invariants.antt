-- The invariants of the loops of `put_keys` in `src/write.rt`.
use Rattle.std.proofs.Common.{take}
use Rattle.std.specs.List.{flat_map}
use Rattle.std.specs.Io.KnownBytes.{Appends}
use Rattle.mpw_firm_parts.specs.Text.{key_part}
use Rattle.mpw_firm_parts.proofs.write.put_keys.Given as goal

abbrev pub invariant-loop-key : goal.invariant-loop-key
invariant-loop-key g l =
    Appends (g.W.Write.contents l.initial.writer) (g.W.Write.contents l.writer)
    (flat_map key_part (take l.key-index l.keys))
