-- The invariants of the loops of `put_patterns` in `src/look.rt`.
use Rattle.std.specs.List.{flat_map, range_with_len}
use Rattle.std.specs.Io.KnownBytes.{Appends}
use Rattle.mpw_firm_picture.specs.Patterns.{patterns_of}
use Rattle.mpw_firm_picture.proofs.look.put_patterns.Given as goal

abbrev pub invariant-loop-place : goal.invariant-loop-place
invariant-loop-place g l =
    Appends (g.W.Write.contents l.initial.writer) (g.W.Write.contents l.writer)
    (flat_map (patterns_of l.window) (range_with_len 0 l.place))
