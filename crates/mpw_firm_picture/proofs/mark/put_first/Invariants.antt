-- The invariants of the loops of `put_first` in `src/mark.rt`.
use Rattle.std.proofs.Common.{◌≡◌, ◌-◌, length, take}
use Rattle.std.specs.List.{flat_map}
use Rattle.std.specs.Io.KnownBytes.{Appends}
use Rattle.mpw_firm_picture.specs.Density.{of_rule}
use Rattle.mpw_firm_picture.specs.Marked.{mark_text}
use Rattle.mpw_firm_picture.proofs.mark.put_first.Given as goal

abbrev pub invariant-loop-mark : goal.invariant-loop-mark
invariant-loop-mark g l =
    (l.left ≡ l.limit - length (of_rule (take l.mark-index l.marks) l.place))
    × Appends (g.W.Write.contents l.initial.writer) (g.W.Write.contents l.writer)
    (flat_map (mark_text l.window) (take l.limit (of_rule (take l.mark-index l.marks) l.place)))
