-- The invariants of the loops of `joined` in `src/whole.rt`.
use Rattle.std.proofs.Common.{◌≡◌, ◌++◌, length}
use Rattle.std.specs.Vec.Iter.{into_iter_items}
use Rattle.mpw_firm_parts.specs.Stitching.{columns_of, lists_of}
use Rattle.mpw_firm_parts.proofs.whole.joined.Given as goal

-- what was moved, with what is left, is what all parts have
abbrev pub invariant-loop-part : goal.invariant-loop-part
invariant-loop-part l =
    (l.columns.items ++ columns_of (into_iter_items l.part-iterator) ≡ columns_of l.fn.parts.items)
    × (length l.columns.items ≡ length l.lists.items)
    × (l.lists.items ++ lists_of (into_iter_items l.part-iterator) ≡ lists_of l.fn.parts.items)
