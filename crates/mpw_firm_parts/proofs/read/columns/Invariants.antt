-- The invariants of the loops of `columns` in `src/read.rt`.
use Rattle.std.proofs.Common.{drop, map}
use Rattle.std.specs.List.{AllZip}
use Rattle.mpw_firm_parts.specs.Parts.{IsListOf}
use Rattle.mpw_firm_parts.specs.Reading.{all_of, column_of}
use Rattle.mpw_firm_parts.proofs.Lists.{AreFront}
use Rattle.mpw_firm_parts.proofs.read.columns.Given as goal

abbrev pub invariant-loop-line : goal.invariant-loop-line
invariant-loop-line l =
    AreFront (all_of column_of (map (λ line. line.now) l.fn.lines))
    (all_of column_of (drop l.line-index (map (λ line. line.now) l.fn.lines))) l.columns.items
    l.lists.items × AllZip IsListOf l.columns.items l.lists.items
