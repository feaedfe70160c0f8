-- The invariants of the loops of `read_first` in `src/device.rt`.
use Rattle.std.proofs.Common.{◌≤◌, ◌≡◌, length}
use Rattle.mpw_firm_sources.specs.Fronts.{Takes}
use Rattle.mpw_firm_sources.proofs.device.read_first.Given as goal

-- each turn takes a byte at least
abbrev pub invariant-loop : goal.invariant-loop
invariant-loop g l =
    Takes (g.R.Read.remaining l.initial.reader) (g.R.Read.remaining l.reader) l.initial.bytes.items
    l.bytes.items
    × (l.counter ≤ length l.bytes.items)
    × (length l.chunk ≡ length l.initial.chunk)
