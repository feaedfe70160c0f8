-- The invariants of the loops of `has_name` in `src/link.rt`.
use Rattle.std.proofs.Common.{◌≡◌, drop, map}
use Rattle.mpw_firm_skipping.specs.Structures.{has_name}
use Rattle.mpw_firm_skipping.proofs.link.has_name.Given as goal

-- none of the names so far is the one
abbrev pub invariant-loop-other : goal.invariant-loop-other
invariant-loop-other l =
    has_name (map (λ n. n.now) (drop l.other-index l.names)) l.name
    ≡ has_name (map (λ n. n.now) l.names) l.name
