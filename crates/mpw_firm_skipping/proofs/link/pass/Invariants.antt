-- The invariants of the loops of `pass` in `src/link.rt`.
use Rattle.std.proofs.Common.{map, take}
use Rattle.mpw_firm_skipping.specs.Internal.Passes.{IsPass, link_of}
use Rattle.mpw_firm_skipping.proofs.link.pass.Given as goal

abbrev pub invariant-loop-link : goal.invariant-loop-link
invariant-loop-link l =
    IsPass (map (λ n. n.now) l.initial.names.items) (map (λ n. n.now) l.names.items)
    (map link_of (take l.link-index l.waiting)) (map link_of l.left.items)
