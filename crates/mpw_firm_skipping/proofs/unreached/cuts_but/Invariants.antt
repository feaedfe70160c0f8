-- The invariants of the loops of `cuts_but` in `src/unreached.rt`.
use Rattle.std.proofs.Common.{◌≡◌, filter, map, not, take}
use Rattle.mpw_firm_skipping.specs.Structures.{cut_of, has_name, name_at}
use Rattle.mpw_firm_skipping.proofs.unreached.cuts_but.Given as goal

-- the cuts are those of the structures so far
abbrev pub invariant-loop-span : goal.invariant-loop-span
invariant-loop-span l =
    l.cuts.items ≡ map cut_of (filter
    (λ s. not (has_name (map (λ n. n.now) l.names) (name_at l.text s.name)))
    (take l.span-index l.structures))
