-- The invariants of the loops of `is_structure` in `src/unreached.rt`.
use Rattle.std.proofs.Common.{◌≡◌, drop}
use Rattle.std.specs.List.{list_any}
use Rattle.mpw_geom.specs.Names.{name_eq}
use Rattle.mpw_firm_skipping.specs.Structures.{name_at}
use Rattle.mpw_firm_skipping.proofs.unreached.is_structure.Given as goal

-- none of those so far has the name
abbrev pub invariant-loop-span : goal.invariant-loop-span
invariant-loop-span l =
    list_any (λ s. name_eq (name_at l.text s.name) l.name) (drop l.span-index l.structures)
    ≡ list_any (λ s. name_eq (name_at l.text s.name) l.name) l.structures
