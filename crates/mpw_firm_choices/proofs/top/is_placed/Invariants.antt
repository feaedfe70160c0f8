-- The invariants of the loops of `is_placed` in `src/top.rt`.
use Rattle.std.proofs.Common.{◌≡◌, drop}
use Rattle.std.specs.List.{list_any}
use Rattle.mpw_geom.specs.Names.{name_eq}
use Rattle.mpw_firm_choices.proofs.top.is_placed.Given as goal

-- none of the names so far is the one
abbrev pub invariant-loop-other : goal.invariant-loop-other
invariant-loop-other l = list_any (λ p. name_eq p.now l.name) (drop l.other-index l.placed)
    ≡ list_any (λ p. name_eq p.now l.name) l.placed
